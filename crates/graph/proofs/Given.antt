-- A matching that is handed in is perfect exactly where each of its rows is right.
use Rattle.std.proofs.Common.{ℕ, ◌<◌, ◌≡◌, sym, ◌≢◌, ◌↔◌, ⊎_elim, arith}
use Rattle.graph.specs.Matchings.{Row, Col, Pattern, Entry, Perfect}
use Rattle.graph.proofs.Counting.{tri}

-- row r is right: its column is below n, was given to no smaller row, and has an entry there
pub record RightRow (n : ℕ) (col : Pattern) (f : Row → Col) (r : Row) : Type 0 where
  pub inside : f r < n
  pub new : (s : Row) → s < r → f s ≢ f r
  pub on : Entry col (f r) r

-- a matching is perfect exactly where every row below n is right
pub right_rows : (n : ℕ) (col : Pattern) (f : Row → Col) → ((r : Row) → r < n → RightRow n col f r) ↔ Perfect n col f
right_rows n col f = (perfect, right)
  where
    perfect : ((r : Row) → r < n → RightRow n col f r) → Perfect n col f
    perfect R = record { inside = λ r l. (R r l).inside; on = λ r l. (R r l).on; once = once }
      where
        once : (r s : Row) → r < n → s < n → f r ≡ f s → r ≡ s
        once r s k l e =
            ⊎_elim (λ a. absurd ((R s l).new r a e)) (λ o. ⊎_elim (λ a. a) (λ a. absurd ((R r k).new s a (sym e))) o) (tri r s)

    right : Perfect n col f → (r : Row) → r < n → RightRow n col f r
    right M r l = record { inside = M.inside r l; new = new; on = M.on r l }
      where
        new : (s : Row) → s < r → f s ≢ f r
        new s k e = omega (arith, M.once s r (omega arith) l e)
