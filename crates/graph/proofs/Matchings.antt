-- Perfect matchings: each column has its row, and the blocks do not depend on which perfect matching is taken.
use Rattle.std.proofs.Common.{ℕ, zero, suc, ◌<◌, ◌≡◌, refl, sym, ap, ◌∙◌, subst, ◌≢◌, ◌↔◌}
use Rattle.graph.specs.Counting.{preimage}
use Rattle.graph.specs.Reachability.{Reach, here, Both}
use Rattle.graph.specs.Matchings.{Row, Col, Pattern, Entry, Perfect, Partial, Points}
use Rattle.graph.proofs.Counting.{onto, preimage_ok}
use Rattle.graph.proofs.Orbits.{Injects, iterate, iterate_below, comes_back}
use Rattle.graph.proofs.Reachability.{one, join, reach_to, along}

-- f gives column c to some row below n
abbrev pub Matched : ℕ → (Row → Col) → Col → Type 0
Matched n f c = (r : Row) × (r < n) × (f r ≡ c)

-- f gives column c to no row below n
abbrev pub Unmatched : ℕ → (Row → Col) → Col → Type 0
Unmatched n f c = (r : Row) → r < n → f r ≢ c

-- a perfect matching gives each column below n to a row, which a search through the rows finds
pub row_of : {n : ℕ} {col : Pattern} {f : Row → Col} → Perfect n col f
    → (c : Col) → c < n → (preimage f n c < n) × (f (preimage f n c) ≡ c)
row_of {n} {col} {f} M c l =
    let t = onto f n M.inside M.once c l in
    preimage_ok f n c t.0 t.1 t.2

-- what agrees with a perfect matching below n is one
pub perfect_agree : {n : ℕ} {col : Pattern} {f : Row → Col} (g : Row → Col) → Perfect n col f → ((r : Row) → r < n → g r ≡ f r)
    → Perfect n col g
perfect_agree {n} g M h = record {
  inside = λ r l. rw (h r l) (M.inside r l);
  on = λ r l. rw (h r l) (M.on r l);
  once = λ r s l k e. M.once r s l k (sym (h r l) ∙ e ∙ h s k);
}

-- a partial matching that gives every column to a row is perfect
pub full_perfect : {n : ℕ} {col : Pattern} {f : Row → Col} → Partial n col f → ((c : Col) → c < n → Matched n f c) → Perfect n col f
full_perfect {n} {col} {f} P all =
    record { inside = inside; on = λ r l. P.on r l (inside r l); once = λ r s k l e. P.once r s k l (inside r k) e }
  where
    row : (c : Col) → c < n → (preimage f n c < n) × (f (preimage f n c) ≡ c)
    row c l = let t = all c l in preimage_ok f n c t.0 t.1 t.2

    inside : (r : Row) → r < n → f r < n
    inside r l =
        let t = onto (preimage f n) n (λ c k. (row c k).0) (λ c d k j e. sym (row c k).1 ∙ ap f e ∙ (row d j).1) r l in
        subst (λ z. f z < n) t.2 (rw (row t.0 t.1).1 t.1)

-- from row r to the row that f gives to r's column under g
abbrev turn : ℕ → (Row → Col) → (Row → Col) → Row → Row
turn n f g r = preimage f n (g r)

-- it is a row below n, and f gives it that column
turn_ok : {n : ℕ} {col : Pattern} {f g : Row → Col} → Perfect n col f → Perfect n col g
    → (r : Row) → r < n → (turn n f g r < n) × (f (turn n f g r) ≡ g r)
turn_ok {g = g} M N r l = row_of M (g r) (N.inside r l)

turn_injects : {n : ℕ} {col : Pattern} {f g : Row → Col} → Perfect n col f → Perfect n col g → Injects n (turn n f g)
turn_injects {f = f} M N =
    record {
      into = λ r l. (turn_ok M N r l).0;
      once = λ r s k l e. N.once r s k l (sym (turn_ok M N r k).1 ∙ ap f e ∙ (turn_ok M N s l).1);
    }

-- in f's graph the column that f gives to a later turn of r reaches the column that g gives to r
turns_reach : {n : ℕ} {col : Pattern} {f g : Row → Col} → Perfect n col f → Perfect n col g
    → (k : ℕ) (r : Row) → r < n → Reach (Points n col f) (f (iterate (turn n f g) (suc k) r)) (g r)
unfolding iterate
turns_reach M N zero r l = reach_to here (turn_ok M N r l).1
turns_reach {n} {col} {f} {g} M N (suc k) r l =
    let s = iterate (turn n f g) (suc k) r in
    let q : s < n = iterate_below (turn_injects M N) (suc k) r l in
    let entry : Entry col (f (turn n f g s)) s = rw (turn_ok M N s q).1 (N.on s q) in
    join (one (s, q, entry, refl)) (turns_reach M N k r l)

-- the columns that two perfect matchings give to one row reach each other
pub partners : {n : ℕ} {col : Pattern} {f g : Row → Col} → Perfect n col f → Perfect n col g
    → (r : Row) → r < n → Both (Points n col f) (f r) (g r)
partners {n} {col} {f} {g} M N r l =
    let t = comes_back (turn_injects M N) r l in
    (subst (λ x. Reach (Points n col f) (f x) (g r)) t.1 (turns_reach M N t.0 r l), one (r, l, N.on r l, refl))

-- what is reached in the graph of one perfect matching is reached in that of another
reach_across : {n : ℕ} {col : Pattern} {f g : Row → Col} → Perfect n col f → Perfect n col g
    → {c d : Col} → Reach (Points n col g) c d → Reach (Points n col f) c d
reach_across M N p =
    along (λ a b h. reach_to (join (one (h.0, h.1, h.2, refl)) (partners M N h.0 h.1).0) h.3) p

-- reachability does not depend on the perfect matching
pub same_reach : {n : ℕ} {col : Pattern} {f g : Row → Col} → Perfect n col f → Perfect n col g
    → (c d : Col) → Reach (Points n col f) c d ↔ Reach (Points n col g) c d
same_reach M N c d = (λ p. reach_across N M p, λ p. reach_across M N p)

-- nor do the blocks, as sets of columns
pub same_blocks : {n : ℕ} {col : Pattern} {f g : Row → Col} → Perfect n col f → Perfect n col g
    → (c d : Col) → Both (Points n col f) c d ↔ Both (Points n col g) c d
same_blocks M N c d =
    let there = same_reach M N c d in
    let back = same_reach M N d c in
    (λ b. (there.0 b.0, back.0 b.1), λ b. (there.1 b.0, back.1 b.1))

-- nor do their rows: row r belongs to the block of column c under both or under neither
pub same_rows : {n : ℕ} {col : Pattern} {f g : Row → Col} → Perfect n col f → Perfect n col g
    → (c : Col) (r : Row) → r < n → Both (Points n col f) c (f r) ↔ Both (Points n col g) c (g r)
same_rows {n} {col} {f} {g} M N c r l =
    (λ b. joined ((same_blocks M N c (f r)).0 b) (partners N M r l), λ b. joined ((same_blocks M N c (g r)).1 b) (partners M N r l))
  where
    joined : {h : Row → Col} {a b : Col} → Both (Points n col h) c a → Both (Points n col h) b a → Both (Points n col h) c b
    joined s p = (join s.0 p.1, join p.0 s.1)
