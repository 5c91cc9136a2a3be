-- Hall's condition (Hall 1935): columns whose rows together are too few have no matching.
use Rattle.std.specs.Prelude.{ℕ, suc, ◌<◌, ◌≡◌, Bool, true}
use Rattle.graph.specs.Counting.{count}
use Rattle.graph.specs.Matchings.{Row, Col, Pattern, Entry}

-- q is the set of rows below n in which the columns of h below n have entries
pub record RowsOf (n : ℕ) (col : Pattern) (h : Col → Bool) (q : Row → Bool) : Type 0 where
  pub has : (c : Col) (r : Row) → c < n → r < n → h c ≡ true → Entry col c r → q r ≡ true
  pub only : (r : Row) → r < n → q r ≡ true → (c : Col) × (c < n) × (h c ≡ true) × Entry col c r

-- the columns of h are a Hall set: their rows together number one less than they do
pub record HallSet (n : ℕ) (col : Pattern) (h : Col → Bool) : Type 0 where
  pub rows : Row → Bool
  pub rows_of : RowsOf n col h rows
  pub one_less : suc (count rows n) ≡ count h n
