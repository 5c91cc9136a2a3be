-- The matching after an edit: the edited column's former row becomes free, and one search starts from that column.
use Rattle.std.specs.Prelude.{ℕ, ◌≡◌, ◌≢◌, List, []}
use Rattle.graph.specs.Lists.{Mem}
use Rattle.graph.specs.Matchings.{Row, Col, Pattern, partner}
use Rattle.graph.specs.Paths.{Alternating, failed, found, augment}
use Rattle.graph.specs.Edits.{freed}
use Rattle.sparse.specs.Limits.{none}
use Rattle.matching.specs.Matching.{search, Verdict, accepted, refused}

-- the search from column e in the edited pattern col, with that column's former row free in matching m: accepted with the matching moved
-- along the path found, or refused with the columns visited
unfoldable pub rematching : ℕ → Pattern → List Col → Col → Verdict
rematching n col m e = let t = search n col (freed n m e none) n [] e in elim t.ending [
  | found p r ↦ accepted (augment (freed n m e none) e p r)
  | failed ↦ refused e t.visited
]

-- the new matching is the old one moved along an alternating path of the edited pattern col, from column e to the row it had; no other
-- row changed its column
pub record Rerouted (n : ℕ) (col : Pattern) (old new : List Col) (e : Col) : Type 0 where
  pub before : List Row
  pub last : Row
  pub path : Alternating n col old last e before
  pub former : partner old last ≡ e
  pub moved : new ≡ augment old e before last
  pub others : (r : Row) → ¬ Mem r before → r ≢ last → partner new r ≡ partner old r
