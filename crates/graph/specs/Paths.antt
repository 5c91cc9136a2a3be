-- Alternating paths, from a column by rows and their partners to a last row: the matching moved along one, and how a search ends.
use Rattle.std.specs.Prelude.{ℕ, ◌<◌, List, [], ◌∷◌, set}
use Rattle.graph.specs.Lists.{Mem}
use Rattle.graph.specs.Matchings.{Row, Col, Pattern, Entry, partner}

-- an alternating path of matching m from column c to row e: the listed rows before e, each matched to the next column
pub data Alternating (n : ℕ) (col : Pattern) (m : List Col) (e : Row) : Col → List Row → Type 0 where
  last : {c : Col} → e < n → Entry col c e → Alternating n col m e c []
  more : {c : Col} {r : Row} {rs : List Row} → r < n → Entry col c r → partner m r < n → ¬ Mem r rs
      → Alternating n col m e (partner m r) rs → Alternating n col m e c (r ∷ rs)

-- every column of the path takes the row after it
abbrev pub augment : List Col → Col → List Row → Row → List Col
augment m c [] e = set m e c
augment m c (r ∷ rs) e = augment (set m r c) (partner m r) rs e

-- how a search ends: without a path, or with one, given by its rows before the last and the last
pub data Ending : Type 0 where
  failed : Ending
  found : List Row → Row → Ending
