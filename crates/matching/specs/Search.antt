-- What one search needs of the slices that it works in, and what it leaves in them.
use Rattle.std.specs.Prelude.{ℕ, ◌≤◌, ◌<◌, ◌≡◌, ◌≢◌, Bool, true, false, List, [], ◌∷◌, length, get_or, set, drop}
use Rattle.graph.specs.Matchings.{Col, Pattern, Inside, partner}
use Rattle.graph.specs.Paths.{Ending, failed, found, augment}
use Rattle.sparse.specs.Limits.{max_entries}
use Rattle.matching.specs.Matching.{search}
use Rattle.matching.specs.declared.search.SearchWork.{SearchWork}

-- no column below n has the stamp mark
abbrev pub Unstamped : ℕ → ℕ → List ℕ → Type 0
Unstamped n mark stamps = (c : Col) → c < n → get_or stamps c 0 ≢ mark

-- the stamps where each column of a list gets the stamp mark
abbrev pub stamped : ℕ → List Col → List ℕ → List ℕ
stamped mark [] stamps = stamps
stamped mark (c ∷ s) stamps = set (stamped mark s stamps) c mark

-- the rows of each column before its cheap place are matched
abbrev pub Cheap : ℕ → Pattern → List Col → List ℕ → Type 0
Cheap n col m cheap = (c : Col) → c < n → (k : ℕ) → k < get_or cheap c 0 → k < length (col c) → partner m (get_or (col c) k 0) < n

-- whether a search found a path
abbrev pub is_found : Ending → Bool
is_found failed = false
is_found (found p e) = true

-- the matching after a search from column c: moved along the path, if one was found
abbrev pub moved : List Col → Col → Ending → List Col
moved m c failed = m
moved m c (found p e) = augment m c p e

-- what a search in pattern col from column c needs: a pattern within n, stamps other than mark, sound cheap places, and room
pub record SearchReady (n : ℕ) (col : Pattern) (m : List Col) (c : Col) (mark : ℕ) (w : SearchWork) : Type 0 where
  pub inside : Inside n col
  pub short : (d : Col) → length (col d) ≤ max_entries
  pub below : c < n
  pub unstamped : Unstamped n mark w.visited.now
  pub sound : Cheap n col m w.cheap.now
  pub matching_long : n ≤ length m
  pub stamps_long : n ≤ length w.visited.now
  pub cheap_long : n ≤ length w.cheap.now
  pub cols_long : n ≤ length w.scol.now
  pub places_long : n ≤ length w.sat.now

-- what a search leaves, where w₀ and m were before: the rule's answer, matching and visited columns, and sound cheap places
pub record SearchEnds (n : ℕ) (col : Pattern) (m : List Col) (c : Col) (mark : ℕ) (w₀ w : SearchWork) (m' : List Col) (answer : Bool)
    : Type 0 where
  pub answered : answer ≡ is_found (search n col m n [] c).ending
  pub matched : m' ≡ moved m c (search n col m n [] c).ending
  pub visits : w.visited.now ≡ stamped mark (search n col m n [] c).visited w₀.visited.now
  pub sound : Cheap n col m' w.cheap.now
  pub cheap_beyond : drop n w.cheap.now ≡ drop n w₀.cheap.now
