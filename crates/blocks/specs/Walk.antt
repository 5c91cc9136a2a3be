-- What a walk from one column needs of its slices, and what it leaves in them.
use Rattle.std.specs.Prelude.{ℕ, zero, suc, ◌≤◌, ◌<◌, ◌≡◌, ◌≢◌, ◌↔◌, List, [], ◌∷◌, length, get_or, drop}
use Rattle.std.specs.Borrow.{MutBor}
use Rattle.graph.specs.Lists.{Mem, Once}
use Rattle.graph.specs.Matchings.{Row, Col, Pattern, Inside, partner}
use Rattle.graph.specs.Walks.{Walked, visit}
use Rattle.graph.specs.Blocks.{targets}
use Rattle.sparse.specs.Limits.{max_entries}
use Rattle.blocks.specs.declared.walk.WalkWork.{WalkWork}

-- the first k numbers of a slice, last first
abbrev pub last_first : List ℕ → ℕ → List ℕ
last_first xs zero = []
last_first xs (suc k) = get_or xs k 0 ∷ last_first xs k

-- the walk that two slices hold: the first k columns of es were entered, those of fs finished
abbrev pub walked : List Col → List Col → ℕ → Walked
walked es fs k = record { entered = last_first es k; finished = last_first fs k }

-- the columns s are below n and none stands there twice, and exactly they have the stamp mark
pub record Stamped (n mark : ℕ) (stamps : List ℕ) (s : List Col) : Type 0 where
  pub once : Once s
  pub below : (c : Col) → Mem c s → c < n
  pub exactly : (c : Col) → c < n → (get_or stamps c 0 ≡ mark) ↔ Mem c s

-- each of a walk's slices has room for n numbers
pub record Room (n : ℕ) (w : WalkWork) : Type 0 where
  pub visited : n ≤ length w.visited.now
  pub scol : n ≤ length w.scol.now
  pub sat : n ≤ length w.sat.now
  pub entered : n ≤ length w.entered.now
  pub finished : n ≤ length w.finished.now

-- what a walk from column c needs, where k columns were walked: a pattern and a matching within n, stamps for the columns walked, c not
-- among them, and room
pub record WalkReady (n : ℕ) (col : Pattern) (m : List Col) (c : Col) (mark k : ℕ) (w : WalkWork) : Type 0 where
  pub inside : Inside n col
  pub short : (d : Col) → length (col d) ≤ max_entries
  pub matched : (r : Row) → r < n → partner m r < n
  pub below : c < n
  pub stamped : Stamped n mark w.visited.now (last_first w.entered.now k)
  pub new : get_or w.visited.now c 0 ≢ mark
  pub matching_long : n ≤ length m
  pub room : Room n w

-- what it leaves in slices that were w₀ and held k columns: they hold r columns, the walk that the rule makes, and those have the stamp
pub record WalkEnds (n : ℕ) (col : Pattern) (m : List Col) (c : Col) (mark k : ℕ) (w₀ w : WalkWork) (r : ℕ) : Type 0 where
  pub walks : walked w.entered.now w.finished.now r ≡ visit (targets col m) n c (walked w₀.entered.now w₀.finished.now k)
  pub stamped : Stamped n mark w.visited.now (last_first w.entered.now r)

-- a lent slice is still the one that it was and as long, and from n on it is as it was
pub record SliceFrom (n : ℕ) (s₀ s : MutBor (List ℕ)) : Type 0 where
  pub itself : s.ghost_name ≡ s₀.ghost_name
  pub same_length : length s.now ≡ length s₀.now
  pub beyond : drop n s.now ≡ drop n s₀.now

-- so are a walk's slices
pub record SameFrom (n : ℕ) (w₀ w : WalkWork) : Type 0 where
  pub visited : SliceFrom n w₀.visited w.visited
  pub scol : SliceFrom n w₀.scol w.scol
  pub sat : SliceFrom n w₀.sat w.sat
  pub entered : SliceFrom n w₀.entered w.entered
  pub finished : SliceFrom n w₀.finished w.finished
