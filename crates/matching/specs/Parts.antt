-- What the parts of the matching say to one another: where a scan of a column's rows stops, how a search goes on from there,
-- and how all of them end. Scans and steps serve the walks of the block form too.
use Rattle.std.specs.Prelude.{ℕ, ◌+◌, ◌≤◌, ◌<◌, ◌≡◌, ◌≢◌, List, Option, Some, None}
use Rattle.std.specs.Prelude.{eqb, length, get_or, set, take, drop, replicate}
use Rattle.graph.specs.Lists.{elem}
use Rattle.graph.specs.Matchings.{Row, Col, partner}
use Rattle.sparse.specs.Limits.{none}
use Rattle.sparse.specs.Parts.{ZeroBelow}
use Rattle.sparse.specs.declared.Column.{Column}
use Rattle.matching.specs.Matching.{Verdict, accepted, refused}
use Rattle.matching.specs.declared.search.SearchWork.{SearchWork}

-- the column that has the row at place k
abbrev pub col_at : List Col → List Row → ℕ → Col
col_at m rs k = partner m (get_or rs k 0)

-- r is the first place from `from` on whose row's column has another stamp than mark, or behind the last place
pub record OpenPlace (mark : ℕ) (stamps m : List Col) (rs : List Row) (from r : ℕ) : Type 0 where
  pub from_on : from ≤ r
  pub before : (k : ℕ) → from ≤ k → k < r → get_or stamps (col_at m rs k) 0 ≡ mark
  pub here : r < length rs → get_or stamps (col_at m rs r) 0 ≢ mark

-- how the stack, and its depth, go on from step top, whose rows from place `from` on are to be scanned
pub data Advance (mark : ℕ) (stamps m : List Col) (rs : List Row) (top from : ℕ) (cs ps : List ℕ) : List ℕ → List ℕ → ℕ → Type 0 where
  -- no column of these rows is open: the step is taken off
  back : (k : ℕ) → OpenPlace mark stamps m rs from k → length rs ≤ k → Advance mark stamps m rs top from cs ps cs ps top
  -- the first open one is put on
  down : (k : ℕ) → OpenPlace mark stamps m rs from k → k < length rs
      → Advance mark stamps m rs top from cs ps (set cs (top + 1) (col_at m rs k)) (set ps top k) (top + 2)

-- no column is visited, no row was looked at, and there is room: what the first search in these slices needs
pub record Unused (n : ℕ) (w : SearchWork) (row2col : List Col) : Type 0 where
  pub unvisited : ZeroBelow n w.visited.now
  pub unlooked : ZeroBelow n w.cheap.now
  pub visited_long : n ≤ length w.visited.now
  pub cheap_long : n ≤ length w.cheap.now
  pub cols_long : n ≤ length w.scol.now
  pub places_long : n ≤ length w.sat.now
  pub matching_long : n ≤ length row2col

-- and every row is free: what the searches of all columns need
pub record Fresh (n : ℕ) (w : SearchWork) (row2col : List Col) : Type 0 where
  pub unused : Unused n w row2col
  pub free : take n row2col ≡ replicate n none

-- how the searches end with a verdict: none failed, with the matching; or one did, with its column, whose stamp the visited columns have
abbrev pub EndsAt : ℕ → List ℕ → List Col → Option Column → Verdict → Type 0
EndsAt n visited row2col None (accepted m) = take n row2col ≡ m
EndsAt n visited row2col None (refused c seen) = ⊥
EndsAt n visited row2col (Some failed) (accepted m) = ⊥
EndsAt n visited row2col (Some failed) (refused c seen) =
    (failed.0 ≡ c) × (c < n) × ((d : Col) → d < n → eqb (get_or visited d 0) (c + 1) ≡ elem d seen)

-- a slice is as it was beyond its first n
abbrev pub SameBeyond : ℕ → List ℕ → List ℕ → Type 0
SameBeyond n before after = drop n after ≡ drop n before
