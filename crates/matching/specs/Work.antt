-- The slices that a search works in, lent together: what they hold, and what a call leaves of them.
use Rattle.std.specs.Prelude.{ℕ, ◌≡◌, List, length}
use Rattle.graph.specs.Matchings.{Col}
use Rattle.matching.specs.Parts.{SameBeyond}
use Rattle.matching.specs.declared.search.SearchWork.{SearchWork}

-- the same four slices with these numbers in them
abbrev pub holding : SearchWork → List ℕ → List ℕ → List Col → List ℕ → SearchWork
holding w visited cheap scol sat = record w {
  visited = record w.visited { now = visited };
  cheap = record w.cheap { now = cheap };
  scol = record w.scol { now = scol };
  sat = record w.sat { now = sat };
}

-- the same four slices, whatever they hold
abbrev pub SameSlices : SearchWork → SearchWork → Type 0
SameSlices before after = after ≡ holding before after.visited.now after.cheap.now after.scol.now after.sat.now

-- as many numbers as before, and the same beyond the first n
pub record Stays (n : ℕ) (before after : List ℕ) : Type 0 where
  pub same_length : length after ≡ length before
  pub beyond : SameBeyond n before after

-- the same four slices, each of which stays
pub record SameWork (n : ℕ) (before after : SearchWork) : Type 0 where
  pub slices : SameSlices before after
  pub visited : Stays n before.visited.now after.visited.now
  pub cheap : Stays n before.cheap.now after.cheap.now
  pub cols : Stays n before.scol.now after.scol.now
  pub places : Stays n before.sat.now after.sat.now
