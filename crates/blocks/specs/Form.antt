-- How blocks stand in two slices, their columns one after the other and where each starts; and what blocks that stand so must be.
use Rattle.std.specs.Prelude.{ℕ, ◌+◌, ◌-◌, ◌<◌, ◌≡◌, length, get_or, replicate}
use mathlib.Core.List.{List, [], ◌∷◌, ◌++◌, map, flatten}
use Rattle.std.proofs.Math.Seq.{slice}
use Rattle.graph.specs.Lists.{range}
use Rattle.graph.specs.Matchings.{Col}
use Rattle.graph.specs.Permutations.{Permutes}
use Rattle.graph.specs.Blocks.{BlockForm}

-- the columns of the blocks, one block after the other
abbrev pub columns_of : List (List Col) → List Col
columns_of bs = flatten bs

-- where each block starts if the first starts at a place, and where the last ends
abbrev pub starts_from : ℕ → List (List Col) → List ℕ
starts_from at [] = at ∷ []
starts_from at (b ∷ bs) = at ∷ starts_from (at + length b) bs

-- 0, and where each block ends
abbrev pub starts_of : List (List Col) → List ℕ
starts_of bs = starts_from 0 bs

-- the same for at most n blocks as n + 1 numbers: behind the end of the last stand zeros
abbrev pub block_starts : ℕ → List (List Col) → List ℕ
block_starts n bs = starts_of bs ++ replicate (n - length bs) 0

-- block i as it stands in two slices: the columns from start i up to start i + 1
abbrev pub stored_block : List Col → List ℕ → ℕ → List Col
stored_block cols starts i = slice (get_or starts i 0) (get_or starts (i + 1) 0) cols

-- the first k blocks that stand in two slices
abbrev pub stored_blocks : List Col → List ℕ → ℕ → List (List Col)
stored_blocks cols starts k = map (stored_block cols starts) (range k)

-- k blocks stand in two slices: a block form of the graph on the columns below n, none empty, all of the first n places and no others
pub record StoredForm (n : ℕ) (Edge : Col → Col → Type 0) (cols starts : List ℕ) (k : ℕ) : Type 0 where
  pub form : BlockForm n Edge (stored_blocks cols starts k)
  pub permutes : Permutes n cols
  pub from_zero : get_or starts 0 0 ≡ 0
  pub rising : (i : ℕ) → i < k → get_or starts i 0 < get_or starts (i + 1) 0
  pub to_end : get_or starts k 0 ≡ n
