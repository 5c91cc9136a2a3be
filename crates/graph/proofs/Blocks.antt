-- The blocks that two walks find are a block triangular form, and one after another a permutation of the columns.
use Rattle.std.proofs.Common.{ℕ, ◌<◌, ◌≡◌, inr, ◌↔◌, ⊎_elim, List, [], length}
use mathlib.Core.List.Memᴰ
use mathlib.Core.List.{flatten}
use Rattle.graph.specs.Lists.{Mem, Once, elem, range}
use Rattle.graph.specs.Permutations.{Permutes}
use Rattle.graph.specs.Reachability.{here}
use Rattle.graph.specs.Matchings.{Col}
use Rattle.graph.specs.Walks.{unwalked, each, visit}
use Rattle.graph.specs.Blocks.{block, BlockForm, parents, finishing, blocks}
use Rattle.graph.proofs.Lists.{elem_mem, mem_elem, range_is, keep_has, keep_only}
use Rattle.graph.proofs.Concatenation.{mem_flatten, once_length, once_permutes}
use Rattle.graph.proofs.Walks.{Child, Walks}
use Rattle.graph.proofs.Reached.{walk_from, walk_reached}
use Rattle.graph.proofs.Finishing.{FinishingOrder, walk_finishing}
use Rattle.graph.proofs.Components.{Reversed}
use Rattle.graph.proofs.Cuts.{Within, reach_below, Rest, cut_rest}

-- the parents are the reversed graph
pub parents_reversed : (n : ℕ) (kids : Col → List Col) → Within n kids → Reversed kids (parents n kids)
parents_reversed n kids within c d = (
  λ h. keep_has (λ x. elem d (kids x)) (range n) c ((range_is n c).1 (within c d h).0) (mem_elem d (kids c) h),
  λ i. elem_mem d (kids c) (keep_only (λ x. elem d (kids x)) (range n) c i).1,
)

-- ---- the first walk

-- the first walk goes from 0 to n - 1
first_walk : (n : ℕ) (kids : Col → List Col) → Within n kids → Walks kids unwalked (range n) (each (visit kids n) (range n) unwalked)
first_walk n kids within = walk_from kids n (range n) (λ c d h. (within c d h).1) (λ c i. (range_is n c).0 i)

-- the first walk finishes the columns below n
pub finishing_columns : (n : ℕ) (kids : Col → List Col) → Within n kids → (c : Col) → Mem c (finishing n kids) ↔ c < n
unfolding finishing
finishing_columns n kids within c =
    let is = (walk_reached (first_walk n kids within)).finished_is c in (
      λ i. let t = is.0 i in reach_below within t.2 ((range_is n t.0).0 t.1),
      λ l. is.1 (c, (range_is n c).1 l, here),
    )

-- the first walk finishes no column twice
pub finishing_once : (n : ℕ) (kids : Col → List Col) → Within n kids → Once (finishing n kids)
unfolding finishing
finishing_once n kids within = (walk_reached (first_walk n kids within)).finished_once

-- the first walk finishes in finishing order
pub finishing_order : (n : ℕ) (kids : Col → List Col) → Within n kids → FinishingOrder (Child kids) (finishing n kids)
unfolding finishing
finishing_order n kids within = walk_finishing (first_walk n kids within)

-- ---- the blocks

-- the second walk cuts all the columns into blocks
blocks_rest : (n : ℕ) (kids : Col → List Col) → Within n kids → Rest n kids [] (blocks n kids)
unfolding blocks
blocks_rest n kids within = cut_rest within (parents_reversed n kids within) [] (finishing n kids) (record {
  cut_once = tt;
  shut = λ c d h i. absurd (Memᴰ.not-nil i);
  order = finishing_order n kids within;
  listed_once = finishing_once n kids within;
  listed_below = λ c. (finishing_columns n kids within c).0;
  all = λ c l. inr ((finishing_columns n kids within c).1 l);
})

-- the blocks are a block triangular form
pub blocks_form : (n : ℕ) (kids : Col → List Col) → Within n kids → BlockForm n (Child kids) (blocks n kids)
blocks_form n kids within =
    let rest = blocks_rest n kids within in
    record {
      covers = λ c l. ⊎_elim (λ i. absurd (Memᴰ.not-nil i)) (λ t. t) (rest.covers c l);
      single = rest.single;
      same = rest.same;
      lower = rest.lower;
    }

-- no block is empty
pub blocks_filled : (n : ℕ) (kids : Col → List Col) → Within n kids → (i : ℕ) → i < length (blocks n kids)
    → (c : Col) × Mem c (block (blocks n kids) i)
blocks_filled n kids within = (blocks_rest n kids within).filled

-- every column of a block is below n
pub blocks_below : (n : ℕ) (kids : Col → List Col) → Within n kids → (i : ℕ) (c : Col) → Mem c (block (blocks n kids) i) → c < n
blocks_below n kids within = (blocks_rest n kids within).below

-- no column stands twice in the blocks
pub blocks_once : (n : ℕ) (kids : Col → List Col) → Within n kids → Once (flatten (blocks n kids))
blocks_once n kids within = (blocks_rest n kids within).once

-- the columns in the blocks are those below n
pub blocks_columns : (n : ℕ) (kids : Col → List Col) → Within n kids → (c : Col) → Mem c (flatten (blocks n kids)) ↔ c < n
blocks_columns n kids within c = (
  λ m. let t = (mem_flatten (blocks n kids) c).0 m in blocks_below n kids within t.0 c t.1,
  λ l. (mem_flatten (blocks n kids) c).1 ((blocks_form n kids within).covers c l),
)

-- the blocks have n columns together
pub blocks_length : (n : ℕ) (kids : Col → List Col) → Within n kids → length (flatten (blocks n kids)) ≡ n
blocks_length n kids within = once_length n (flatten (blocks n kids)) (blocks_once n kids within) (blocks_columns n kids within)

-- the blocks one after another are a permutation of the columns
pub blocks_permute : (n : ℕ) (kids : Col → List Col) → Within n kids → Permutes n (flatten (blocks n kids))
blocks_permute n kids within = once_permutes n (flatten (blocks n kids)) (blocks_once n kids within) (blocks_columns n kids within)
