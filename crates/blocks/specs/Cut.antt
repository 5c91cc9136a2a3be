-- The two passes over all columns: what each needs of its slices, and what it leaves in them.
use Rattle.std.specs.Prelude.{ℕ, ◌≤◌, ◌<◌, ◌≡◌, ◌≢◌, ◌↔◌, List, length, get_or}
use Rattle.graph.specs.Lists.{Mem}
use Rattle.graph.specs.Matchings.{Row, Col, Pattern, Inside, partner}
use Rattle.graph.specs.Blocks.{targets, finishing}
use Rattle.sparse.specs.Buffers.{filled}
use Rattle.sparse.specs.Limits.{max_entries}
use Rattle.blocks.specs.Walk.{last_first, Room}
use Rattle.blocks.specs.declared.walk.WalkWork.{WalkWork}
use Rattle.blocks.specs.Form.{columns_of, block_starts}

-- the stamp of the columns that the first pass walked
abbrev pub first_pass : ℕ
first_pass = 1

-- the stamp of the columns that the second pass walked
abbrev pub second_pass : ℕ
second_pass = 2

-- what a pass needs: a pattern and a matching within n, no column with the pass's stamp, and room
pub record PassReady (n : ℕ) (col : Pattern) (m : List Col) (mark : ℕ) (w : WalkWork) : Type 0 where
  pub inside : Inside n col
  pub short : (c : Col) → length (col c) ≤ max_entries
  pub matched : (r : Row) → r < n → partner m r < n
  pub unwalked : (c : Col) → c < n → get_or w.visited.now c 0 ≢ mark
  pub matching_long : n ≤ length m
  pub room : Room n w

-- what the first pass leaves: the columns in the order in which the rule finishes them, and its stamp at each
pub record Finished (n : ℕ) (col : Pattern) (m : List Col) (stamps fs : List ℕ) : Type 0 where
  pub finishes : last_first fs n ≡ finishing n (targets col m)
  pub stamped : (c : Col) → c < n → get_or stamps c 0 ≡ first_pass

-- what the second pass needs besides: each column once among the first n listed, and room for the starts of the blocks
pub record CutReady (n : ℕ) (order starts : List ℕ) : Type 0 where
  pub listed : (c : Col) → Mem c (last_first order n) ↔ c < n
  pub order_long : n ≤ length order
  pub starts_long : n < length starts

-- what the second pass leaves: the blocks bs one after another, and their starts; behind them the slices are as they were
pub record HoldsBlocks (n : ℕ) (bs : List (List Col)) (es₀ starts₀ es starts : List ℕ) (r : ℕ) : Type 0 where
  pub counted : r ≡ length bs
  pub columns : es ≡ filled (columns_of bs) es₀
  pub starts_are : starts ≡ filled (block_starts n bs) starts₀
