-- Block triangular form (Dulmage and Mendelsohn 1958): what it is, and the two walks that find it.
use Rattle.std.specs.Prelude.{ℕ, ◌-◌, ◌<◌, ◌≤◌, ◌≡◌, ◌↔◌, cond, List, [], ◌∷◌, map, reverse, length, get_or, take}
use Rattle.graph.specs.Lists.{Mem, elem, keep, range}
use Rattle.graph.specs.Reachability.{Both}
use Rattle.graph.specs.Matchings.{Row, Col, Pattern, partner}
use Rattle.graph.specs.Walks.{unwalked, each, visit}

-- the columns of block i
abbrev pub block : List (List Col) → ℕ → List Col
block bs i = get_or bs i []

-- every column below n stands in one block, a block is the columns that reach one another, and an edge never leads to an earlier block
pub record BlockForm (n : ℕ) (Edge : Col → Col → Type 0) (bs : List (List Col)) : Type 0 where
  pub covers : (c : Col) → c < n → (i : ℕ) × Mem c (block bs i)
  pub single : (c : Col) (i j : ℕ) → Mem c (block bs i) → Mem c (block bs j) → i ≡ j
  pub same : (i : ℕ) (c d : Col) → Mem c (block bs i) → Mem d (block bs i) ↔ Both Edge c d
  pub lower : (c d : Col) (i j : ℕ) → Edge c d → Mem c (block bs i) → Mem d (block bs j) → i ≤ j

-- two lists of blocks, under matchings f and g, are the same sets of columns with their rows: blocks that share a column have the same
-- columns, and the same rows below n are matched to them
abbrev pub SameBlocks : ℕ → (Row → Col) → (Row → Col) → List (List Col) → List (List Col) → Type 0
SameBlocks n f g bs bs' =
    (c : Col) (i j : ℕ) → Mem c (block bs i) → Mem c (block bs' j)
    → ((d : Col) → Mem d (block bs i) ↔ Mem d (block bs' j)) × ((r : Row) → r < n → Mem (f r) (block bs i) ↔ Mem (g r) (block bs' j))

-- the columns that column c points to, in list order
abbrev pub targets : Pattern → List Col → Col → List Col
targets col m c = map (partner m) (col c)

-- the columns below n that have d as a child, by rising number
abbrev pub parents : ℕ → (Col → List Col) → Col → List Col
parents n kids d = keep (λ c. elem d (kids c)) (range n)

-- the columns below n as a walk from 0 to n - 1 finishes them, latest first
unfoldable pub finishing : ℕ → (Col → List Col) → List Col
finishing n kids = (each (visit kids n) (range n) unwalked).finished

-- a walk from each listed column that is not yet among those entered is a block, its columns as they were entered
unfoldable pub cut : (Col → List Col) → ℕ → List Col → List Col → List (List Col)
cut kids n entered [] = []
cut kids n entered (c ∷ cs) =
    let w = visit kids n c (record { entered = entered; finished = [] }) in
    cond (elem c entered) (cut kids n entered cs)
    (reverse (take (length w.entered - length entered) w.entered) ∷ cut kids n w.entered cs)

-- walk the graph, then the reversed graph in opposite finishing order: each walk of the second is a block
unfoldable pub blocks : ℕ → (Col → List Col) → List (List Col)
blocks n kids = cut (parents n kids) n [] (finishing n kids)
