-- Small matrices, each with a matching and the blocks that it must give.
use Rattle.std.specs.Prelude.{List, [], ◌∷◌, length, get_or}
use Rattle.graph.specs.Matchings.{Row, Col}
use Rattle.graph.specs.Blocks.{targets, blocks}

-- the rows of each column, the column of each row, and the blocks in order
pub record BlockSample : Type 0 where
  pub columns : List (List Row)
  pub matching : List Col
  pub expected : List (List Col)

-- the blocks of a sample's matrix under its matching
abbrev pub blocks_of : BlockSample → List (List Col)
blocks_of s = blocks (length s.columns) (targets (λ c. get_or s.columns c []) s.matching)

-- a matrix of three blocks, and the same with two rows exchanged; full matrices of two and of three columns, of which the larger
-- shows the order within a block; the empty matrix
abbrev pub block_samples : List BlockSample
block_samples =
    record {
      columns = (0 ∷ 1 ∷ []) ∷ (1 ∷ []) ∷ (0 ∷ 2 ∷ []) ∷ [];
      matching = 0 ∷ 1 ∷ 2 ∷ [];
      expected = (2 ∷ []) ∷ (0 ∷ []) ∷ (1 ∷ []) ∷ [];
    }
    ∷ record {
      columns = (0 ∷ 1 ∷ []) ∷ (0 ∷ []) ∷ (1 ∷ 2 ∷ []) ∷ [];
      matching = 1 ∷ 0 ∷ 2 ∷ [];
      expected = (2 ∷ []) ∷ (0 ∷ []) ∷ (1 ∷ []) ∷ [];
    }
    ∷ record { columns = (0 ∷ 1 ∷ []) ∷ (0 ∷ 1 ∷ []) ∷ []; matching = 0 ∷ 1 ∷ []; expected = (0 ∷ 1 ∷ []) ∷ [] }
    ∷ record {
      columns = (0 ∷ 1 ∷ 2 ∷ []) ∷ (0 ∷ 1 ∷ 2 ∷ []) ∷ (0 ∷ 1 ∷ 2 ∷ []) ∷ [];
      matching = 0 ∷ 1 ∷ 2 ∷ [];
      expected = (0 ∷ 1 ∷ 2 ∷ []) ∷ [];
    }
    ∷ record { columns = []; matching = []; expected = [] }
    ∷ []
