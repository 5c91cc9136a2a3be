-- The pattern of a matrix in its storage: n + 1 column starts, and the rows column by column.
use Rattle.std.specs.Prelude.{ℕ, ◌+◌, ◌-◌, ◌<◌, ◌≤◌, ◌≡◌, List, length, get_or}
use Rattle.std.proofs.Math.Seq.{slice}
use Rattle.graph.specs.Lists.{Once}
use Rattle.graph.specs.Matchings.{Col, Row, Pattern}
use Rattle.graph.specs.Edits.{edited}
use Rattle.sparse.specs.Limits.{max_size, max_entries}

-- the rows of column c, in list order
abbrev pub column : List ℕ → List Row → Pattern
column starts rows c = slice (get_or starts c 0) (get_or starts (c + 1) 0) rows

-- the pattern with column e replaced; e is no column where nothing is
abbrev pub column_or : List ℕ → List Row → Col → List Row → Pattern
column_or starts rows e replacement = edited (column starts rows) e replacement

-- how many rows column c has
abbrev pub width : List ℕ → Col → ℕ
width starts c = get_or starts (c + 1) 0 - get_or starts c 0

-- what refusals 1 and 2 let through
pub record Shaped (size : ℕ) (starts rows : List ℕ) : Type 0 where
  pub small : size ≤ max_size
  pub few : length rows ≤ max_entries
  pub starts_length : length starts ≡ size + 1
  pub from_zero : get_or starts 0 0 ≡ 0
  pub rising : (c : Col) → c < size → get_or starts c 0 ≤ get_or starts (c + 1) 0
  pub to_end : get_or starts size 0 ≡ length rows

-- every row is below n: what refusal 3 lets through
abbrev pub RowsBelow : List Row → ℕ → Type 0
RowsBelow rows n = (k : ℕ) → k < length rows → get_or rows k 0 < n

-- a valid pattern: what refusals 1 to 4 let through
pub record Valid (size : ℕ) (starts : List ℕ) (rows : List Row) : Type 0 where
  pub shaped : Shaped size starts rows
  pub below : RowsBelow rows size
  pub once : (c : Col) → c < size → Once (column starts rows c)
