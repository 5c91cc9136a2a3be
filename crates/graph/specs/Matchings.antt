-- Matchings of a square matrix's pattern, and the directed graph that a matching gives on the columns.
use Rattle.std.specs.Prelude.{ℕ, ◌<◌, ◌≡◌, List, get_or}
use Rattle.graph.specs.Lists.{Mem}

-- A row and a column are both numbers here: the names say which is meant.
abbrev pub Row : Type 0
Row = ℕ

abbrev pub Col : Type 0
Col = ℕ

-- the pattern of a matrix: the rows of each column, in list order
abbrev pub Pattern : Type 0
Pattern = Col → List Row

-- column c has an entry in row r
abbrev pub Entry : Pattern → Col → Row → Type 0
Entry col c r = Mem r (col c)

-- every entry lies in a column and a row below n
pub record Inside (n : ℕ) (col : Pattern) : Type 0 where
  pub row_below : (c : Col) (r : Row) → Entry col c r → r < n
  pub col_below : (c : Col) (r : Row) → Entry col c r → c < n

-- the column that a list by row gives to row r
abbrev pub partner : List Col → Row → Col
partner m r = get_or m r 0

-- f gives each row below n a column that has an entry there, and no column to two rows
pub record Perfect (n : ℕ) (col : Pattern) (f : Row → Col) : Type 0 where
  pub inside : (r : Row) → r < n → f r < n
  pub on : (r : Row) → r < n → Entry col (f r) r
  pub once : (r s : Row) → r < n → s < n → f r ≡ f s → r ≡ s

-- f gives some rows below n a column that has an entry there, none to two rows; a row is free where f gives n or more
pub record Partial (n : ℕ) (col : Pattern) (f : Row → Col) : Type 0 where
  pub on : (r : Row) → r < n → f r < n → Entry col (f r) r
  pub once : (r s : Row) → r < n → s < n → f r < n → f r ≡ f s → r ≡ s

-- column c points to column d: c has an entry in the row matched to d
abbrev pub Points : ℕ → Pattern → (Row → Col) → Col → Col → Type 0
Points n col f c d = (r : Row) × (r < n) × Entry col c r × (f r ≡ d)
