-- The limits on a matrix, and the number that stands for no column.
use Rattle.std.specs.Prelude.{ℕ}

-- the largest size
abbrev pub max_size : ℕ
max_size = 4096

-- the largest number of entries
abbrev pub max_entries : ℕ
max_entries = 1048576

-- no column: no size, place or position is as large
abbrev pub none : ℕ
none = 4294967295
