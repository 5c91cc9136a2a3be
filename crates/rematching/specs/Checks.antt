-- The table's rows for an edit: the column, its replacement, the old matching, and the edited matrix's entries.
use Rattle.std.specs.Prelude.{ℕ, ◌+◌, ◌-◌, ◌<◌, ◌≤◌, List, [], ◌∷◌, Bool, ◌||◌, not, ltb, leb, length, get_or, take}
use Rattle.graph.specs.Lists.{Once, elem}
use Rattle.graph.specs.Matchings.{Row, Col, Pattern, Perfect, partner}
use Rattle.sparse.specs.Limits.{max_entries}
use Rattle.sparse.specs.Matrix.{column, column_or, width, RowsBelow}
use Rattle.sparse.specs.Refusals.{Checked, as_row, refused_if, refused_at, repeated_row}
use Rattle.sparse.specs.declared.refusal.Refusal.TheVariants.{TooLarge, ColumnOutside, UnfitRow, MismatchedRow}

-- the old matrix, and the edited one
abbrev pub old_pattern : List ℕ → List Row → Pattern
old_pattern starts rows = column starts rows

abbrev pub new_pattern : List ℕ → List Row → Col → List Row → Pattern
new_pattern starts rows e new = column_or starts rows e new

-- 13: the edited column is not below n
unfoldable pub column_outside : ℕ → Col → Checked
column_outside size e = refused_if ColumnOutside (leb size e)

-- the replacement's row at place k is not below n, or stands at an earlier place
abbrev pub unfit_at : ℕ → List Row → ℕ → Bool
unfit_at size new k = leb size (get_or new k 0) || elem (get_or new k 0) (take k new)

-- 14: a replacement row not below n or repeated, at its position
unfoldable pub unfit_row : ℕ → List Row → Checked
unfit_row size new = refused_at UnfitRow (unfit_at size new) (length new)

-- the column of row r is not below n, is that of an earlier row, or lacks row r
abbrev pub mismatched_at : ℕ → Pattern → List Col → Row → Bool
mismatched_at size col m r = leb size (partner m r) || elem (partner m r) (take r m) || not (elem r (col (partner m r)))

-- 15: not a perfect matching of the old matrix, at the first such row
unfoldable pub mismatched_row : ℕ → Pattern → List Col → Checked
mismatched_row size col m = refused_at (λ r. MismatchedRow (as_row r)) (mismatched_at size col m) size

-- how many entries the edited matrix has
abbrev pub edited_entries : List ℕ → List Row → Col → List Row → ℕ
edited_entries starts rows e new = length rows - width starts e + length new

-- 1 once more: the edited matrix has too many entries
unfoldable pub grown_too_large : List ℕ → List Row → Col → List Row → Checked
grown_too_large starts rows e new = refused_if TooLarge (ltb max_entries (edited_entries starts rows e new))

-- 4, 13, 14, 15 and the late 1, which an edit tests once it may clear its workspace
unfoldable pub late : ℕ → List ℕ → List Row → Col → List Row → List Col → List Checked
late size starts rows e new m =
    repeated_row size starts rows ∷ column_outside size e ∷ unfit_row size new ∷ mismatched_row size (old_pattern starts rows) m
    ∷ grown_too_large starts rows e new ∷ []

-- what 13, 14, 15 and the late 1 let through: a column, a replacement without repeats, a perfect matching of the old matrix, and an
-- edited matrix within the limits
pub record Editable (size : ℕ) (starts : List ℕ) (rows : List Row) (e : Col) (new : List Row) (m : List Col) : Type 0 where
  pub below : e < size
  pub new_below : RowsBelow new size
  pub new_once : Once new
  pub perfect : Perfect size (old_pattern starts rows) (partner m)
  pub few : edited_entries starts rows e new ≤ max_entries
