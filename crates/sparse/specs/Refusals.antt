-- The table of refusals, for any numbers and any lists: what each refusal is given for, and at which place.
use Rattle.std.specs.Prelude.{ℕ, ◌+◌, ◌≤◌, List, [], ◌∷◌, Bool, false, cond, ◌||◌, ◌&&◌, not, ltb, leb, eqb, length, get_or}
use Rattle.std.specs.Prelude.{Result, Ok, Err}
use Rattle.graph.specs.Counting.{first, some}
use Rattle.sparse.specs.Limits.{max_size, max_entries}
use Rattle.sparse.specs.declared.Column.{Column}
use Rattle.sparse.specs.declared.OriginalRow.{OriginalRow}
use Rattle.sparse.specs.declared.refusal.Refusal.{Refusal}
use Rattle.sparse.specs.declared.refusal.Refusal.TheVariants.{TooLarge, Misshapen, RowOutside, RepeatedRow, NoRoom, EmptyColumn}
use Rattle.sparse.specs.declared.refusal.Refusal.TheVariants.{Unmatchable, ColumnOutside, UnfitRow, MismatchedRow}

-- ---- the table's numbers and places

-- a number as a column
abbrev pub as_column : ℕ → Column
as_column c = record { 0 = c }

-- a number as an original row
abbrev pub as_row : ℕ → OriginalRow
as_row r = record { 0 = r }

-- the number of a refusal
abbrev pub number : Refusal → ℕ
number TooLarge = 1
number Misshapen = 2
number (RowOutside position) = 3
number (RepeatedRow position) = 4
number NoRoom = 5
number (EmptyColumn column) = 8
number (Unmatchable column) = 9
number ColumnOutside = 13
number (UnfitRow position) = 14
number (MismatchedRow row) = 15

-- the place of a refusal
abbrev pub place : Refusal → ℕ
place TooLarge = 0
place Misshapen = 0
place (RowOutside position) = position
place (RepeatedRow position) = position
place NoRoom = 0
place (EmptyColumn column) = column.0
place (Unmatchable column) = column.0
place ColumnOutside = 0
place (UnfitRow position) = position
place (MismatchedRow row) = row.0

-- the number of an answer: 0 for acceptance
abbrev pub number_of : {A : Type 0} → Result A Refusal → ℕ
number_of (Ok x) = 0
number_of (Err r) = number r

-- the place of an answer: 0 for acceptance
abbrev pub place_of : {A : Type 0} → Result A Refusal → ℕ
place_of (Ok x) = 0
place_of (Err r) = place r

-- ---- checks

-- what a check of input finds
abbrev pub Checked : Type 0
Checked = Result (Unit {0}) Refusal

-- a check that finds nothing
abbrev pub passed : Checked
passed = Ok tt

-- what a check that hands something on finds
abbrev pub checked : {A : Type 0} → Result A Refusal → Checked
checked (Ok x) = passed
checked (Err r) = Err r

-- refused where the test says so
unfoldable pub refused_if : Refusal → Bool → Checked
refused_if r test = cond test (Err r) passed

-- refused at the smallest place below n that p takes
unfoldable pub refused_at : (ℕ → Refusal) → (ℕ → Bool) → ℕ → Checked
refused_at refusal p n = cond (ltb (first p n) n) (Err (refusal (first p n))) passed

-- the first refusal of a list of checks
unfoldable pub first_refusal : List Checked → Checked
first_refusal [] = passed
first_refusal (Ok u ∷ rest) = first_refusal rest
first_refusal (Err r ∷ rest) = Err r

-- what follows a check: the first where it refused, the second where it passed
abbrev pub on_check {ℓ} : {A : Type ℓ} → Checked → (Refusal → A) → A → A
on_check (Ok u) refused accepted = accepted
on_check (Err r) refused accepted = refused r

-- ---- the table's rows

-- 1: n or entries over the maximum
unfoldable pub too_large : ℕ → List ℕ → Checked
too_large size rows = refused_if TooLarge (ltb max_size size || ltb max_entries (length rows))

-- the start of column c + 1 lies before that of column c
abbrev pub falls_at : List ℕ → ℕ → Bool
falls_at starts c = ltb (get_or starts (c + 1) 0) (get_or starts c 0)

-- 2: starts not n + 1 long, first not 0, decreasing, last not the length of rows
unfoldable pub misshapen : ℕ → List ℕ → List ℕ → Checked
misshapen size starts rows =
    refused_if Misshapen
    (not (eqb (length starts) (size + 1)) || not (eqb (get_or starts 0 0) 0) || some (falls_at starts) size
    || not (eqb (get_or starts size 0) (length rows)))

-- a lent buffer: its length and its need
pub record Buffer : Type 0 where
  pub len : ℕ
  pub need : ℕ

abbrev pub buffer : ℕ → ℕ → Buffer
buffer len need = record { len = len; need = need }

-- a length and a need as a buffer
abbrev pub as_buffer : ℕ × ℕ → Buffer
as_buffer b = buffer b.0 b.1

-- whether one of the buffers is shorter than its need
unfoldable pub one_short : List Buffer → Bool
one_short [] = false
one_short (b ∷ bs) = ltb b.len b.need || one_short bs

-- 5: a buffer shorter than its need
unfoldable pub no_room : List Buffer → Checked
no_room buffers = refused_if NoRoom (one_short buffers)

-- every buffer is as long as its need
abbrev pub Roomy : List Buffer → Type 0
Roomy [] = Unit {0}
Roomy (b ∷ bs) = (b.need ≤ b.len) × Roomy bs

-- the row at place k is not below n
abbrev pub outside_at : ℕ → List ℕ → ℕ → Bool
outside_at size rows k = leb size (get_or rows k 0)

-- 3: a row not below n, at its entry position
unfoldable pub row_outside : ℕ → List ℕ → Checked
row_outside size rows = refused_at RowOutside (outside_at size rows) (length rows)

-- 1, 2, 5 and 3, which every entry tests before a buffer changes
unfoldable pub early : ℕ → List ℕ → List ℕ → List Buffer → List Checked
early size starts rows buffers = too_large size rows ∷ misshapen size starts rows ∷ no_room buffers ∷ row_outside size rows ∷ []

-- one of the columns holds both places
unfoldable pub together : ℕ → List ℕ → ℕ → ℕ → Bool
together size starts j k = some (λ c. leb (get_or starts c 0) j && ltb k (get_or starts (c + 1) 0)) size

-- the row at place k stands at an earlier place of its column
unfoldable pub repeats_at : ℕ → List ℕ → List ℕ → ℕ → Bool
repeats_at size starts rows k = some (λ j. eqb (get_or rows j 0) (get_or rows k 0) && together size starts j k) k

-- 4: a row twice in a column, at the second occurrence
unfoldable pub repeated_row : ℕ → List ℕ → List ℕ → Checked
repeated_row size starts rows = refused_at RepeatedRow (repeats_at size starts rows) (length rows)

-- column c has no rows
abbrev pub empty_at : List ℕ → ℕ → Bool
empty_at starts c = leb (get_or starts (c + 1) 0) (get_or starts c 0)

-- 8: an empty column
unfoldable pub empty_column : ℕ → List ℕ → Checked
empty_column size starts = refused_at (λ c. EmptyColumn (as_column c)) (empty_at starts) size
