-- The entry `find_block_diag_form`: what it is lent, what it leaves in every buffer for any input, and what that means.
use Rattle.std.specs.Prelude.{ℕ, ◌+◌, ◌≡◌, List, [], ◌∷◌, ◌++◌, Result, Ok, Err, ◌↔◌, length}
use Rattle.graph.specs.Matchings.{Col, Row, Pattern, Perfect, Points, partner}
use Rattle.graph.specs.Blocks.{targets, blocks}
use Rattle.sparse.specs.Matrix.{column, Valid}
use Rattle.sparse.specs.Buffers.{zeroed, filled}
use Rattle.sparse.specs.Refusals.{Checked, as_column, number_of, place_of, first_refusal, on_check}
use Rattle.sparse.specs.Refusals.{Buffer, buffer, Roomy, early, repeated_row}
use Rattle.sparse.specs.declared.refusal.Refusal.{Refusal}
use Rattle.sparse.specs.declared.refusal.Refusal.TheVariants.{Unmatchable}
use Rattle.matching.specs.Matching.{Verdict, accepted, refused, matching, Matchable}
use Rattle.matching.specs.Outcome.{marks_of, HallMarks}
use Rattle.triangular.specs.declared.form.FormWork.{FormWork}
use Rattle.triangular.specs.declared.form.FormOutputs.{FormOutputs}
use Rattle.blocks.specs.Form.{columns_of, block_starts, StoredForm}

-- ---- the lent buffers

-- the workspace: by column the stamp of its last visit and its cheap place, the columns as they finish, the row of each column, the starts
-- and rows of the reversed graph; and the stack's columns and places
pub record Work : Type 0 where
  pub visited : List ℕ
  pub cheap : List ℕ
  pub finished : List Col
  pub col2row : List Row
  pub backstarts : List ℕ
  pub backrows : List Row
  pub scol : List Col
  pub sat : List ℕ

abbrev pub work : List ℕ → List ℕ → List Col → List Row → List ℕ → List Row → List Col → List ℕ → Work
work visited cheap finished col2row backstarts backrows scol sat = record {
  visited = visited;
  cheap = cheap;
  finished = finished;
  col2row = col2row;
  backstarts = backstarts;
  backrows = backrows;
  scol = scol;
  sat = sat;
}

-- the outputs: the column of each row, the Hall marks, the blocks' columns one after the other, and where each block starts
pub record Outputs : Type 0 where
  pub row2col : List Col
  pub hall : List ℕ
  pub blockcols : List Col
  pub blockstarts : List ℕ

abbrev pub outputs : List Col → List ℕ → List Col → List ℕ → Outputs
outputs row2col hall blockcols blockstarts =
    record { row2col = row2col; hall = hall; blockcols = blockcols; blockstarts = blockstarts }

-- what the slices of the two structs hold
abbrev pub held_work : FormWork → Work
held_work w =
    work w.visited.now w.cheap.now w.finished.now w.col2row.now w.backstarts.now w.backrows.now w.scol.now w.sat.now

abbrev pub held_outputs : FormOutputs → Outputs
held_outputs o = outputs o.row2col.now o.hall.now o.blockcols.now o.blockstarts.now

-- the same slices, holding other numbers
abbrev pub holding_work : FormWork → Work → FormWork
holding_work w h = record w {
  visited = record w.visited { now = h.visited };
  cheap = record w.cheap { now = h.cheap };
  finished = record w.finished { now = h.finished };
  col2row = record w.col2row { now = h.col2row };
  backstarts = record w.backstarts { now = h.backstarts };
  backrows = record w.backrows { now = h.backrows };
  scol = record w.scol { now = h.scol };
  sat = record w.sat { now = h.sat };
}

abbrev pub holding_outputs : FormOutputs → Outputs → FormOutputs
holding_outputs o h = record o {
  row2col = record o.row2col { now = h.row2col };
  hall = record o.hall { now = h.hall };
  blockcols = record o.blockcols { now = h.blockcols };
  blockstarts = record o.blockstarts { now = h.blockstarts };
}

-- all that is lent
pub record Lent : Type 0 where
  pub inner : Work
  pub outer : Outputs

abbrev pub lent : Work → Outputs → Lent
lent inner outer = record { inner = inner; outer = outer }

abbrev pub held : FormWork → FormOutputs → Lent
held w o = lent (held_work w) (held_outputs o)

-- how much is needed of the slices that go by columns, of those that hold starts, and of the one that holds the reversed rows:
-- so the workspace is 5 n + 1 numbers and as many as there are entries
abbrev pub form_need : ℕ → ℕ
form_need size = size

abbrev pub starts_need : ℕ → ℕ
starts_need size = size + 1

abbrev pub entries_need : ℕ → ℕ
entries_need entries = entries

-- each buffer with its need
abbrev pub work_buffers : ℕ → ℕ → Work → List Buffer
work_buffers size entries w =
    buffer (length w.visited) (form_need size) ∷ buffer (length w.cheap) (form_need size)
    ∷ buffer (length w.finished) (form_need size) ∷ buffer (length w.col2row) (form_need size)
    ∷ buffer (length w.backstarts) (starts_need size) ∷ buffer (length w.backrows) (entries_need entries)
    ∷ buffer (length w.scol) (form_need size) ∷ buffer (length w.sat) (form_need size) ∷ []

abbrev pub output_buffers : ℕ → Outputs → List Buffer
output_buffers size o =
    buffer (length o.row2col) (form_need size) ∷ buffer (length o.hall) (form_need size)
    ∷ buffer (length o.blockcols) (form_need size) ∷ buffer (length o.blockstarts) (starts_need size) ∷ []

abbrev pub buffers : ℕ → ℕ → Lent → List Buffer
buffers size entries l = work_buffers size entries l.inner ++ output_buffers size l.outer

-- workspace and stack zero over their needs
abbrev pub cleared : ℕ → ℕ → Work → Work
cleared size entries w =
    let by_column = zeroed (form_need size) in
    work (by_column w.visited) (by_column w.cheap) (by_column w.finished) (by_column w.col2row)
    (zeroed (starts_need size) w.backstarts) (zeroed (entries_need entries) w.backrows) (by_column w.scol) (by_column w.sat)

-- ---- the outcome

-- the number of blocks, or a refusal
abbrev pub BlockAnswer : Type 0
BlockAnswer = Result ℕ Refusal

-- an answer, and every buffer afterwards
pub record Outcome : Type 0 where
  pub answer : BlockAnswer
  pub after : Lent

abbrev pub ended : BlockAnswer → Lent → Outcome
ended answer after = record { answer = answer; after = after }

-- an answer's count of blocks: 0 for a refusal
abbrev pub count_of : BlockAnswer → ℕ
count_of (Ok k) = k
count_of (Err r) = 0

-- what the matching refuses is refused
abbrev pub passed_on : Checked → BlockAnswer
passed_on (Ok u) = Ok 0
passed_on (Err r) = Err r

-- 9: no perfect matching, at the column whose search failed
abbrev pub unmatchable : Col → BlockAnswer
unmatchable c = Err (Unmatchable (as_column c))

-- accepted: the matching, no marks, and the blocks, with zeros behind the last start; 9: the visited columns marked, else zeros
abbrev pub handed_out : ℕ → Pattern → Work → Outputs → Verdict → Outcome
handed_out size col w o (accepted m) =
    let bs = blocks size (targets col m) in
    ended (Ok (length bs))
    (lent w (outputs (filled m o.row2col) (zeroed (form_need size) o.hall) (filled (columns_of bs) o.blockcols)
    (filled (block_starts size bs) o.blockstarts)))
handed_out size col w o (refused c visited) =
    ended (unmatchable c)
    (lent w (outputs (zeroed (form_need size) o.row2col) (filled (marks_of size visited) o.hall)
    (zeroed (form_need size) o.blockcols) (zeroed (starts_need size) o.blockstarts)))

-- where 1, 2, 5 and 3 let a matrix through: 4 changes no output; else the matching rule's verdict is handed out
unfoldable pub formed : ℕ → List ℕ → List Row → Work → Outputs → Outcome
formed size starts rows w o =
    on_check (repeated_row size starts rows) (λ (r : Refusal). ended (Err r) (lent w o))
    (handed_out size (column starts rows) w o (matching size (column starts rows)))

-- for any input: 1, 2, 5 and 3 change nothing; anything else leaves workspace and stack zero
unfoldable pub outcome : ℕ → List ℕ → List Row → Lent → Outcome
outcome size starts rows l =
    on_check (first_refusal (early size starts rows (buffers size (length rows) l))) (λ (r : Refusal). ended (Err r) l)
    (formed size starts rows (cleared size (length rows) l.inner) l.outer)

-- ---- the meaning

-- a valid matrix, and room in every buffer
pub record Given (size : ℕ) (starts : List ℕ) (rows : List Row) (l : Lent) : Type 0 where
  pub valid : Valid size starts rows
  pub room : Roomy (buffers size (length rows) l)

-- accepted exactly if there is a perfect matching; then row2col is one, and as many blocks as counted stand in the other two outputs,
-- by what reaches what in its graph; 9 exactly if there is none, and then the marks are a Hall set
pub record Means (size : ℕ) (starts : List ℕ) (rows : List Row) (l after : Lent) (answer : BlockAnswer) : Type 0 where
  pub accepted_exactly : ((k : ℕ) × (answer ≡ Ok k)) ↔ (Given size starts rows l × Matchable size (column starts rows))
  pub perfect : (k : ℕ) → answer ≡ Ok k → Perfect size (column starts rows) (partner after.outer.row2col)
  pub form : (k : ℕ) → answer ≡ Ok k
      → StoredForm size (Points size (column starts rows) (partner after.outer.row2col)) after.outer.blockcols
      after.outer.blockstarts k
  pub refused_exactly : (number_of answer ≡ 9) ↔ (Given size starts rows l × (¬ Matchable size (column starts rows)))
  pub deficient : number_of answer ≡ 9 → HallMarks size (column starts rows) (place_of answer) after.outer.hall
