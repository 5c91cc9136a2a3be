-- The entry `edit_column`: what it leaves in every buffer for any input, and what that means. It is lent what the block form is lent.
use Rattle.std.specs.Prelude.{ℕ, ◌+◌, ◌≡◌, ◌≢◌, List, Ok, Err, ◌↔◌, length, take}
use Rattle.graph.specs.Matchings.{Row, Col, Pattern, Perfect, Points, partner}
use Rattle.graph.specs.Blocks.{BlockForm, SameBlocks}
use Rattle.sparse.specs.Buffers.{zeroed, filled}
use Rattle.sparse.specs.Matrix.{column_or, Valid}
use Rattle.sparse.specs.Refusals.{number_of, place_of, first_refusal, on_check, Roomy, early}
use Rattle.sparse.specs.declared.refusal.Refusal.{Refusal}
use Rattle.matching.specs.Matching.{Verdict, accepted, refused, Matchable}
use Rattle.matching.specs.Outcome.{marks_of, HallMarks}
use Rattle.rematching.specs.Checks.{late, Editable}
use Rattle.rematching.specs.Rematching.{rematching, Rerouted}
use Rattle.blocks.specs.Form.{stored_blocks, StoredForm}
use Rattle.triangular.specs.Outcome as form
use Rattle.triangular.specs.Outcome.{Work, Outputs, outputs, Lent, lent, buffers, cleared, form_need, starts_need, Outcome, ended}
use Rattle.triangular.specs.Outcome.{BlockAnswer, unmatchable}

-- ---- the outcome

-- how many entries there must be room for: those of the old matrix and n more, which a replacement may bring;
-- so the workspace is 6 n + 1 numbers and as many as the old matrix has entries
abbrev pub edit_entries : ℕ → List Row → ℕ
edit_entries size rows = length rows + size

-- the outputs of 9: the old matching stays, the columns are marked so, and there are no blocks
abbrev pub refused_outputs : ℕ → List ℕ → Outputs → Outputs
refused_outputs size marks o =
    outputs o.row2col (filled marks o.hall) (zeroed (form_need size) o.blockcols) (zeroed (starts_need size) o.blockstarts)

-- accepted: the new matching and its blocks, as the block form hands them out; 9: the old matching stays, the visited columns are marked,
-- and there are no blocks
abbrev pub handed_out : ℕ → Pattern → Work → Outputs → Verdict → Outcome
handed_out size col w o (accepted m) = form.handed_out size col w o (accepted m)
handed_out size col w o (refused c visited) = ended (unmatchable c) (lent w (refused_outputs size (marks_of size visited) o))

-- where 1, 2, 5 and 3 let an edit through: 4, 13, 14, 15 and the late 1 change no output; else the verdict of the one search, in the
-- edited matrix and from the old matching, is handed out
unfoldable pub replaced : ℕ → List ℕ → List Row → Col → List Row → Work → Outputs → Outcome
replaced size starts rows e new w o =
    let col = column_or starts rows e new in
    on_check (first_refusal (late size starts rows e new o.row2col)) (λ (r : Refusal). ended (Err r) (lent w o))
    (handed_out size col w o (rematching size col (take size o.row2col) e))

-- for any input: 1, 2, 5 and 3 change nothing; anything else leaves workspace and stack zero
unfoldable pub outcome : ℕ → List ℕ → List Row → Col → List Row → Lent → Outcome
outcome size starts rows e new l =
    on_check (first_refusal (early size starts rows (buffers size (edit_entries size rows) l))) (λ (r : Refusal). ended (Err r) l)
    (replaced size starts rows e new (cleared size (edit_entries size rows) l.inner) l.outer)

-- ---- the meaning

-- a valid matrix, a column of it with a valid replacement, a perfect matching, an edited matrix within the limits, and room
pub record Given (size : ℕ) (starts : List ℕ) (rows : List Row) (e : Col) (new : List Row) (l : Lent) : Type 0 where
  pub valid : Valid size starts rows
  pub editable : Editable size starts rows e new l.outer.row2col
  pub room : Roomy (buffers size (edit_entries size rows) l)

-- what acceptance with k blocks means for the edited pattern col: row2col, which was old, is a perfect matching; it changed along one
-- alternating path alone, from the edited column to the row it had; the blocks are those of its graph, by what reaches what; and as
-- sets of columns with their rows they are those of any perfect matching of the edited matrix
pub record Accepts (n : ℕ) (col : Pattern) (e : Col) (old row2col blockcols : List Col) (blockstarts : List ℕ) (k : ℕ) : Type 0 where
  pub perfect : Perfect n col (partner row2col)
  pub rerouted : Rerouted n col old row2col e
  pub form : StoredForm n (Points n col (partner row2col)) blockcols blockstarts k
  pub afresh : (f : Row → Col) (bs : List (List Col)) → Perfect n col f → BlockForm n (Points n col f) bs
      → SameBlocks n (partner row2col) f (stored_blocks blockcols blockstarts k) bs

-- accepted exactly if the edited matrix has a perfect matching; 9 exactly if it has none, at the edited column and with the marks of a
-- Hall set; whatever is refused, the old matching stays
pub record Means (size : ℕ) (starts : List ℕ) (rows : List Row) (e : Col) (new : List Row) (l after : Lent) (answer : BlockAnswer)
    : Type 0 where
  pub accepted_exactly : ((k : ℕ) × (answer ≡ Ok k))
      ↔ (Given size starts rows e new l × Matchable size (column_or starts rows e new))
  pub accepts : (k : ℕ) → answer ≡ Ok k → Accepts size (column_or starts rows e new) e l.outer.row2col
      after.outer.row2col after.outer.blockcols after.outer.blockstarts k
  pub refused_exactly : (number_of answer ≡ 9) ↔ (Given size starts rows e new l × (¬ Matchable size (column_or starts rows e new)))
  pub at_column : number_of answer ≡ 9 → place_of answer ≡ e
  pub deficient : number_of answer ≡ 9 → HallMarks size (column_or starts rows e new) (place_of answer) after.outer.hall
  pub kept : number_of answer ≢ 0 → after.outer.row2col ≡ l.outer.row2col
