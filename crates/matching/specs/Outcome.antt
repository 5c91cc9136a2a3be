-- The entry `find_diag_matching`: what it is lent, what it leaves in every buffer for any input, and what that means.
use Rattle.std.specs.Prelude.{ℕ, ◌<◌, ◌≡◌, List, [], ◌∷◌, Err, ◌↔◌, ◌⊎◌, eqb, length, get_or}
use Rattle.graph.specs.Counting.{bit}
use Rattle.graph.specs.Lists.{elem, table}
use Rattle.graph.specs.Matchings.{Col, Row, Pattern, Perfect, partner}
use Rattle.graph.specs.Hall.{HallSet}
use Rattle.sparse.specs.Matrix.{column, Valid}
use Rattle.sparse.specs.Buffers.{zeroed, filled}
use Rattle.sparse.specs.Refusals.{Checked, passed, as_column, number_of, place_of, first_refusal, on_check}
use Rattle.sparse.specs.Refusals.{Buffer, buffer, Roomy, early, repeated_row}
use Rattle.sparse.specs.declared.refusal.Refusal.{Refusal}
use Rattle.sparse.specs.declared.refusal.Refusal.TheVariants.{Unmatchable}
use Rattle.matching.specs.declared.search.SearchWork.{SearchWork}
use Rattle.matching.specs.Matching.{Verdict, accepted, refused, matching, Matchable}

-- ---- the lent buffers

-- by column the stamp of its last visit and its cheap place, the stack's columns and places, the column of each row, the Hall marks
pub record Lent : Type 0 where
  pub visited : List ℕ
  pub cheap : List ℕ
  pub scol : List Col
  pub sat : List ℕ
  pub row2col : List Col
  pub hall : List ℕ

abbrev pub lent : List ℕ → List ℕ → List Col → List ℕ → List Col → List ℕ → Lent
lent visited cheap scol sat row2col hall =
    record { visited = visited; cheap = cheap; scol = scol; sat = sat; row2col = row2col; hall = hall }

-- what a search works in, and the outputs
abbrev pub lent_by : SearchWork → List Col → List ℕ → Lent
lent_by work row2col hall = lent work.visited.now work.cheap.now work.scol.now work.sat.now row2col hall

-- how much is needed of each workspace slice: n; so the workspace is two slices of n, 2 n numbers in all
abbrev pub matching_need : ℕ → ℕ
matching_need size = size

-- each buffer with its need
abbrev pub buffers : ℕ → Lent → List Buffer
buffers size l =
    buffer (length l.visited) (matching_need size) ∷ buffer (length l.cheap) (matching_need size)
    ∷ buffer (length l.scol) size ∷ buffer (length l.sat) size
    ∷ buffer (length l.row2col) size ∷ buffer (length l.hall) size ∷ []

-- workspace and stack zero, the outputs as given
abbrev pub cleared : ℕ → Lent → List Col → List ℕ → Lent
cleared size l row2col hall =
    let work = zeroed (matching_need size) in
    lent (work l.visited) (work l.cheap) (zeroed size l.scol) (zeroed size l.sat) row2col hall

-- ---- the outcome

-- an answer, and every buffer afterwards
pub record Outcome : Type 0 where
  pub answer : Checked
  pub after : Lent

abbrev pub ended : Checked → Lent → Outcome
ended answer after = record { answer = answer; after = after }

-- 9: no perfect matching, at the column whose search failed
abbrev pub unmatchable : Col → Checked
unmatchable c = Err (Unmatchable (as_column c))

-- by column 1 for a member of the list, else 0
unfoldable pub marks_of : ℕ → List Col → List ℕ
marks_of size members = table (λ c. bit (elem c members)) size

-- accepted: the matching, and no marks; refused 9: no matching, and the visited columns marked
abbrev pub handed_out : ℕ → Lent → Verdict → Outcome
handed_out size l (accepted m) = ended passed (cleared size l (filled m l.row2col) (zeroed size l.hall))
handed_out size l (refused c visited) =
    ended (unmatchable c) (cleared size l (zeroed size l.row2col) (filled (marks_of size visited) l.hall))

-- 4 leaves workspace and stack zero; else the rule's verdict is handed out
abbrev pub tested : ℕ → List ℕ → List Row → Lent → Outcome
tested size starts rows l =
    on_check (repeated_row size starts rows) (λ (r : Refusal). ended (Err r) (cleared size l l.row2col l.hall))
    (handed_out size l (matching size (column starts rows)))

-- for any input: 1, 2, 5 and 3 change nothing; else what is tested further decides
unfoldable pub outcome : ℕ → List ℕ → List Row → Lent → Outcome
outcome size starts rows l =
    on_check (first_refusal (early size starts rows (buffers size l))) (λ (r : Refusal). ended (Err r) l) (tested size starts rows l)

-- ---- the meaning

-- a valid matrix, and room in every buffer
pub record Given (size : ℕ) (starts : List ℕ) (rows : List Row) (l : Lent) : Type 0 where
  pub valid : Valid size starts rows
  pub room : Roomy (buffers size l)

-- the column that failed has mark 1, each column has 1 or 0, and those with 1 are a Hall set
pub record HallMarks (n : ℕ) (col : Pattern) (c : Col) (marks : List ℕ) : Type 0 where
  pub below : c < n
  pub failed : get_or marks c 0 ≡ 1
  pub one_or_zero : (d : Col) → d < n → (get_or marks d 0 ≡ 1) ⊎ (get_or marks d 0 ≡ 0)
  pub hall_set : HallSet n col (λ d. eqb (get_or marks d 0) 1)

-- accepted exactly if there is a perfect matching, and then row2col is one; 9 exactly if there is none, and then the marks are a Hall set
pub record Means (size : ℕ) (starts : List ℕ) (rows : List Row) (l after : Lent) (answer : Checked) : Type 0 where
  pub accepted_exactly : (answer ≡ passed) ↔ (Given size starts rows l × Matchable size (column starts rows))
  pub perfect : answer ≡ passed → Perfect size (column starts rows) (partner after.row2col)
  pub refused_exactly : (number_of answer ≡ 9) ↔ (Given size starts rows l × (¬ Matchable size (column starts rows)))
  pub deficient : number_of answer ≡ 9 → HallMarks size (column starts rows) (place_of answer) after.hall
