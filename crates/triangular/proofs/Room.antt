-- The room in the block form's buffers, slice by slice.
use Rattle.std.proofs.Common.{ℕ, ◌≤◌, List, [], ◌∷◌, ◌++◌, length}
use Rattle.sparse.specs.Refusals.{Buffer, Roomy}
use Rattle.triangular.specs.Parts.{SameWork}
use Rattle.triangular.specs.Outcome.{Work, Lent, form_need, starts_need, entries_need, work_buffers, output_buffers, buffers}

-- room in two lists of buffers is room in each
pub roomy_split : (a b : List Buffer) → Roomy (a ++ b) → Roomy a × Roomy b
roomy_split [] b r = (tt, r)
roomy_split (x ∷ a) b r = let t = roomy_split a b r.1 in ((r.0, t.0), t.1)

-- room in workspace and stack, by the names of the slices
pub record WorkRoom (size entries : ℕ) (w : Work) : Type 0 where
  pub visited : form_need size ≤ length w.visited
  pub cheap : form_need size ≤ length w.cheap
  pub finished : form_need size ≤ length w.finished
  pub col2row : form_need size ≤ length w.col2row
  pub backstarts : starts_need size ≤ length w.backstarts
  pub backrows : entries_need entries ≤ length w.backrows
  pub scol : form_need size ≤ length w.scol
  pub sat : form_need size ≤ length w.sat

pub work_room : (size entries : ℕ) (w : Work) → Roomy (work_buffers size entries w) → WorkRoom size entries w
work_room size entries w R = record {
  visited = R.0;
  cheap = R.1.0;
  finished = R.1.1.0;
  col2row = R.1.1.1.0;
  backstarts = R.1.1.1.1.0;
  backrows = R.1.1.1.1.1.0;
  scol = R.1.1.1.1.1.1.0;
  sat = R.1.1.1.1.1.1.1.0;
}

pub work_roomy : {size entries : ℕ} {w : Work} → WorkRoom size entries w → Roomy (work_buffers size entries w)
work_roomy R = (R.visited, (R.cheap, (R.finished, (R.col2row, (R.backstarts, (R.backrows, (R.scol, (R.sat, tt))))))))

-- room in all that is lent: in workspace and stack, and in the slice of the matching
pub lent_room : (size entries : ℕ) (l : Lent) → Roomy (buffers size entries l)
    → Roomy (work_buffers size entries l.inner) × (form_need size ≤ length l.outer.row2col)
lent_room size entries l R =
    let t = roomy_split (work_buffers size entries l.inner) (output_buffers size l.outer) R in (t.0, t.1.0)

-- slices that stay keep their room
pub work_kept : {n k : ℕ} (size entries : ℕ) (w w' : Work) → SameWork n k w w' → Roomy (work_buffers size entries w)
    → Roomy (work_buffers size entries w')
work_kept size entries w w' S h =
    rw (
      S.visited.same_length,
      S.cheap.same_length,
      S.finished.same_length,
      S.col2row.same_length,
      S.backstarts.same_length,
      S.backrows.same_length,
      S.cols.same_length,
      S.places.same_length,
    ) h

-- so what is lent has room after a part that leaves the workspace so
pub kept_room : {n k : ℕ} {w : Work} (size entries : ℕ) (l : Lent) → SameWork n k l.inner w → Roomy (buffers size entries l)
    → Roomy (work_buffers size entries w)
kept_room {w = w} size entries l S R = work_kept size entries l.inner w S (lent_room size entries l R).0

pub still_roomy : {n k : ℕ} {w : Work} (size entries : ℕ) (l : Lent) → SameWork n k l.inner w → Roomy (buffers size entries l)
    → Roomy (buffers size entries (record l { inner = w }))
still_roomy size entries l S R =
    rw (
      S.visited.same_length,
      S.cheap.same_length,
      S.finished.same_length,
      S.col2row.same_length,
      S.backstarts.same_length,
      S.backrows.same_length,
      S.cols.same_length,
      S.places.same_length,
    ) R
