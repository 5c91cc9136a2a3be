use Rattle.std.proofs.Common.{arith, ap, ◌∙◌, length}
use Rattle.sparse.specs.Matrix.{RowsBelow}
use Rattle.sparse.specs.Parts.{marked}
use Rattle.sparse.proofs.Marks.{unmark_mark}
use Rattle.sparse.proofs.Matrix.{column_below}
use Rattle.sparse.proofs.Tallies.{count_more}
use Rattle.sparse.proofs.checks.count_repeats.Goals as goal

pub loop-c-preserved : goal.loop-c-preserved
loop-c-preserved c =
    let mat = c.args.mat.now in
    let col = c.col_rows-rows.result.now in
    let same = c.loop-c.invariant.0 in
    let told = c.tally-again.ensures in
    let below : RowsBelow col mat.mat.size =
    rw c.col_rows-rows.ensures (column_below mat.mat.shaped mat.below c.loop-c.c (omega arith)) in (
      c.unmark.ensures ∙ ap (marked col 0 (length col)) told.marks_after
          ∙ unmark_mark col (length col) (length col) c.loop-c.marks (omega arith)
          (λ j a. rw same (c.requires.1 _ (below j a)))
          ∙ same,
      count_more mat.mat.shaped c.loop-c.c _ _ (omega arith) c.loop-c.invariant.1 (rw c.col_rows-rows.ensures at told.tallied),
    )
