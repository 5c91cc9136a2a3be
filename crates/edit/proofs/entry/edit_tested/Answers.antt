-- `edit_tested` meets its contract: a late check refuses, and else the valid edit is made.
use Rattle.std.proofs.Common.{sym, ◌∙◌}
use Rattle.std.proofs.lemmas.Result.{err_from_is_err_and}
use Rattle.sparse.proofs.Matrix.{column_once}
use Rattle.triangular.specs.Outcome.{held_work, held_outputs, held}
use Rattle.triangular.proofs.Work.{same_then}
use Rattle.triangular.proofs.Room.{still_roomy}
use Rattle.edit.specs.Outcome.{edit_entries}
use Rattle.rematching.proofs.Late.{late_passed, former_read}
use Rattle.edit.proofs.Outcome.{matching_room, refused_replaced, verdict_replaced}
use Rattle.edit.proofs.ValidEdit.{checked_same}
use Rattle.edit.proofs.entry.edit_tested.Goals as goal

pub returns-in_err-check_edit-clause-outputs_after : goal.returns-in_err-check_edit-clause-outputs_after
returns-in_err-check_edit-clause-outputs_after c =
    let p = err_from_is_err_and c.from_residual.result c.from_residual.ensures.1 in
    λ w. rw (p.1, p.2)
    (refused_replaced _ _ _ _ _ w (held_outputs c.args.outputs.now) _ (sym c.check_edit.ensures.value ∙ c.in_err-check_edit.was))

pub returns-in_err-check_edit-clause-same_work : goal.returns-in_err-check_edit-clause-same_work
returns-in_err-check_edit-clause-same_work c =
    let kept = c.check_edit.auto in
    checked_same (held_work c.args.work.now) c.clear.ensures c.clear.auto.s c.check_edit.ensures.same_beyond kept.visited kept.col2row

pub edit_valid-requires : goal.edit_valid-requires
edit_valid-requires c =
    let size = c.args.mat.now.mat.size in
    let entries = edit_entries size c.args.mat.now.mat.rows.now in
    let l = held c.args.work.now c.args.outputs.now in
    let kept = c.check_edit.auto in
    let same = checked_same {k = entries} l.inner c.clear.ensures c.clear.auto.s c.check_edit.ensures.same_beyond kept.visited
    kept.col2row in
    let fit = late_passed _ _ _ _ _ l.outer.row2col (matching_room size entries l c.requires)
    (sym c.check_edit.ensures.value ∙ c.in_ok-check_edit.was) in record {
      once = λ d l. column_once c.args.mat.now.mat.shaped fit.0 d;
      editable = fit.1;
      roomy = still_roomy size entries l same c.requires;
      edited_value = former_read _ l.outer.row2col _ _ _ (c.check_edit.ensures.col2row_after c.in_ok-check_edit.was) fit.1.below;
    }

pub returns-clause-outputs_after : goal.returns-clause-outputs_after
returns-clause-outputs_after c w =
    c.edit_valid.ensures.outputs_after w
    ∙ verdict_replaced _ _ _ _ _ w (held_outputs c.args.outputs.now) (sym c.check_edit.ensures.value ∙ c.in_ok-check_edit.was)

pub returns-clause-same_work : goal.returns-clause-same_work
returns-clause-same_work c =
    let kept = c.check_edit.auto in
    same_then (checked_same (held_work c.args.work.now) c.clear.ensures c.clear.auto.s c.check_edit.ensures.same_beyond kept.visited
    kept.col2row) c.edit_valid.ensures.same_work
