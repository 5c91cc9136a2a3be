-- `edit_column` meets its contract: a refusal of the early checks, or what is replaced with the workspace cleared, is the outcome.
use Rattle.std.proofs.Common.{rules, Err, sym, ap, ◌∙◌}
use Rattle.std.proofs.lemmas.Result.{err_from_is_err_and}
use Rattle.sparse.specs.Refusals.{checked}
use Rattle.sparse.proofs.Early.{early_passed}
use Rattle.edit.specs.Outcome.{edit_entries}
use Rattle.triangular.specs.Outcome.{BlockAnswer, held_work, held_outputs, held, ended}
use Rattle.triangular.proofs.Room.{kept_room}
use Rattle.triangular.proofs.Work.{same_cleared}
use Rattle.edit.proofs.Outcome.{early_outcome, outcome_means, tested_exit}
use Rattle.edit.proofs.entry.edit_column.Goals as goal

pub returns-in_err-mat : goal.returns-in_err-mat
returns-in_err-mat c =
    let l = held c.args.work.now c.args.outputs.now in
    let entries = edit_entries c.args.size c.args.rows.now in
    let found = c.check_early.ensures.value _ (rw c.edit_entries-entries.ensures at c.lacks_room-short.ensures) in
    let p = err_from_is_err_and c.from_residual.result c.from_residual.ensures.1 in
    let e = ap (λ (a : BlockAnswer). ended a l) (p.1 ∙ ap (λ r. Err r) p.2)
    ∙ early_outcome _ _ _ _ _ l _ (sym found ∙ ap checked c.in_err-mat.was) in
    record { outcome = e; meaning = outcome_means _ _ _ _ _ l _ _ e; same_slices = search rules }

pub edit_tested-answer-requires : goal.edit_tested-answer-requires
edit_tested-answer-requires c =
    let found = c.check_early.ensures.value _ (rw c.edit_entries-entries.ensures at c.lacks_room-short.ensures) in
    let mat = c.in_ok-mat.ensures in
    rw (mat.size, mat.rows) (early_passed _ _ _ _ (sym found ∙ ap checked c.in_ok-mat.was)).room

pub clear_work-requires : goal.clear_work-requires
clear_work-requires c =
    let l = held c.args.work.now c.args.outputs.now in
    let entries = edit_entries c.args.size c.args.rows.now in
    let found = c.check_early.ensures.value _ (rw c.edit_entries-entries.ensures at c.lacks_room-short.ensures) in
    rw c.edit_entries-entries.ensures (kept_room c.args.size entries l c.edit_tested-answer.ensures.same_work
    (early_passed _ _ _ _ (sym found ∙ ap checked c.in_ok-mat.was)).room)

pub returns : goal.returns
returns c =
    let l = held c.args.work.now c.args.outputs.now in
    let entries = edit_entries c.args.size c.args.rows.now in
    let found = c.check_early.ensures.value _ (rw c.edit_entries-entries.ensures at c.lacks_room-short.ensures) in
    let mat = c.in_ok-mat.ensures in
    let tested = c.edit_tested-answer in
    let same = rw (mat.size, mat.rows) at tested.ensures.same_work in
    let gives = rw (mat.size, mat.starts, mat.rows) at tested.ensures.outputs_after in
    let zero = ap held_work (rw c.edit_entries-entries.ensures at c.clear_work.ensures)
    ∙ same_cleared c.args.size entries l.inner (held_work tested.new.work) same in
    let e = tested_exit _ _ _ _ _ l (held_work c.clear_work.new.work) (held_outputs tested.new.outputs) _
    (sym found ∙ ap checked c.in_ok-mat.was) zero gives in
    record { outcome = e.0; meaning = e.1; same_slices = search rules }
