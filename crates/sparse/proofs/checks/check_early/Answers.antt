use Rattle.std.proofs.Common.{sym, ap, ◌∙◌}
use Rattle.std.proofs.lemmas.Result.{err_from_is_err_and}
use Rattle.sparse.specs.Refusals.{early, no_room, refused_if}
use Rattle.sparse.specs.declared.refusal.Refusal.TheVariants.{NoRoom}
use Rattle.sparse.proofs.Refusals.{first_refused, first_passed, first_last}
use Rattle.sparse.proofs.Matrix.{entries_few, shaped, rows_below}
use Rattle.sparse.proofs.checks.check_early.Goals as goal

pub returns-in_err-check_size-clause-value : goal.returns-in_err-check_size-clause-value
unfolding early
returns-in_err-check_size-clause-value c =
    let p = err_from_is_err_and c.from_residual.result c.from_residual.ensures.1 in
    λ b e. rw (p.1, p.2) (sym (first_refused _ _ _ (sym c.check_size.ensures ∙ c.in_err-check_size.was)))

pub check_shape-requires : goal.check_shape-requires
check_shape-requires c =
    entries_few _ _ (sym c.check_size.ensures ∙ c.in_ok-check_size.was)

pub returns-in_err-check_shape-clause-value : goal.returns-in_err-check_shape-clause-value
unfolding early
returns-in_err-check_shape-clause-value c =
    let p = err_from_is_err_and c.from_residual-in_err-check_shape.result c.from_residual-in_err-check_shape.ensures.1 in
    λ b e. rw (p.1, p.2)
    (sym (first_passed _ _ (sym c.check_size.ensures ∙ c.in_ok-check_size.was)
    ∙ first_refused _ _ _ (sym c.check_shape.ensures ∙ c.in_err-check_shape.was)))

pub returns-in_err-when-clause-value : goal.returns-in_err-when-clause-value
unfolding early no_room
returns-in_err-when-clause-value c =
    let p = err_from_is_err_and c.from_residual-in_err-when.result c.from_residual-in_err-when.ensures.1 in
    λ b e. rw (p.1, p.2)
    (sym (first_passed _ _ (sym c.check_size.ensures ∙ c.in_ok-check_size.was)
    ∙ first_passed _ _ (sym c.check_shape.ensures ∙ c.in_ok-check_shape.was)
    ∙ first_refused _ _ _ (ap (refused_if NoRoom) (sym e) ∙ sym c.when.ensures ∙ c.in_err-when.was)))

pub check_rows-requires : goal.check_rows-requires
check_rows-requires c = entries_few _ _ (sym c.check_size.ensures ∙ c.in_ok-check_size.was)

pub returns-in_err-check_rows-clause-value : goal.returns-in_err-check_rows-clause-value
unfolding early no_room
returns-in_err-check_rows-clause-value c =
    let p = err_from_is_err_and c.from_residual-in_err-check_rows.result c.from_residual-in_err-check_rows.ensures.1 in
    λ b e. rw (p.1, p.2)
    (sym (first_passed _ _ (sym c.check_size.ensures ∙ c.in_ok-check_size.was)
    ∙ first_passed _ _ (sym c.check_shape.ensures ∙ c.in_ok-check_shape.was)
    ∙ first_passed _ _ (ap (refused_if NoRoom) (sym e) ∙ sym c.when.ensures ∙ c.in_ok-when.was)
    ∙ first_refused _ _ _ (sym c.check_rows.ensures ∙ c.in_err-check_rows.was)))

pub invariant_of-mat : goal.invariant_of-mat
invariant_of-mat c = record {
  shaped = shaped _ _ _ (sym c.check_size.ensures ∙ c.in_ok-check_size.was) (sym c.check_shape.ensures ∙ c.in_ok-check_shape.was);
}

pub invariant_of-result : goal.invariant_of-result
invariant_of-result c = record { below = rows_below _ _ (sym c.check_rows.ensures ∙ c.in_ok-check_rows.was) }

pub returns-clause-value : goal.returns-clause-value
unfolding early no_room
returns-clause-value c =
    λ b e. sym (first_passed _ _ (sym c.check_size.ensures ∙ c.in_ok-check_size.was)
    ∙ first_passed _ _ (sym c.check_shape.ensures ∙ c.in_ok-check_shape.was)
    ∙ first_passed _ _ (ap (refused_if NoRoom) (sym e) ∙ sym c.when.ensures ∙ c.in_ok-when.was)
    ∙ first_last _ ∙ sym c.check_rows.ensures ∙ c.in_ok-check_rows.was)
