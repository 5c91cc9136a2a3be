-- `check_edit` meets its contract: each check equals its row of the table, once those before it pass.
use Rattle.std.proofs.Common.{sym, ◌∙◌}
use Rattle.std.proofs.lemmas.Result.{err_from_is_err_and}
use Rattle.sparse.proofs.Refusals.{first_refused, first_passed, first_last}
use Rattle.rematching.specs.Checks.{late}
use Rattle.rematching.proofs.Late.{column_below}
use Rattle.rematching.proofs.Replacements.{unfit_few}
use Rattle.rematching.proofs.checks.check_edit.Goals as goal

pub returns-in_err-check_repeats-clause-value : goal.returns-in_err-check_repeats-clause-value
unfolding late
returns-in_err-check_repeats-clause-value c =
    let p = err_from_is_err_and c.from_residual.result c.from_residual.ensures.1 in
    rw (p.1, p.2)
    (sym (first_refused _ _ _ (sym c.check_repeats.ensures.value ∙ c.in_err-check_repeats.was)))

pub returns-in_err-check_column-clause-value : goal.returns-in_err-check_column-clause-value
unfolding late
returns-in_err-check_column-clause-value c =
    let p = err_from_is_err_and c.from_residual-in_err-check_column.result c.from_residual-in_err-check_column.ensures.1 in
    rw (p.1, p.2)
    (sym (first_passed _ _ (sym c.check_repeats.ensures.value ∙ c.in_ok-check_repeats.was)
    ∙ first_refused _ _ _ (sym c.check_column.ensures ∙ c.in_err-check_column.was)))

pub returns-in_err-check_replacement-clause-value : goal.returns-in_err-check_replacement-clause-value
unfolding late
returns-in_err-check_replacement-clause-value c =
    let p = err_from_is_err_and c.from_residual-in_err-check_replacement.result c.from_residual-in_err-check_replacement.ensures.1 in
    rw (p.1, p.2)
    (sym (first_passed _ _ (sym c.check_repeats.ensures.value ∙ c.in_ok-check_repeats.was)
    ∙ first_passed _ _ (sym c.check_column.ensures ∙ c.in_ok-check_column.was)
    ∙ first_refused _ _ _ (sym c.check_replacement.ensures.value ∙ c.in_err-check_replacement.was)))

pub returns-in_err-check_matching-clause-value : goal.returns-in_err-check_matching-clause-value
unfolding late
returns-in_err-check_matching-clause-value c =
    let p = err_from_is_err_and c.from_residual-in_err-check_matching.result c.from_residual-in_err-check_matching.ensures.1 in
    rw (p.1, p.2)
    (sym (first_passed _ _ (sym c.check_repeats.ensures.value ∙ c.in_ok-check_repeats.was)
    ∙ first_passed _ _ (sym c.check_column.ensures ∙ c.in_ok-check_column.was)
    ∙ first_passed _ _ (sym c.check_replacement.ensures.value ∙ c.in_ok-check_replacement.was)
    ∙ first_refused _ _ _ (sym c.check_matching.ensures.value ∙ c.in_err-check_matching.was)))

pub check_growth-requires : goal.check_growth-requires
check_growth-requires c = (
  column_below _ _ (sym c.check_column.ensures ∙ c.in_ok-check_column.was),
  unfit_few _ _ (sym c.check_replacement.ensures.value ∙ c.in_ok-check_replacement.was),
)

pub returns-clause-value : goal.returns-clause-value
unfolding late
returns-clause-value c =
    sym (first_passed _ _ (sym c.check_repeats.ensures.value ∙ c.in_ok-check_repeats.was)
    ∙ first_passed _ _ (sym c.check_column.ensures ∙ c.in_ok-check_column.was)
    ∙ first_passed _ _ (sym c.check_replacement.ensures.value ∙ c.in_ok-check_replacement.was)
    ∙ first_passed _ _ (sym c.check_matching.ensures.value ∙ c.in_ok-check_matching.was)
    ∙ first_last _ ∙ sym c.check_growth.ensures)
