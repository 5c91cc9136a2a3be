use Rattle.std.proofs.Common.{sym, ◌∙◌}
use Rattle.sparse.specs.Refusals.{repeated_row}
use Rattle.sparse.specs.declared.refusal.Refusal.TheVariants.{RepeatedRow}
use Rattle.sparse.proofs.Refusals.{refused_none, refused_found, passed_found}
use Rattle.sparse.proofs.checks.check_repeats.Goals as goal

pub returns-then-all_rise-clause-value : goal.returns-then-all_rise-clause-value
unfolding repeated_row
returns-then-all_rise-clause-value c = sym (refused_none RepeatedRow _ _ (c.all_rise.ensures c.if-all_rise.true))

pub returns-then-count_repeats-eq0-clause-value : goal.returns-then-count_repeats-eq0-clause-value
unfolding repeated_row
returns-then-count_repeats-eq0-clause-value c =
    sym (refused_none RepeatedRow _ _ (c.count_repeats.ensures.counted.none c.if-count_repeats-eq0.true))

pub returns-in-Some-clause-value : goal.returns-in-Some-clause-value
unfolding repeated_row
returns-in-Some-clause-value c = sym (refused_found RepeatedRow _ _ _ (sym c.first_repeat.ensures.value ∙ c.in-Some.is))

pub returns-in-None-clause-value : goal.returns-in-None-clause-value
unfolding repeated_row
returns-in-None-clause-value c = sym (passed_found RepeatedRow _ _ (sym c.first_repeat.ensures.value ∙ c.in-None.is))
