use Rattle.std.proofs.Common.{arith, sym}
use Rattle.sparse.specs.declared.refusal.Refusal.TheVariants.{UnfitRow}
use Rattle.sparse.proofs.Refusals.{refused_at_lem, refused_none}
use Rattle.rematching.specs.Checks.{unfit_row}
use Rattle.rematching.proofs.Replacements.{marking_start, marking_more, marking_few, unfit_test}
use Rattle.rematching.proofs.checks.check_replacement.Goals as goal

pub loop-k-init : goal.loop-k-init
loop-k-init c =
    marking_start _ _ _ c.requires.0

pub overflow_cast-result : goal.overflow_cast-result
overflow_cast-result c = omega (arith, marking_few c.loop-k.invariant (omega arith), c.ranges.size)

pub returns-then-is_unfit-clause-value : goal.returns-then-is_unfit-clause-value
unfolding unfit_row
returns-then-is_unfit-clause-value c =
    let inv = c.loop-k.invariant in
    sym (refused_at_lem UnfitRow _ _ _ c.loop-k-test.true inv.fit (unfit_test inv c.requires.1 c.loop-k-test.true c.if-is_unfit.ensures))

pub loop-k-preserved : goal.loop-k-preserved
loop-k-preserved c =
    let inv = c.loop-k.invariant in
    marking_more inv (unfit_test inv c.requires.1 c.loop-k-test.true c.if-is_unfit.ensures) c.put.ensures

pub returns-clause-value : goal.returns-clause-value
unfolding unfit_row
returns-clause-value c =
    sym (refused_none UnfitRow _ _ (λ j l. c.loop-k.invariant.fit j (omega arith)))
