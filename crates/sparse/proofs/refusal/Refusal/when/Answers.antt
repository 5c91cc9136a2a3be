use Rattle.sparse.specs.Refusals.{refused_if}
use Rattle.sparse.proofs.refusal.Refusal.when.Goals as goal

pub returns-then-test : goal.returns-then-test
unfolding refused_if
returns-then-test c = rw c.if-test.true

pub returns-else-test : goal.returns-else-test
unfolding refused_if
returns-else-test c = rw c.if-test.false
