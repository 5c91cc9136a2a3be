use Rattle.sparse.specs.Refusals.{too_large}
use Rattle.sparse.proofs.checks.check_size.Goals as goal

pub returns : goal.returns
unfolding too_large
returns c = c.when.ensures
