-- `check_column` meets its contract: the test is the definition's.
use Rattle.rematching.specs.Checks.{column_outside}
use Rattle.rematching.proofs.checks.check_column.Goals as goal

pub returns : goal.returns
unfolding column_outside
returns c = c.when.ensures
