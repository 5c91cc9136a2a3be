use Rattle.std.proofs.Common.{rules}
use Rattle.sparse.specs.Refusals.{empty_column, empty_at, as_column}
use Rattle.sparse.specs.declared.refusal.Refusal.TheVariants.{EmptyColumn}
use Rattle.sparse.proofs.checks.check_columns.Goals as goal

pub returns : goal.returns
unfolding empty_column
returns c =
    c.refused_below.ensures (empty_at c.args.starts.now) (λ i. EmptyColumn (as_column i))
    (λ i b l e. search rules) (λ i r l e. search rules)
