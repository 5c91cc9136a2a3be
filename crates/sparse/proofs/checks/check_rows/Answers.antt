use Rattle.std.proofs.Common.{rules}
use Rattle.sparse.specs.Refusals.{row_outside, outside_at}
use Rattle.sparse.specs.declared.refusal.Refusal.TheVariants.{RowOutside}
use Rattle.sparse.proofs.checks.check_rows.Goals as goal

pub returns : goal.returns
unfolding row_outside
returns c =
    c.refused_below.ensures (outside_at c.args.size c.args.rows.now) RowOutside (λ i b l e. search rules) (λ i r l e. search rules)
