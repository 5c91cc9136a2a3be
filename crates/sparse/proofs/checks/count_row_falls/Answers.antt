use Rattle.std.proofs.Common.{arith, ◌+◌}
use Rattle.sparse.specs.Parts.{row_falls_at}
use Rattle.sparse.proofs.Rises.{count_next, count_few}
use Rattle.sparse.proofs.checks.count_row_falls.Goals as goal

pub overflow_add-falls : goal.overflow_add-falls
overflow_add-falls c =
    omega (arith, count_next (row_falls_at c.args.rows.now) c.loop-k.k, count_few (row_falls_at c.args.rows.now) (c.loop-k.k + 1))
