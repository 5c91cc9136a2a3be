use Rattle.std.proofs.Common.{arith, sym}
use Rattle.sparse.specs.Parts.{opens_falling}
use Rattle.sparse.proofs.Matrix.{column_end}
use Rattle.sparse.proofs.Search.{some_zero, some_next}
use Rattle.sparse.proofs.checks.any_opens_falling.Goals as goal

pub loop-c-init : goal.loop-c-init
loop-c-init c = sym (some_zero (opens_falling c.args.mat.now.starts.now c.args.mat.now.rows.now))

pub overflow_add-starts : goal.overflow_add-starts
overflow_add-starts c =
    let shaped = c.args.mat.now.shaped in
    let i = c.loop-c.c in
    omega (arith, shaped.rising i (omega arith), column_end shaped i (omega arith), shaped.few)

pub falls_into-found-requires : goal.falls_into-found-requires
falls_into-found-requires c = omega (arith, column_end c.args.mat.now.shaped c.loop-c.c (omega arith))

pub loop-c-preserved : goal.loop-c-preserved
loop-c-preserved c =
    rw (c.falls_into-found.ensures, c.loop-c.invariant)
    (some_next (opens_falling c.args.mat.now.starts.now c.args.mat.now.rows.now) c.loop-c.c)
