use Rattle.std.proofs.Common.{arith}
use Rattle.sparse.specs.Parts.{enters_falling}
use Rattle.sparse.proofs.Matrix.{column_end}
use Rattle.sparse.proofs.Rises.{count_few, count_byte, byte_few}
use Rattle.sparse.proofs.checks.count_falls_between.Goals as goal

pub falls_into-requires : goal.falls_into-requires
falls_into-requires c = omega (arith, column_end c.args.mat.now.shaped c.loop-c.c (omega arith))

pub overflow_add-falls : goal.overflow_add-falls
overflow_add-falls c =
    let p = enters_falling c.args.mat.now.starts.now c.args.mat.now.rows.now in
    omega (
      arith,
      c.args.mat.now.shaped.small,
      count_few p c.loop-c.c,
      byte_few c.falls_into.result,
      c.from-falls.ensures,
      c.loop-c.invariant,
    )

pub loop-c-preserved : goal.loop-c-preserved
loop-c-preserved c =
    rw (c.from-falls.ensures, c.falls_into.ensures, c.loop-c.invariant)
    (count_byte (enters_falling c.args.mat.now.starts.now c.args.mat.now.rows.now) c.loop-c.c)
