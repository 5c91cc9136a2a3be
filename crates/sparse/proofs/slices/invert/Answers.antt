use Rattle.std.proofs.Common.{arith}
use Rattle.sparse.proofs.Inverses.{invert_end}
use Rattle.sparse.proofs.slices.invert.Goals as goal

pub returns : goal.returns
returns g c = invert_end c.requires.permutes c.loop-i.invariant (omega arith) (omega arith)
