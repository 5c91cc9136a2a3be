use Rattle.std.proofs.Common.{arith, sym}
use Rattle.sparse.proofs.Search.{some_zero, some_next}
use Rattle.sparse.proofs.checks.some_below.Goals as goal

pub loop-i-init : goal.loop-i-init
loop-i-init g c = λ p h. sym (some_zero p)

pub loop-i-preserved : goal.loop-i-preserved
loop-i-preserved g c = λ p h. rw (c.loop-i.invariant p h, h c.loop-i.i _ (omega arith) c.takes-found.ensures) (some_next p c.loop-i.i)
