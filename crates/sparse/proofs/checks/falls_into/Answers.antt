use Rattle.std.proofs.Common.{arith, sym}
use Rattle.sparse.proofs.Rises.{into_first, into_empty, into_other}
use Rattle.sparse.proofs.checks.falls_into.Goals as goal

pub returns-then-lo-eq0 : goal.returns-then-lo-eq0
returns-then-lo-eq0 c = sym (into_first c.args.rows.now c.args.lo c.args.hi c.if-lo-eq0.true)

pub returns-then-hi-lo : goal.returns-then-hi-lo
returns-then-hi-lo c = sym (into_empty c.args.rows.now c.args.lo c.args.hi c.if-hi-lo.true)

pub returns : goal.returns
returns c = sym (into_other c.args.rows.now c.args.lo c.args.hi (omega arith) (omega arith))
