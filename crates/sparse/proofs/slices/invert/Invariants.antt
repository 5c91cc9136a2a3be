-- `invert` meets its contract: after i turns the first i stand at their numbers.
use Rattle.sparse.proofs.Inverses.{Inverting}
use Rattle.sparse.proofs.slices.invert.Given as goal

abbrev pub invariant-loop-i : goal.invariant-loop-i
invariant-loop-i g l = Inverting l.size l.forth l.initial.back l.back l.i
