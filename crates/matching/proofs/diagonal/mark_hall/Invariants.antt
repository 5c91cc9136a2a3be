-- `mark_hall` meets its contract. The invariant: the first c columns are marked or not, the rest is as it was.
use Rattle.matching.proofs.Marking.{Marked}
use Rattle.matching.proofs.diagonal.mark_hall.Given as goal

abbrev pub invariant-loop-c : goal.invariant-loop-c
invariant-loop-c l = Marked l.stamp l.visited l.initial.hall l.hall l.c
