-- `differs` meets its contract. The invariant of both loops: found says whether some place before i differs.
use Rattle.std.proofs.Common.{◌≡◌}
use Rattle.graph.specs.Counting.{some}
use Rattle.replay.specs.Lists.{differs_at}
use Rattle.replay.proofs.lists.differs.Given as goal

abbrev pub invariant-loop-i : goal.invariant-loop-i
invariant-loop-i l = l.found ≡ some (differs_at l.buffer l.list) l.i

abbrev pub invariant-loop-i-2 : goal.invariant-loop-i-2
invariant-loop-i-2 l = l.found ≡ some (differs_at l.buffer l.list) l.i
