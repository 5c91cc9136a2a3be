-- `replay_all` is safe and ends. Each case takes a number or more, so the cases are no more than the numbers that are read.
use Rattle.std.proofs.Common.{◌+◌, ◌≤◌, length}
use Rattle.replay.proofs.replay_all.Given as goal

abbrev pub invariant-loop-code : goal.invariant-loop-code
invariant-loop-code g l = (l.cases + length l.numbers.rest.now ≤ length l.initial.numbers.rest.now) × (l.agreed ≤ l.cases)

abbrev pub decreases-loop-code : goal.decreases-loop-code
decreases-loop-code g l = length l.numbers.rest.now
