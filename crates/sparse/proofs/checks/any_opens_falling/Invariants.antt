-- `any_opens_falling` meets its contract. The invariant: found says whether some column below c opens falling.
use Rattle.std.proofs.Common.{◌≡◌}
use Rattle.graph.specs.Counting.{some}
use Rattle.sparse.specs.Parts.{opens_falling}
use Rattle.sparse.proofs.checks.any_opens_falling.Given as goal

abbrev pub invariant-loop-c : goal.invariant-loop-c
invariant-loop-c l =
    l.found ≡ some (opens_falling l.starts l.rows) l.c
