-- `mark` meets its contract. The invariant: the rows seen are marked as the definition marks them, and apart.
use Rattle.std.proofs.Common.{◌≡◌}
use Rattle.sparse.specs.Parts.{marked, Apart}
use Rattle.sparse.proofs.checks.mark.Given as goal

abbrev pub invariant-loop-k : goal.invariant-loop-k
invariant-loop-k l =
    (l.marks ≡ marked l.col 1 l.k l.initial.marks) × Apart l.col l.k
