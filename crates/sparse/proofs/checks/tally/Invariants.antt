-- `tally` meets its contract. The invariant: the rows seen are marked as the definition marks them, and counted.
use Rattle.std.proofs.Common.{◌≡◌}
use Rattle.sparse.specs.Parts.{marked, Tallied}
use Rattle.sparse.proofs.checks.tally.Given as goal

abbrev pub invariant-loop-row : goal.invariant-loop-row
invariant-loop-row l =
    (l.marks ≡ marked l.col 1 l.row-index l.initial.marks) × Tallied l.col l.row-index l.seen
