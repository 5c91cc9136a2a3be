-- `unmark` meets its contract. The invariant: the rows seen have their marks taken away.
use Rattle.std.proofs.Common.{◌≡◌}
use Rattle.sparse.specs.Parts.{marked}
use Rattle.sparse.proofs.checks.unmark.Given as goal

abbrev pub invariant-loop-row : goal.invariant-loop-row
invariant-loop-row l =
    l.marks ≡ marked l.col 0 l.row-index l.initial.marks
