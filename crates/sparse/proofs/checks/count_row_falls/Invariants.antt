-- `count_row_falls` meets its contract. The invariant: falls counts the places before k.
use Rattle.std.proofs.Common.{◌≡◌}
use Rattle.graph.specs.Counting.{count}
use Rattle.sparse.specs.Parts.{row_falls_at}
use Rattle.sparse.proofs.checks.count_row_falls.Given as goal

abbrev pub invariant-loop-k : goal.invariant-loop-k
invariant-loop-k l =
    l.falls ≡ count (row_falls_at l.rows) l.k
