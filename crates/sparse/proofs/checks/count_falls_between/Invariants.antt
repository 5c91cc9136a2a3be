-- `count_falls_between` meets its contract. The invariant: falls counts the columns before c.
use Rattle.std.proofs.Common.{◌≡◌}
use Rattle.graph.specs.Counting.{count}
use Rattle.sparse.specs.Parts.{enters_falling}
use Rattle.sparse.proofs.checks.count_falls_between.Given as goal

abbrev pub invariant-loop-c : goal.invariant-loop-c
invariant-loop-c l =
    l.falls ≡ count (enters_falling l.starts l.rows) l.c
