-- `count_repeats` meets its contract. The invariant: the columns before c are counted, and the marks are as they were.
use Rattle.std.proofs.Common.{◌≡◌, get_or}
use Rattle.sparse.specs.Parts.{Counted}
use Rattle.sparse.proofs.checks.count_repeats.Given as goal

abbrev pub invariant-loop-c : goal.invariant-loop-c
invariant-loop-c l =
    let mat = l.fn.mat.mat in
    (l.marks ≡ l.initial.marks) × Counted mat.size mat.starts.now mat.rows.now (get_or mat.starts.now l.c 0) l.again
