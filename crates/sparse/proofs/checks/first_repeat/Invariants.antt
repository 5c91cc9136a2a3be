-- `first_repeat` meets its contract. The invariant: no place before column c repeats a row, and the marks are as they were.
use Rattle.std.proofs.Common.{ℕ, ◌≡◌, ◌<◌, false, get_or}
use Rattle.sparse.specs.Refusals.{repeats_at}
use Rattle.sparse.proofs.checks.first_repeat.Given as goal

abbrev pub invariant-loop-c : goal.invariant-loop-c
invariant-loop-c l =
    let mat = l.fn.mat.mat in
    (l.marks ≡ l.initial.marks)
    × ((k : ℕ) → k < get_or mat.starts.now l.c 0 → repeats_at mat.size mat.starts.now mat.rows.now k ≡ false)
