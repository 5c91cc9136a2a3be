-- `first_below` meets its contract. The invariant: the test takes no number below i.
use Rattle.std.proofs.Common.{ℕ, Bool, false, ◌≡◌, ◌<◌}
use Rattle.sparse.specs.Parts.{GivesBelow}
use Rattle.sparse.proofs.checks.first_below.Given as goal

abbrev pub invariant-loop-i : goal.invariant-loop-i
invariant-loop-i g l =
    (p : ℕ → Bool) → GivesBelow l.n (goal.F-post g l.takes) p → (k : ℕ) → k < l.i → p k ≡ false
