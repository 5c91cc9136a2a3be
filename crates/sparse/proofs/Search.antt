-- A search that goes through all places, counted up as a loop counts it.
use Rattle.std.proofs.Common.{ℕ, ◌+◌, ◌≡◌, refl, sym, ◌∙◌, Bool, true, false, ◌||◌, add-one}
use Rattle.graph.specs.Counting.{some}

-- nothing is found below 0
pub some_zero : (p : ℕ → Bool) → some p 0 ≡ false
unfolding some
some_zero p = refl

-- one turn of the loop
pub some_more : (p : ℕ → Bool) (k : ℕ) → some p (k + 1) ≡ p k || some p k
unfolding some
some_more p k = rw add-one

-- of two tests either may come first
or_swapped : (a b : Bool) → a || b ≡ b || a
or_swapped true true = refl
or_swapped true false = refl
or_swapped false true = refl
or_swapped false false = refl

-- one turn of a loop that keeps what it found so far in front
pub some_next : (p : ℕ → Bool) (k : ℕ) → some p k || p k ≡ some p (k + 1)
some_next p k = or_swapped (some p k) (p k) ∙ sym (some_more p k)
