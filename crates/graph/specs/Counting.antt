-- Counting the numbers below a bound, and searching them.
use Rattle.std.specs.Prelude.{ℕ, zero, suc, ◌+◌, Bool, true, false, cond, ◌||◌, eqb}

-- 1 for true and 0 for false
abbrev pub bit : Bool → ℕ
bit true = 1
bit false = 0

-- how many numbers below n p takes
abbrev pub count : (ℕ → Bool) → ℕ → ℕ
count p zero = 0
count p (suc n) = bit (p n) + count p n

-- the smallest number below n that p takes; n where there is none
unfoldable pub first : (ℕ → Bool) → ℕ → ℕ
first p zero = zero
first p (suc n) = cond (p 0) 0 (suc (first (λ k. p (suc k)) n))

-- whether p takes some number below n
unfoldable pub some : (ℕ → Bool) → ℕ → Bool
some p zero = false
some p (suc n) = p n || some p n

-- the smallest number below n that f takes to c; n where there is none
abbrev pub preimage : (ℕ → ℕ) → ℕ → ℕ → ℕ
preimage f n c = first (λ i. eqb (f i) c) n
