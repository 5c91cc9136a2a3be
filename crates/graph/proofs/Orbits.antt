-- A map that is injective on the numbers below n, and stays there, comes back to where it starts.
use Rattle.std.proofs.Common.{ℕ, zero, suc, ◌<◌, ◌≡◌, sym, arith}
use Rattle.graph.proofs.Counting.{collide}

-- s applied k times
unfoldable pub iterate : (ℕ → ℕ) → ℕ → ℕ → ℕ
iterate s zero c = c
iterate s (suc k) c = s (iterate s k c)

-- s maps the numbers below n to numbers below n, no two to one
pub record Injects (n : ℕ) (s : ℕ → ℕ) : Type 0 where
  pub into : (c : ℕ) → c < n → s c < n
  pub once : (c d : ℕ) → c < n → d < n → s c ≡ s d → c ≡ d

-- the orbit of a number below n stays below n
pub iterate_below : {n : ℕ} {s : ℕ → ℕ} → Injects n s → (k c : ℕ) → c < n → iterate s k c < n
unfolding iterate
iterate_below I zero c l = l
iterate_below {s = s} I (suc k) c l = I.into (iterate s k c) (iterate_below I k c l)

-- two equal places of an orbit, both moved back until the first is the start
cancel : {n : ℕ} {s : ℕ → ℕ} → Injects n s
    → (i j c : ℕ) → c < n → i < j → iterate s i c ≡ iterate s j c → (k : ℕ) × (iterate s (suc k) c ≡ c)
unfolding iterate
cancel I zero zero c l h e = absurd (omega arith)
cancel I zero (suc j) c l h e = (j, sym e)
cancel I (suc i) zero c l h e = absurd (omega arith)
cancel {s = s} I (suc i) (suc j) c l h e =
    cancel I i j c l (omega arith) (I.once (iterate s i c) (iterate s j c) (iterate_below I i c l) (iterate_below I j c l) e)

-- every number below n comes back after one or more steps
pub comes_back : {n : ℕ} {s : ℕ → ℕ} → Injects n s → (c : ℕ) → c < n → (k : ℕ) × (iterate s (suc k) c ≡ c)
comes_back {n} {s} I c l =
    let t = collide (λ i. iterate s i c) n (λ i. iterate_below I i c l) in
    cancel I t.0 t.1 c l t.2 t.3
