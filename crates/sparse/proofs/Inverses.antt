-- The loop that writes the place of each column: after i turns the first i columns have theirs.
use Rattle.std.proofs.Common.{ℕ, ◌+◌, ◌<◌, ◌≤◌, ◌≡◌, refl, sym, ap, ◌∙◌, List, arith, length, get_or, set, length-set, ext_get_or}
use Rattle.std.proofs.Common.{get_or-set_same, get_or-set_other}
use native.Mathlib.Decide.{ℕ_discrete, dec_lt}
use Rattle.graph.specs.Permutations.{Permutes, inverse}
use Rattle.graph.proofs.Permutations.{length-inverse, inverse_only}
use Rattle.sparse.specs.Buffers.{filled}
use Rattle.sparse.proofs.Buffers.{length-filled, filled_at, filled_past}

-- q, which was q₀, holds the places of the first i columns of p, and nothing of it beyond n has changed
pub record Inverting (n : ℕ) (p q₀ q : List ℕ) (i : ℕ) : Type 0 where
  pub to : i ≤ n
  pub same : length q ≡ length q₀
  pub placed : (j : ℕ) → j < i → get_or q (get_or p j 0) 0 ≡ j
  pub beyond : (c : ℕ) → n ≤ c → get_or q c 0 ≡ get_or q₀ c 0

pub invert_start : (n : ℕ) (p q : List ℕ) → Inverting n p q q 0
invert_start n p q = record { to = omega arith; same = refl; placed = λ j l. absurd (omega arith); beyond = λ c l. refl }

pub invert_more : {n : ℕ} {p q₀ q q' : List ℕ} {i c : ℕ} → Permutes n p → Inverting n p q₀ q i → i < n → n ≤ length q₀
    → c ≡ get_or p i 0 → q' ≡ set q c i → Inverting n p q₀ q' (i + 1)
invert_more {n} {p} {q₀} {q} {q'} {i} {c} P I l room e f = record {
  to = omega arith;
  same = ap length f ∙ length-set q c i ∙ I.same;
  placed = λ j m. placed j m (ℕ_discrete j i);
  beyond = λ d m. rw (f, e) (get_or-set_other q (get_or p i 0) d i 0 (λ t. omega (arith, P.below i l)) ∙ I.beyond d m);
}
  where
    placed : (j : ℕ) → j < i + 1 → Dec (j ≡ i) → get_or q' (get_or p j 0) 0 ≡ j
    placed j m (yes s) = rw (f, e, s) (get_or-set_same q (get_or p i 0) i 0 (omega (arith, P.below i l, I.same)))
    placed j m (no s) =
        let apart : get_or p j 0 ≡ get_or p i 0 → ⊥ = λ t. s (P.once j i (omega arith) l t) in
        rw (f, e) (get_or-set_other q (get_or p i 0) (get_or p j 0) i 0 apart ∙ I.placed j (omega arith))

pub invert_end : {n : ℕ} {p q₀ q : List ℕ} {i : ℕ} → Permutes n p → Inverting n p q₀ q i → n ≤ i → n ≤ length q₀
    → q ≡ filled (inverse n p) q₀
invert_end {n} {p} {q₀} {q} {i} P I l room =
    ext_get_or 0 q _ (I.same ∙ sym (length-filled (inverse n p) q₀ (omega (arith, length-inverse n p)))) (λ c m. at c (dec_lt c n))
  where
    at : (c : ℕ) → Dec (c < n) → get_or q c 0 ≡ get_or (filled (inverse n p) q₀) c 0
    at c (yes m) =
        inverse_only q P (λ j k. I.placed j (omega arith)) c m
        ∙ sym (filled_at (inverse n p) q₀ c (omega (arith, length-inverse n p)))
    at c (no m) = I.beyond c (omega arith) ∙ sym (filled_past (inverse n p) q₀ c (omega (arith, length-inverse n p)))
