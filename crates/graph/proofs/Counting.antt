-- Counting below a bound, the pigeonhole principle, and bounded search.
use Rattle.std.proofs.Common.{ℕ, zero, suc, ◌+◌, ◌≤◌, ◌<◌, ◌≡◌, refl, sym, ap, ◌∙◌, subst, ◌⊎◌, inl, inr, ◌≢◌, Bool, true, false, cond}
use Rattle.std.proofs.Common.{not, ◌||◌, ◌&&◌, eq-or-lt_of_le, le_of_suc-le-suc, not-suc-le-zero, arith, eq-eqb, ne_eqb, eqb-true, eqb}
use native.Mathlib.Decide.{ℕ_discrete, dec_lt}
use Rattle.std.proofs.lemmas.Bool.{false_from_ne_true}
use Rattle.graph.specs.Counting.{bit, count, first, some, preimage}
use Rattle.graph.proofs.Bools.{apart}

-- ---- counting

-- p without k
abbrev pub without : (ℕ → Bool) → ℕ → ℕ → Bool
without p k i = not (eqb i k) && p i

-- a number below suc n is n or below n
pub below : {c n : ℕ} → c < suc n → (c ≡ n) ⊎ (c < n)
below h = eq-or-lt_of_le (le_of_suc-le-suc h)

pub without_self : (p : ℕ → Bool) (k : ℕ) → without p k k ≡ false
without_self p k = rw (eq-eqb k k refl)

pub without_other : (p : ℕ → Bool) (k i : ℕ) → i ≢ k → without p k i ≡ p i
without_other p k i h = rw (ne_eqb i k h)

pub count_ext : (p q : ℕ → Bool) (n : ℕ) → ((i : ℕ) → i < n → p i ≡ q i) → count p n ≡ count q n
count_ext p q zero h = refl
count_ext p q (suc n) h = rw (h n (omega arith), count_ext p q n (λ i l. h i (omega arith)))

pub count_minus : (p : ℕ → Bool) (k n : ℕ) → k < n → p k ≡ true → count p n ≡ suc (count (without p k) n)
count_minus p k zero l e = absurd (not-suc-le-zero l)
count_minus p k (suc n) l e = go (below l) (λ h. count_minus p k n h e)
  where
    go : (k ≡ n) ⊎ (k < n) → (k < n → count p n ≡ suc (count (without p k) n))
        → bit (p n) + count p n ≡ suc (bit (without p k n) + count (without p k) n)
    go (inl s) ih =
        let same : count (without p k) n ≡ count p n = count_ext (without p k) p n (λ i j. without_other p k i (omega arith)) in
        let one : without p k n ≡ false = rw (← s) (without_self p k) in
        let en : p n ≡ true = rw (← s) e in
        rw (one, same, en) (omega arith)
    go (inr s) ih =
        rw (without_other p k n (omega arith)) (omega (arith, ih s))

-- pigeonhole: each member of p below n holds some member of q below m, and no member of q is held twice
module _ (R : ℕ → ℕ → Type 0) (once : (c d r : ℕ) → R c r → R d r → c ≡ d) (m : ℕ) where
  abbrev Holds : (ℕ → Bool) → ℕ → (ℕ → Bool) → Type 0
  Holds p n q = (c : ℕ) → c < n → p c ≡ true → (r : ℕ) × (r < m) × (q r ≡ true) × R c r

  pub pigeon : (p : ℕ → Bool) (n : ℕ) (q : ℕ → Bool) → Holds p n q → count p n ≤ count q m
  pigeon p zero q f = omega arith
  pigeon p (suc n) q f = go (λ q' f'. pigeon p n q' f') (p n) refl
    where
      go : ((q' : ℕ → Bool) → Holds p n q' → count p n ≤ count q' m) → (b : Bool) → p n ≡ b → bit (p n) + count p n ≤ count q m
      go ih false e = rw e (omega (arith, ih q (λ c l. f c (omega arith))))
      go ih true e =
          let t = f n (omega arith) e in
          let r = t.0 in
          let less : count p n ≤ count (without q r) m = ih (without q r) (λ c l h.
          let u = f c (omega arith) h in
          let ne : u.0 ≢ r = λ s. let z : c ≡ n = once c n r (subst (λ x. R c x) s u.3) t.3 in omega arith in
          (u.0, u.1, without_other q r u.0 ne ∙ u.2, u.3)) in
          rw e (omega (arith, count_minus q r m t.1 t.2))

pub count_all : (p : ℕ → Bool) (n : ℕ) → ((i : ℕ) → i < n → p i ≡ true) → count p n ≡ n
count_all p zero h = refl
count_all p (suc n) h = rw (h n (omega arith)) (omega (arith, count_all p n (λ i l. h i (omega arith))))

-- a bounded search
pub find : (P : ℕ → Type 0) → ((i : ℕ) → Dec (P i)) → (n : ℕ) → ((i : ℕ) × (i < n) × P i) ⊎ ((i : ℕ) → i < n → ¬ P i)
find P dec zero = inr (λ i l. absurd (not-suc-le-zero l))
find P dec (suc n) = go (dec n) (find P dec n)
  where
    go : Dec (P n) → ((i : ℕ) × (i < n) × P i) ⊎ ((i : ℕ) → i < n → ¬ P i) → ((i : ℕ) × (i < suc n) × P i) ⊎ ((i : ℕ) → i < suc n → ¬ P i)
    go (yes p) s = inl (n, omega arith, p)
    go (no np) (inl s) = inl (s.0, omega (arith, s.1), s.2)
    go (no np) (inr s) = inr (λ i l p. step i p (below l))
      where
        step : (i : ℕ) → P i → (i ≡ n) ⊎ (i < n) → ⊥
        step i p (inl e) = np (subst P e p)
        step i p (inr k) = s i k p

pub tri : (a b : ℕ) → (a < b) ⊎ ((a ≡ b) ⊎ (b < a))
tri a b = go (dec_lt a b) (dec_lt b a)
  where
    go : Dec (a < b) → Dec (b < a) → (a < b) ⊎ ((a ≡ b) ⊎ (b < a))
    go (yes h) d = inl h
    go (no h) (yes k) = inr (inr k)
    go (no h) (no k) = inr (inl (omega arith))

-- injective below n, into below n, then onto
pub onto : (f : ℕ → ℕ) (n : ℕ) → ((i : ℕ) → i < n → f i < n) → ((i j : ℕ) → i < n → j < n → f i ≡ f j → i ≡ j)
    → (c : ℕ) → c < n → (i : ℕ) × (i < n) × (f i ≡ c)
onto f n into inj c l = go (find (λ i. f i ≡ c) (λ i. ℕ_discrete (f i) c) n)
  where
    all : ℕ → Bool
    all i = true

    go : ((i : ℕ) × (i < n) × (f i ≡ c)) ⊎ ((i : ℕ) → i < n → ¬ (f i ≡ c)) → (i : ℕ) × (i < n) × (f i ≡ c)
    go (inl s) = s
    go (inr none) =
        let few : count all n ≤ count (without all c) n =
        pigeon (λ i r. (i < n) × (f i ≡ r)) (λ i j r a b. inj i j a.0 b.0 (a.1 ∙ sym b.1)) n all n (without all c)
        (λ i k e. (f i, into i k, without_other all c (f i) (none i k), (k, refl))) in
        let less : count all n ≡ suc (count (without all c) n) = count_minus all c n l refl in
        absurd (omega arith)

-- a sequence that stays below n meets itself: with n + 1 places, two are equal
pub collide : (h : ℕ → ℕ) (n : ℕ) → ((i : ℕ) → h i < n) → (i : ℕ) × (j : ℕ) × (i < j) × (h i ≡ h j)
collide h n into = go (find (λ j. (i : ℕ) × (i < j) × (h i ≡ h j)) dec (suc n))
  where
    dec : (j : ℕ) → Dec ((i : ℕ) × (i < j) × (h i ≡ h j))
    dec j = pick (find (λ i. h i ≡ h j) (λ i. ℕ_discrete (h i) (h j)) j)
      where
        pick : ((i : ℕ) × (i < j) × (h i ≡ h j)) ⊎ ((i : ℕ) → i < j → ¬ (h i ≡ h j)) → Dec ((i : ℕ) × (i < j) × (h i ≡ h j))
        pick (inl s) = yes s
        pick (inr f) = no (λ s. f s.0 s.1 s.2)

    all : ℕ → Bool
    all i = true

    go : ((j : ℕ) × (j < suc n) × ((i : ℕ) × (i < j) × (h i ≡ h j))) ⊎ ((j : ℕ) → j < suc n → ¬ ((i : ℕ) × (i < j) × (h i ≡ h j)))
        → (i : ℕ) × (j : ℕ) × (i < j) × (h i ≡ h j)
    go (inl (j, l, s)) = (s.0, j, s.1, s.2)
    go (inr none) =
        let apart : (c d : ℕ) → c < suc n → d < suc n → h c ≡ h d → (c < d) ⊎ ((c ≡ d) ⊎ (d < c)) → c ≡ d = λ c d k l e.
        elim [ inl x ↦ absurd (none d l (c, x, e)) | inr (inl x) ↦ x | inr (inr x) ↦ absurd (none c k (d, x, sym e)) ] in
        let R : ℕ → ℕ → Type 0 = λ i r. (i < suc n) × (h i ≡ r) in
        let once : (c d r : ℕ) → R c r → R d r → c ≡ d = λ c d r a b. apart c d a.0 b.0 (a.1 ∙ sym b.1) (tri c d) in
        let few : count all (suc n) ≤ count all n = pigeon R once n all (suc n) all (λ i k e. (h i, into i, refl, (k, refl))) in
        absurd (omega (arith, count_all all n (λ i l. refl)))

-- ---- the smallest number of a kind, and whether there is one

pub first_at : (p : ℕ → Bool) (n i : ℕ) → i < n → ((k : ℕ) → k < i → p k ≡ false) → p i ≡ true → first p n ≡ i
unfolding first
first_at p zero i l h e = absurd (not-suc-le-zero l)
first_at p (suc n) zero l h e = rw e
first_at p (suc n) (suc i) l h e =
    rw (h 0 (omega arith)) (ap suc (first_at (λ k. p (suc k)) n i (le_of_suc-le-suc l) (λ k m. h (suc k) (omega arith)) e))

pub first_none : (p : ℕ → Bool) (n : ℕ) → ((k : ℕ) → k < n → p k ≡ false) → first p n ≡ n
unfolding first
first_none p zero h = refl
first_none p (suc n) h = rw (h 0 (omega arith)) (ap suc (first_none (λ k. p (suc k)) n (λ k m. h (suc k) (omega arith))))

-- nothing that p takes stands before the first
pub first_le : (p : ℕ → Bool) (n k : ℕ) → k < n → p k ≡ true → first p n ≤ k
unfolding first
first_le p zero k l e = absurd (not-suc-le-zero l)
first_le p (suc n) zero l e = rw e (omega arith)
first_le p (suc n) (suc k) l e = go (p 0) (first_le (λ k. p (suc k)) n k (le_of_suc-le-suc l) e)
  where
    go : {x : ℕ} (b : Bool) → x ≤ k → cond b 0 (suc x) ≤ suc k
    go true h = omega arith
    go false h = omega arith

-- where p takes a number below n, the first is below n and p takes it
pub some_first : (p : ℕ → Bool) (n k : ℕ) → k < n → p k ≡ true → (first p n < n) × (p (first p n) ≡ true)
unfolding first
some_first p zero k l e = absurd (not-suc-le-zero l)
some_first p (suc n) zero l e = rw e (omega arith, e)
some_first p (suc n) (suc k) l e = go (p 0) refl (some_first (λ i. p (suc i)) n k (le_of_suc-le-suc l) e)
  where
    go : (b : Bool) → p 0 ≡ b → (first (λ i. p (suc i)) n < n) × (p (suc (first (λ i. p (suc i)) n)) ≡ true)
        → (cond b 0 (suc (first (λ i. p (suc i)) n)) < suc n) × (p (cond b 0 (suc (first (λ i. p (suc i)) n))) ≡ true)
    go true h t = (omega arith, h)
    go false h t = (omega (arith, t.0), t.1)

pub some_at : (p : ℕ → Bool) (n k : ℕ) → k < n → p k ≡ true → some p n ≡ true
unfolding some
some_at p zero k l e = absurd (not-suc-le-zero l)
some_at p (suc n) k l e = go (λ m. some_at p n k m e) (p n) refl
  where
    go : (k < n → some p n ≡ true) → (b : Bool) → p n ≡ b → b || some p n ≡ true
    go ih true h = refl
    go ih false h = ih (lower (λ s. apart (p n) (rw s at e) h))
      where
        lower : (k ≡ n → ⊥) → k < n
        lower ne = omega arith

pub some_is : (p : ℕ → Bool) (n : ℕ) → some p n ≡ true → (k : ℕ) × (k < n) × (p k ≡ true)
unfolding some
some_is p zero e = absurd (apart false e refl)
some_is p (suc n) e = go (some_is p n) (p n) refl e
  where
    go : (some p n ≡ true → (k : ℕ) × (k < n) × (p k ≡ true)) → (b : Bool) → p n ≡ b → b || some p n ≡ true
        → (k : ℕ) × (k < suc n) × (p k ≡ true)
    go ih true h t = (n, omega arith, h)
    go ih false h t = let s = ih t in (s.0, omega (arith, s.1), s.2)

pub some_none : (p : ℕ → Bool) (n : ℕ) → ((k : ℕ) → k < n → p k ≡ false) → some p n ≡ false
some_none p n h = false_from_ne_true (some p n) (λ t. let s = some_is p n t in apart (p s.0) s.2 (h s.0 s.1))

pub some_false : (p : ℕ → Bool) (n k : ℕ) → some p n ≡ false → k < n → p k ≡ false
some_false p n k h l = false_from_ne_true (p k) (λ t. apart (some p n) (some_at p n k l t) h)

-- what is found is below n and goes to c
pub preimage_ok : (f : ℕ → ℕ) (n c i : ℕ) → i < n → f i ≡ c → (preimage f n c < n) × (f (preimage f n c) ≡ c)
preimage_ok f n c i l e = go (some_first (λ k. eqb (f k) c) n i l (eq-eqb (f i) c e))
  where
    go : (preimage f n c < n) × (eqb (f (preimage f n c)) c ≡ true) → (preimage f n c < n) × (f (preimage f n c) ≡ c)
    go t = (t.0, eqb-true _ _ t.1)
