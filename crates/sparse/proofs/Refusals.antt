-- Laws of a refusal, of its number and place, and of the first refusal of a list of checks.
use Rattle.std.proofs.Common.{ℕ, ◌<◌, ◌≡◌, refl, sym, ap, List, [], ◌∷◌, ◌++◌, Bool, true, false, cond, ◌⊎◌, inl, inr, arith, lt-ltb}
use Rattle.std.proofs.Common.{le-ltb, ltb, Ok, Err, Some, None}
use Rattle.graph.specs.Counting.{first, some}
use Rattle.graph.proofs.Bools.{is_false}
use Rattle.graph.proofs.Counting.{first_at, first_none, first_le, some_first, some_is, some_false}
use Rattle.sparse.specs.Refusals.{Checked, passed, number, refused_if, refused_at, first_refusal}
use Rattle.sparse.specs.Parts.{found}
use Rattle.sparse.specs.declared.refusal.Refusal.{Refusal}

-- ---- the first refusal of a list

-- a refusal at the front is the first
pub first_refused : (x : Checked) (r : Refusal) (xs : List Checked) → x ≡ Err r → first_refusal (x ∷ xs) ≡ Err r
unfolding first_refusal
first_refused x r xs e = rw e

-- a check at the front that passes leaves it to the rest
pub first_passed : (x : Checked) (xs : List Checked) → x ≡ passed → first_refusal (x ∷ xs) ≡ first_refusal xs
unfolding first_refusal
first_passed x xs e = rw e

-- of one check alone it is that check
pub first_last : (x : Checked) → first_refusal (x ∷ []) ≡ x
unfolding first_refusal
first_last (Ok u) = refl
first_last (Err r) = refl

-- of two lists it is that of the first list, and else that of the second
pub first-append : (xs ys : List Checked) → first_refusal (xs ++ ys) ≡ first_refusal (first_refusal xs ∷ ys)
unfolding first_refusal
first-append [] ys = refl
first-append (Ok u ∷ xs) ys = first-append xs ys
first-append (Err r ∷ xs) ys = refl

-- where none refuses, the one at the front passes
pub head_passed : (x : Checked) (xs : List Checked) → first_refusal (x ∷ xs) ≡ passed → x ≡ passed
unfolding first_refusal
head_passed (Ok u) xs e = refl
head_passed (Err r) xs e = e

-- where none refuses, none of the rest does
pub tail_passed : (x : Checked) (xs : List Checked) → first_refusal (x ∷ xs) ≡ passed → first_refusal xs ≡ passed
unfolding first_refusal
tail_passed (Ok u) xs e = e
tail_passed (Err r) xs e = let z : ◌≡◌ {A = ℕ} 0 1 = cc in absurd (omega arith)

-- the first refusal comes from the front or from the rest
pub which : (x : Checked) (xs : List Checked) (r : Refusal) → first_refusal (x ∷ xs) ≡ Err r
    → (x ≡ Err r) ⊎ (first_refusal xs ≡ Err r)
unfolding first_refusal
which (Ok u) xs r e = inr e
which (Err s) xs r e = inl e

-- ---- a refusal of the whole

-- a test that passes is false
pub if_passed : (r : Refusal) (b : Bool) → refused_if r b ≡ passed → b ≡ false
unfolding refused_if
if_passed r true e = let f : ◌≡◌ {A = Checked} (Err r) passed = e in let z : ◌≡◌ {A = Bool} true false = cc in z
if_passed r false e = refl

-- ---- a refusal at the smallest place of a kind

-- refused at place i, where p takes i and nothing before it
pub refused_at_lem : (at : ℕ → Refusal) (p : ℕ → Bool) (n i : ℕ) → i < n → ((k : ℕ) → k < i → p k ≡ false) → p i ≡ true
    → refused_at at p n ≡ Err (at i)
unfolding refused_at
refused_at_lem at p n i l h e = rw (first_at p n i l h e, lt-ltb i n l)

-- passed, where p takes nothing below n
pub refused_none : (at : ℕ → Refusal) (p : ℕ → Bool) (n : ℕ) → ((k : ℕ) → k < n → p k ≡ false) → refused_at at p n ≡ passed
unfolding refused_at
refused_none at p n h = rw (first_none p n h, le-ltb n n (omega arith))

-- where it passes, p takes nothing below n
pub at_passed : (at : ℕ → Refusal) (p : ℕ → Bool) (n : ℕ) → refused_at at p n ≡ passed → (k : ℕ) → k < n → p k ≡ false
unfolding refused_at
at_passed at p n e k l = is_false (p k) (λ t. never (lt-ltb (first p n) n (omega (arith, first_le p n k l t))))
  where
    never : ltb (first p n) n ≡ true → ⊥
    never h =
        let f : ◌≡◌ {A = Checked} (Err (at (first p n))) passed = rw h at e in
        let z : ◌≡◌ {A = ℕ} 0 1 = cc in
        omega arith

-- where some place below n is taken, refused at the first
pub some_refused : (at : ℕ → Refusal) (p : ℕ → Bool) (n : ℕ) → some p n ≡ true → refused_at at p n ≡ Err (at (first p n))
unfolding refused_at
some_refused at p n e = let k = some_is p n e in rw (lt-ltb (first p n) n (some_first p n k.0 k.1 k.2).0)

-- where none is, passed
pub some_passed : (at : ℕ → Refusal) (p : ℕ → Bool) (n : ℕ) → some p n ≡ false → refused_at at p n ≡ passed
some_passed at p n e = refused_none at p n (λ k l. some_false p n k e l)

-- the smallest place that p takes, as a search finds it
pub found_at : (p : ℕ → Bool) (n i : ℕ) → i < n → ((k : ℕ) → k < i → p k ≡ false) → p i ≡ true → found p n ≡ Some i
unfolding found
found_at p n i l h e = rw (first_at p n i l h e, lt-ltb i n l)

pub found_none : (p : ℕ → Bool) (n : ℕ) → ((k : ℕ) → k < n → p k ≡ false) → found p n ≡ None
unfolding found
found_none p n h = rw (first_none p n h, le-ltb n n (omega arith))

-- refused at what the search finds
pub refused_found : (at : ℕ → Refusal) (p : ℕ → Bool) (n k : ℕ) → found p n ≡ Some k → refused_at at p n ≡ Err (at k)
unfolding refused_at found
refused_found at p n k e = go (ltb (first p n) n) e
  where
    go : (b : Bool) → cond b (Some (first p n)) None ≡ Some k → cond b (Err (at (first p n))) passed ≡ Err (at k)
    go true f = let g : first p n ≡ k = cc in rw g
    go false f = let z : ◌≡◌ {A = ℕ} 0 1 = cc in absurd (omega arith)

-- passed, where it finds nothing
pub passed_found : (at : ℕ → Refusal) (p : ℕ → Bool) (n : ℕ) → found p n ≡ None → refused_at at p n ≡ passed
unfolding refused_at found
passed_found at p n e = go (ltb (first p n) n) e
  where
    go : (b : Bool) → cond b (Some (first p n)) None ≡ None → cond b (Err (at (first p n))) passed ≡ passed
    go true f = let z : ◌≡◌ {A = ℕ} 0 1 = cc in absurd (omega arith)
    go false f = refl

-- ---- the number of a refusal

numbered : (b : Bool) (s r : Refusal) → cond b (Err s) passed ≡ Err r → number r ≡ number s
numbered true s r e = let f : ◌≡◌ {A = Checked} (Err s) (Err r) = e in let g : s ≡ r = cc in sym (ap number g)
numbered false s r e =
    let f : ◌≡◌ {A = Checked} passed (Err r) = e in
    let z : ◌≡◌ {A = ℕ} 0 1 = cc in
    absurd (omega arith)

-- a check refuses with its own number
pub number_if : (s : Refusal) (b : Bool) (r : Refusal) → refused_if s b ≡ Err r → number r ≡ number s
unfolding refused_if
number_if s b r e = numbered b s r e

pub number_at : (at : ℕ → Refusal) (p : ℕ → Bool) (n : ℕ) (r : Refusal) → refused_at at p n ≡ Err r → number r ≡ number (at (first p n))
unfolding refused_at
number_at at p n r e = numbered (ltb (first p n) n) (at (first p n)) r e
