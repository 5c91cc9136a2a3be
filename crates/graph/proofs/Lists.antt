-- Laws of membership, of lists without repeats, and of the columns that a list leaves out.
use Rattle.std.proofs.Common.{ℕ, zero, suc, ◌+◌, ◌≤◌, ◌<◌, ◌≡◌, refl, sym, ap, ◌∙◌, ◌⊎◌, inl, inr, ◌↔◌, ⊎_elim, Bool, true, false, cond}
use Rattle.std.proofs.Common.{not, ◌||◌, ◌&&◌, List, [], ◌∷◌, ◌++◌, not-suc-le-zero, le_of_suc-le-suc, arith, eq-eqb, ne_eqb, eqb}
use Rattle.std.proofs.Common.{length, get_or}
use mathlib.Core.Bool.{false≢true}
use mathlib.Core.List.Memᴰ
use native.Mathlib.Decide.{ℕ_discrete}
use Rattle.std.proofs.lemmas.Bool.{false_from_ne_true}
use Rattle.graph.specs.Lists.{Mem, Once, elem, keep, table, range}
use Rattle.graph.specs.Counting.{bit, count}
use Rattle.graph.proofs.Counting.{count_ext, count_minus, pigeon, without}

-- ---- membership and its test

pub elem_mem : (x : ℕ) (l : List ℕ) → elem x l ≡ true → Mem x l
elem_mem x [] e = absurd (false≢true e)
elem_mem x (y ∷ ys) e = go (λ f. elem_mem x ys f) (ℕ_discrete x y)
  where
    go : (elem x ys ≡ true → Mem x ys) → Dec (x ≡ y) → Mem x (y ∷ ys)
    go ih (yes h) = Memᴰ.head h
    go ih (no h) = Memᴰ.tail (ih (rw (ne_eqb x y h) at e))

pub mem_elem : (x : ℕ) (l : List ℕ) → Mem x l → elem x l ≡ true
mem_elem x [] i = absurd (Memᴰ.not-nil i)
mem_elem x (y ∷ ys) (Memᴰ.head h) = rw (eq-eqb x y h)
mem_elem x (y ∷ ys) (Memᴰ.tail i) = go (mem_elem x ys i) (eqb x y)
  where
    go : elem x ys ≡ true → (b : Bool) → b || elem x ys ≡ true
    go e true = refl
    go e false = e

pub not_elem : (x : ℕ) (l : List ℕ) → elem x l ≡ false → ¬ Mem x l
not_elem x l e i = false≢true (sym e ∙ mem_elem x l i)

pub elem_not : (x : ℕ) (l : List ℕ) → ¬ Mem x l → elem x l ≡ false
elem_not x l h = false_from_ne_true (elem x l) (λ e. h (elem_mem x l e))

-- a member stands at some place
pub mem_get_or : (l : List ℕ) (x : ℕ) → Mem x l → (i : ℕ) × (i < length l) × (get_or l i 0 ≡ x)
mem_get_or [] x i = absurd (Memᴰ.not-nil i)
mem_get_or (y ∷ ys) x (Memᴰ.head e) = (0, omega arith, sym e)
mem_get_or (y ∷ ys) x (Memᴰ.tail m) = let t = mem_get_or ys x m in (suc t.0, omega (arith, t.1), t.2)

-- what stands at a place is a member
pub get_or_mem : (l : List ℕ) (i : ℕ) → i < length l → Mem (get_or l i 0) l
get_or_mem [] i l = absurd (not-suc-le-zero l)
get_or_mem (y ∷ ys) zero l = Memᴰ.head refl
get_or_mem (y ∷ ys) (suc i) l = Memᴰ.tail (get_or_mem ys i (le_of_suc-le-suc l))

-- ---- no repeats

-- the two parts of a list without repeats have no member in common
pub once_apart : (b s : List ℕ) → Once (b ++ s) → (x : ℕ) → Mem x b → ¬ Mem x s
once_apart [] s o x i j = Memᴰ.not-nil i
once_apart (y ∷ b) s o x i j =
    ⊎_elim (λ e. o.1 (Memᴰ.cast (sym e) (Memᴰ.append_right b j))) (λ k. once_apart b s o.0 x k j) (Memᴰ.cases_cons i)

pub mem_snoc : (xs : List ℕ) (c x : ℕ) → Mem x (xs ++ (c ∷ [])) → Mem x xs ⊎ (x ≡ c)
mem_snoc xs c x m = ⊎_elim (λ i. inl i) (λ i. inr (Memᴰ.eq_of_singleton i)) (Memᴰ.append_cases xs m)

-- a new number at the end is no repeat
pub once_snoc : (xs : List ℕ) (c : ℕ) → Once xs → ¬ Mem c xs → Once (xs ++ (c ∷ []))
once_snoc [] c o new = (tt, Memᴰ.not-nil)
once_snoc (x ∷ xs) c o new = (once_snoc xs c o.0 (λ m. new (Memᴰ.tail m)), λ m. go (mem_snoc xs c x m))
  where
    go : Mem x xs ⊎ (x ≡ c) → ⊥
    go (inl m) = o.1 m
    go (inr e) = new (Memᴰ.head (sym e))

-- ---- the numbers below n that are not in a list

-- how many numbers below n are not in s
abbrev pub left : ℕ → List ℕ → ℕ
left n s = count (λ i. not (elem i s)) n

pub left_le : (n : ℕ) (s : List ℕ) → left n s ≤ n
left_le zero s = omega arith
left_le (suc n) s = go (elem n s) (left_le n s)
  where
    go : (b : Bool) → left n s ≤ n → bit (not b) + left n s ≤ suc n
    go true h = omega arith
    go false h = omega arith

-- a longer list leaves no more out
pub left_mono : (n : ℕ) (s t : List ℕ) → ((x : ℕ) → Mem x s → Mem x t) → left n t ≤ left n s
left_mono n s t h =
    pigeon (λ c r. c ≡ r) (λ c d r a b. a ∙ sym b) n (λ i. not (elem i t)) n (λ i. not (elem i s))
    (λ c l e. (c, l, go c (elem c s) refl e, refl))
  where
    go : (c : ℕ) (b : Bool) → elem c s ≡ b → not (elem c t) ≡ true → not (elem c s) ≡ true
    go c false e f = rw e
    go c true e f = absurd (false≢true (rw (mem_elem c t (h c (elem_mem c s e))) at f))

-- one that was left out is put in front
pub left_enter : (n c : ℕ) (s : List ℕ) → c < n → elem c s ≡ false → left n s ≡ suc (left n (c ∷ s))
left_enter n c s l e =
    count_minus (λ i. not (elem i s)) c n l (rw e)
    ∙ ap suc (count_ext (without (λ i. not (elem i s)) c) (λ i. not (elem i (c ∷ s))) n (λ i k. same (eqb i c) (elem i s)))
  where
    same : (a b : Bool) → not a && not b ≡ not (a || b)
    same true b = refl
    same false b = refl

-- where none is left out, each is in
pub left_none : (n c : ℕ) (s : List ℕ) → c < n → left n s ≡ 0 → elem c s ≡ true
left_none n c s l z = go (elem c s) refl
  where
    go : (b : Bool) → elem c s ≡ b → elem c s ≡ true
    go true e = e
    go false e = absurd (omega (arith, left_enter n c s l e))

-- a list of numbers below n without repeats, and the numbers it leaves out, make n
pub once_left : (n : ℕ) (l : List ℕ) → Once l → ((x : ℕ) → Mem x l → x < n) → left n l + length l ≡ n
once_left n [] o h = omega (arith, all n)
  where
    all : (k : ℕ) → left k [] ≡ k
    all zero = refl
    all (suc k) = omega (arith, all k)
once_left n (c ∷ l) o h =
    let ih = once_left n l o.0 (λ x i. h x (Memᴰ.tail i)) in
    omega (arith, left_enter n c l (h c (Memᴰ.head refl)) (elem_not c l o.1), ih)

-- so there is room for one that it leaves out
pub once_room : (n : ℕ) (l : List ℕ) (c : ℕ) → Once l → ((x : ℕ) → Mem x l → x < n) → c < n → ¬ Mem c l → length l < n
once_room n l c o h k new = omega (arith, once_left n l o h, left_enter n c l k (elem_not c l new))

-- ---- the lists of the rules

pub length-table : (f : ℕ → ℕ) (n : ℕ) → length (table f n) ≡ n
unfolding table
length-table f zero = refl
length-table f (suc n) = ap suc (length-table (λ k. f (suc k)) n)

pub get_or-table : (f : ℕ → ℕ) (n i : ℕ) → i < n → get_or (table f n) i 0 ≡ f i
unfolding table
get_or-table f zero i l = absurd (not-suc-le-zero l)
get_or-table f (suc n) zero l = refl
get_or-table f (suc n) (suc i) l = get_or-table (λ k. f (suc k)) n i (le_of_suc-le-suc l)

-- functions that agree below n have one table
pub table_ext : (f g : ℕ → ℕ) (n : ℕ) → ((i : ℕ) → i < n → f i ≡ g i) → table f n ≡ table g n
unfolding table
table_ext f g zero h = refl
table_ext f g (suc n) h = rw (h 0 (omega arith), table_ext (λ k. f (suc k)) (λ k. g (suc k)) n (λ i l. h (suc i) (omega arith)))

pub range_is : (n x : ℕ) → Mem x (range n) ↔ x < n
unfolding range
range_is n x = (
  into,
  λ l. Memᴰ.cast (sym (get_or-table (λ k. k) n x l)) (get_or_mem (table (λ k. k) n) x (omega (arith, length-table (λ k. k) n))),
)
  where
    into : Mem x (table (λ k. k) n) → x < n
    into m =
        let t = mem_get_or (table (λ k. k) n) x m in
        let l : t.0 < n = omega (arith, t.1, length-table (λ k. k) n) in
        let e : t.0 ≡ x = sym (get_or-table (λ k. k) n t.0 l) ∙ t.2 in
        omega arith

pub keep_has : (p : ℕ → Bool) (l : List ℕ) (x : ℕ) → Mem x l → p x ≡ true → Mem x (keep p l)
unfolding keep
keep_has p [] x i e = absurd (Memᴰ.not-nil i)
keep_has p (y ∷ l) x (Memᴰ.head h) e = rw (ap p (sym h) ∙ e) (Memᴰ.head h)
keep_has p (y ∷ l) x (Memᴰ.tail i) e = go (p y) (keep_has p l x i e)
  where
    go : (b : Bool) → Mem x (keep p l) → Mem x (cond b (y ∷ keep p l) (keep p l))
    go true j = Memᴰ.tail j
    go false j = j

pub keep_only : (p : ℕ → Bool) (l : List ℕ) (x : ℕ) → Mem x (keep p l) → Mem x l × (p x ≡ true)
unfolding keep
keep_only p [] x i = absurd (Memᴰ.not-nil i)
keep_only p (y ∷ l) x i = go (keep_only p l x) (p y) refl i
  where
    on : Mem x l × (p x ≡ true) → Mem x (y ∷ l) × (p x ≡ true)
    on t = (Memᴰ.tail t.0, t.1)

    go : (Mem x (keep p l) → Mem x l × (p x ≡ true)) → (b : Bool) → p y ≡ b → Mem x (cond b (y ∷ keep p l) (keep p l))
        → Mem x (y ∷ l) × (p x ≡ true)
    go ih true e j = ⊎_elim (λ h. (Memᴰ.head h, ap p h ∙ e)) (λ k. on (ih k)) (Memᴰ.cases_cons j)
    go ih false e j = on (ih j)
