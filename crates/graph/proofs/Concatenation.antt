-- Lists turned round and lists put one after another: their members, no repeats, and when they are a permutation.
use Rattle.std.proofs.Common.{ℕ, zero, suc, ◌<◌, ◌≡◌, refl, ap, ◌↔◌, ⊎_elim, not-suc-le-zero, le_of_suc-le-suc, arith, length, get_or}
use mathlib.Core.List.Memᴰ
use mathlib.Core.List.{
  List,
  [],
  ◌∷◌,
  ◌++◌,
  reverse,
  reverse-cons,
  flatten,
}
use Rattle.graph.specs.Lists.{Mem, Once}
use Rattle.graph.specs.Permutations.{Permutes}
use Rattle.graph.specs.Blocks.{block}
use Rattle.graph.proofs.Lists.{mem_elem, mem_get_or, get_or_mem, mem_snoc, once_snoc, left, once_left}

-- ---- a list turned round

mem_of_reverse : (l : List ℕ) (x : ℕ) → Mem x (reverse l) → Mem x l
mem_of_reverse [] x i = i
mem_of_reverse (y ∷ l) x i =
    ⊎_elim (λ j. Memᴰ.tail (mem_of_reverse l x j)) (λ e. Memᴰ.head e) (mem_snoc (reverse l) y x (rw (reverse-cons y l) at i))

reverse_of_mem : (l : List ℕ) (x : ℕ) → Mem x l → Mem x (reverse l)
reverse_of_mem [] x i = i
reverse_of_mem (y ∷ l) x i =
    let last : x ≡ y → Mem x (reverse l ++ (y ∷ [])) = λ e. Memᴰ.append_right (reverse l) (Memᴰ.head e) in
    rw (reverse-cons y l) (⊎_elim last (λ j. Memᴰ.append_left (y ∷ []) (reverse_of_mem l x j)) (Memᴰ.cases_cons i))

-- it has the same members
pub mem_reverse : (l : List ℕ) (x : ℕ) → Mem x (reverse l) ↔ Mem x l
mem_reverse l x = (mem_of_reverse l x, reverse_of_mem l x)

pub once_reverse : (l : List ℕ) → Once l → Once (reverse l)
once_reverse [] o = o
once_reverse (y ∷ l) o = rw (reverse-cons y l) (once_snoc (reverse l) y (once_reverse l o.0) (λ i. o.1 (mem_of_reverse l y i)))

-- ---- lists put one after another

-- the first of two parts has no repeats where both together have none
pub once_front : (a b : List ℕ) → Once (a ++ b) → Once a
once_front [] b o = tt
once_front (x ∷ a) b o = (once_front a b o.0, λ i. o.1 (Memᴰ.append_left b i))

-- two lists without repeats and without a common member
pub once_append : (a b : List ℕ) → Once a → Once b → ((x : ℕ) → Mem x a → ¬ Mem x b) → Once (a ++ b)
once_append [] b o q apart = q
once_append (y ∷ a) b o q apart = (
  once_append a b o.0 q (λ x i. apart x (Memᴰ.tail i)),
  λ i. ⊎_elim o.1 (apart y (Memᴰ.head refl)) (Memᴰ.append_cases a i),
)

mem_of_flatten : (bs : List (List ℕ)) (x : ℕ) → Mem x (flatten bs) → (i : ℕ) × Mem x (block bs i)
unfolding flatten
mem_of_flatten [] x i = absurd (Memᴰ.not-nil i)
mem_of_flatten (b ∷ bs) x i =
    ⊎_elim (λ j. (0, j)) (λ j. let t = mem_of_flatten bs x j in (suc t.0, t.1)) (Memᴰ.append_cases b i)

flatten_of_mem : (bs : List (List ℕ)) (x i : ℕ) → Mem x (block bs i) → Mem x (flatten bs)
unfolding flatten
flatten_of_mem [] x i m = absurd (Memᴰ.not-nil m)
flatten_of_mem (b ∷ bs) x zero m = Memᴰ.append_left (flatten bs) m
flatten_of_mem (b ∷ bs) x (suc i) m = Memᴰ.append_right b (flatten_of_mem bs x i m)

-- the members of all the blocks
pub mem_flatten : (bs : List (List ℕ)) (x : ℕ) → Mem x (flatten bs) ↔ ((i : ℕ) × Mem x (block bs i))
mem_flatten bs x = (mem_of_flatten bs x, λ t. flatten_of_mem bs x t.0 t.1)

-- ---- a list that is a permutation

-- a list without repeats has different members at different places
pub once_places : (l : List ℕ) → Once l → (i j : ℕ) → i < length l → j < length l → get_or l i 0 ≡ get_or l j 0 → i ≡ j
once_places [] o i j p q e = absurd (not-suc-le-zero p)
once_places (x ∷ l) o zero zero p q e = refl
once_places (x ∷ l) o zero (suc j) p q e = absurd (o.1 (Memᴰ.cast e (get_or_mem l j (le_of_suc-le-suc q))))
once_places (x ∷ l) o (suc i) zero p q e = absurd (o.1 (rw e at (get_or_mem l i (le_of_suc-le-suc p))))
once_places (x ∷ l) o (suc i) (suc j) p q e = ap suc (once_places l o.0 i j (le_of_suc-le-suc p) (le_of_suc-le-suc q) e)

-- a list of all the numbers below n leaves none out
pub left_all : (n : ℕ) (l : List ℕ) → ((c : ℕ) → c < n → Mem c l) → left n l ≡ 0
left_all zero l all = refl
left_all (suc n) l all = rw (mem_elem n l (all n (omega arith))) (omega (arith, left_all n l (λ c k. all c (omega arith))))

-- the numbers below n, each once, are n in number
pub once_length : (n : ℕ) (l : List ℕ) → Once l → ((x : ℕ) → Mem x l ↔ x < n) → length l ≡ n
once_length n l o is = omega (arith, once_left n l o (λ x. (is x).0), left_all n l (λ x. (is x).1))

-- and they are a permutation
pub once_permutes : (n : ℕ) (l : List ℕ) → Once l → ((x : ℕ) → Mem x l ↔ x < n) → Permutes n l
once_permutes n l o is = record {
  below = λ i k. (is (get_or l i 0)).0 (get_or_mem l i (room i k));
  onto = λ c k. let t = mem_get_or l c ((is c).1 k) in (t.0, omega (arith, once_length n l o is, t.1), t.2);
  once = λ i j p q e. once_places l o i j (room i p) (room j q) e;
}
  where
    room : (i : ℕ) → i < n → i < length l
    room i k = omega (arith, once_length n l o is)
