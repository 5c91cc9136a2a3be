-- Lists of numbers: membership, no repeats, and the few lists that the rules are written with.
use Rattle.std.specs.Prelude.{ℕ, zero, suc, Bool, false, cond, ◌||◌, eqb}
use mathlib.Core.List.{List, [], ◌∷◌, Memᴰ}

-- x stands in the list
abbrev pub Mem : ℕ → List ℕ → Type 0
Mem x xs = Memᴰ x xs

-- no number stands twice in the list
abbrev pub Once : List ℕ → Type 0
Once [] = Unit {0}
Once (x ∷ xs) = Once xs × (¬ Mem x xs)

-- whether x stands in the list
abbrev pub elem : ℕ → List ℕ → Bool
elem x [] = false
elem x (y ∷ ys) = eqb x y || elem x ys

-- the members that p takes, in order
unfoldable pub keep : (ℕ → Bool) → List ℕ → List ℕ
keep p [] = []
keep p (x ∷ xs) = cond (p x) (x ∷ keep p xs) (keep p xs)

-- f 0 to f (n - 1)
unfoldable pub table : (ℕ → ℕ) → ℕ → List ℕ
table f zero = []
table f (suc n) = f 0 ∷ table (λ k. f (suc k)) n

-- 0 to n - 1
unfoldable pub range : ℕ → List ℕ
unfolding table
range n = table (λ k. k) n
