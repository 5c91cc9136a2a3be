-- Permutations of the numbers below n, as lists, and their inverses.
use Rattle.std.specs.Prelude.{ℕ, ◌<◌, ◌≡◌, List, get_or}
use Rattle.graph.specs.Counting.{preimage}
use Rattle.graph.specs.Lists.{table}

-- the first n places of p hold the numbers below n, each once
pub record Permutes (n : ℕ) (p : List ℕ) : Type 0 where
  pub below : (i : ℕ) → i < n → get_or p i 0 < n
  pub onto : (c : ℕ) → c < n → (i : ℕ) × (i < n) × (get_or p i 0 ≡ c)
  pub once : (i j : ℕ) → i < n → j < n → get_or p i 0 ≡ get_or p j 0 → i ≡ j

-- over their first n places p and q are permutations, each the inverse of the other
pub record Inverse (n : ℕ) (p q : List ℕ) : Type 0 where
  pub forth_below : (i : ℕ) → i < n → get_or p i 0 < n
  pub back_below : (c : ℕ) → c < n → get_or q c 0 < n
  pub there_and_back : (i : ℕ) → i < n → get_or q (get_or p i 0) 0 ≡ i
  pub back_and_there : (c : ℕ) → c < n → get_or p (get_or q c 0) 0 ≡ c

-- the place of each number below n in p
unfoldable pub inverse : ℕ → List ℕ → List ℕ
inverse n p = table (preimage (λ i. get_or p i 0) n) n
