-- What the parts of the checks say to one another. No public contract cites these.
use Rattle.std.specs.Prelude.{ℕ, zero, suc, ◌+◌, ◌-◌, ◌<◌, ◌≤◌, ◌≡◌, Bool, true, false, cond, ◌&&◌, ltb, leb}
use Rattle.std.specs.Prelude.{List, length, get_or, set, Option, Some, None}
use Rattle.graph.specs.Counting.{first}
use Rattle.sparse.specs.Refusals.{repeats_at}

-- the first k are zero
abbrev pub ZeroBelow : ℕ → List ℕ → Type 0
ZeroBelow k xs = (i : ℕ) → i < k → get_or xs i 0 ≡ 0

-- no listed row is marked
abbrev pub Unmarked : List ℕ → List ℕ → Type 0
Unmarked rows marks = (k : ℕ) → k < length rows → get_or marks (get_or rows k 0) 0 ≡ 0

-- v at each of the first k rows
unfoldable pub marked : List ℕ → ℕ → ℕ → List ℕ → List ℕ
marked rows v zero marks = marks
marked rows v (suc k) marks = set (marked rows v k marks) (get_or rows k 0) v

-- no two of the first k rows are alike
abbrev pub Apart : List ℕ → ℕ → Type 0
Apart rows k = (i j : ℕ) → i < j → j < k → get_or rows i 0 ≡ get_or rows j 0 → ⊥

-- the row at place k stands before it
abbrev pub Again : List ℕ → ℕ → Type 0
Again rows k = (i : ℕ) × (i < k) × (get_or rows i 0 ≡ get_or rows k 0)

-- the first place whose row stands before it, if there is one
abbrev pub FirstAgain : List ℕ → Option ℕ → Type 0
FirstAgain rows None = Apart rows (length rows)
FirstAgain rows (Some k) = (k < length rows) × Apart rows k × Again rows k

-- r is at most k, and 0 exactly if no two of the first k rows are alike
pub record Tallied (rows : List ℕ) (k r : ℕ) : Type 0 where
  pub few : r ≤ k
  pub apart : r ≡ 0 → Apart rows k
  pub met : 0 < r → (j : ℕ) × (j < k) × Again rows j

-- r is at most n, and 0 exactly if no place below n repeats a row of its column
pub record Counted (size : ℕ) (starts rows : List ℕ) (n r : ℕ) : Type 0 where
  pub few : r ≤ n
  pub none : r ≡ 0 → (k : ℕ) → k < n → repeats_at size starts rows k ≡ false
  pub met : 0 < r → (k : ℕ) × (k < n) × (repeats_at size starts rows k ≡ true)

-- the row after place k is not above the row there
abbrev pub row_falls_at : List ℕ → ℕ → Bool
row_falls_at rows k = leb (get_or rows (k + 1) 0) (get_or rows k 0)

-- there is a row before place lo, and the first of the rows lo..hi is not above it
abbrev pub falls_into : List ℕ → ℕ → ℕ → Bool
falls_into rows lo hi = ltb 0 lo && ltb lo hi && leb (get_or rows lo 0) (get_or rows (lo - 1) 0)

-- the second row of column c is not above its first
abbrev pub opens_falling : List ℕ → List ℕ → ℕ → Bool
opens_falling starts rows c = falls_into rows (get_or starts c 0 + 1) (get_or starts (c + 1) 0)

-- the first row of column c is not above the last row before it
abbrev pub enters_falling : List ℕ → List ℕ → ℕ → Bool
enters_falling starts rows c = falls_into rows (get_or starts c 0) (get_or starts (c + 1) 0)

-- the smallest number below n that p takes, if there is one
unfoldable pub found : (ℕ → Bool) → ℕ → Option ℕ
found p n = cond (ltb (first p n) n) (Some (first p n)) None

-- what a closure asks of its argument holds of each number below n
abbrev pub CallableBelow : ℕ → (ℕ → Type 0) → Type 0
CallableBelow n asks = (i : ℕ) → i < n → asks i

-- of each number below n a closure gives what f gives
abbrev pub GivesBelow : {A : Type 0} → ℕ → (ℕ → A → Type 0) → (ℕ → A) → Type 0
GivesBelow n gives f = (i : ℕ) (x : _) → i < n → gives i x → x ≡ f i
