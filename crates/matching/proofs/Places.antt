-- What a scan has found of the places that it has passed, and what that says of a column's rows.
use Rattle.std.proofs.Common.{ℕ, zero, suc, ◌+◌, ◌≤◌, ◌<◌, ◌≡◌, refl, sym, subst, ⊎_elim, Bool, true, false, List, [], ◌∷◌}
use Rattle.std.proofs.Common.{max, eq-or-lt_of_le, not-suc-le-zero, le_of_suc-le-suc, arith, leb-true, leb-false, leb, length, get_or}
use Rattle.std.proofs.Math.Nat.{max-le, le-max_left}
use Rattle.std.proofs.lemmas.Bool.{cases_lt}
use Rattle.graph.specs.Matchings.{Row, Col, partner}
use Rattle.graph.proofs.Lists.{mem_get_or}
use Rattle.graph.proofs.Search.{FirstFree, now, later, NoneFree}
use Rattle.matching.specs.Parts.{col_at}

-- what holds between two places and at the second holds up to the one behind it
pub between_more : (P : ℕ → Type 0) (i j : ℕ) → ((k : ℕ) → i ≤ k → k < j → P k) → P j → (k : ℕ) → i ≤ k → k < j + 1 → P k
between_more P i j all here k l h = ⊎_elim (λ e. subst P (sym e) here) (all k l) (eq-or-lt_of_le (omega arith))

-- ---- the scan for a free row

-- the rows from `from` on before place r are matched, and the one there is free, or it is behind the last place
pub record FreePlace (n : ℕ) (m : List Col) (rs : List Row) (from r : ℕ) : Type 0 where
  pub before : (k : ℕ) → from ≤ k → k < r → col_at m rs k < n
  pub here : r < length rs → n ≤ col_at m rs r

-- a scan from `from` on has come to place k: the rows passed are matched, and what else the walk changes is as the scan found it
pub record Passing (n : ℕ) (rs : List Row) (from : ℕ) (h₀ m₀ : List ℕ) (hit₀ : Bool) (h m : List ℕ) (hit : Bool) (k : ℕ) : Type 0 where
  pub cheap_same : h ≡ h₀
  pub matching_same : m ≡ m₀
  pub found_same : hit ≡ hit₀
  pub passed : (j : ℕ) → from ≤ j → j < k → col_at m₀ rs j < n

-- the column b of the row e at place k, as it was then
there : {n : ℕ} {rs : List Row} {from k e b : ℕ} {h₀ m₀ h m : List ℕ} {hit₀ hit : Bool} → Passing n rs from h₀ m₀ hit₀ h m hit k
    → e ≡ get_or rs k 0 → b ≡ get_or m e 0 → b ≡ col_at m₀ rs k
there P ee eb = rw (eb, P.matching_same, ee)

-- a matched row is passed
pub pass_more : {n : ℕ} {rs : List Row} {from k e b : ℕ} {h₀ m₀ h m : List ℕ} {hit₀ hit : Bool} → Passing n rs from h₀ m₀ hit₀ h m hit k
    → e ≡ get_or rs k 0 → b ≡ get_or m e 0 → b < n → Passing n rs from h₀ m₀ hit₀ h m hit (k + 1)
pass_more {n} {rs} {from} {k} {m₀ = m₀} P ee eb l = record {
  cheap_same = P.cheap_same;
  matching_same = P.matching_same;
  found_same = P.found_same;
  passed = between_more (λ j. col_at m₀ rs j < n) from k P.passed (omega (arith, there P ee eb));
}

-- at a free row the scan stops
pub stop_free : {n : ℕ} {rs : List Row} {from k e b : ℕ} {h₀ m₀ h m : List ℕ} {hit₀ hit : Bool} → Passing n rs from h₀ m₀ hit₀ h m hit k
    → e ≡ get_or rs k 0 → b ≡ get_or m e 0 → n ≤ b → FreePlace n m₀ rs from k
stop_free P ee eb l = record { before = P.passed; here = λ _. omega (arith, there P ee eb) }

-- behind the last row it has found none
pub stop_none : {n : ℕ} {rs : List Row} {from k : ℕ} {h₀ m₀ h m : List ℕ} {hit₀ hit : Bool} → Passing n rs from h₀ m₀ hit₀ h m hit k
    → length rs ≤ k → FreePlace n m₀ rs from (length rs)
stop_none P l = record { before = λ j a b. P.passed j a (omega arith); here = λ i. absurd (omega arith) }

-- behind the last row it has found none, and where it began further behind it does not go back
pub stop_behind : {n : ℕ} {rs : List Row} {from k : ℕ} {h₀ m₀ h m : List ℕ} {hit₀ hit : Bool} → Passing n rs from h₀ m₀ hit₀ h m hit k
    → length rs ≤ k → FreePlace n m₀ rs from (max (length rs) from)
stop_behind {n} {rs} {from} {k} P l = record {
  before = λ j a b. P.passed j a
      (⊎_elim (λ h. h) (λ h. absurd (omega (arith, b, max-le {a = length rs} {b = from} {k = j} (omega (arith, h, l)) a))) (cases_lt j k));
  here = λ i. absurd (omega (arith, i, le-max_left (length rs) from));
}

-- ---- what it says of a column's rows

-- the rows before place k are matched and the one there is free: it is the first
first_at : (n : ℕ) (m : List Col) (rs : List Row) (k : ℕ) → k < length rs → ((j : ℕ) → j < k → col_at m rs j < n) → n ≤ col_at m rs k
    → FirstFree n m (get_or rs k 0) rs
first_at n m [] k l before here = absurd (not-suc-le-zero l)
first_at n m (r ∷ rs) zero l before here = now here
first_at n m (r ∷ rs) (suc k) l before here =
    later (before 0 (omega arith)) (first_at n m rs k (le_of_suc-le-suc l) (λ j h. before (suc j) (omega arith)) here)

-- the rows at all places are matched
none_at : (n : ℕ) (m : List Col) (rs : List Row) → ((j : ℕ) → j < length rs → col_at m rs j < n) → NoneFree n m rs
none_at n m rs all r i = let t = mem_get_or rs r i in subst (λ x. partner m x < n) t.2 (all t.0 t.1)

-- the rows before the place found are matched, where those before p are
pub free_before : {n : ℕ} {m : List Col} {rs : List Row} {p k : ℕ} → FreePlace n m rs p k
    → ((j : ℕ) → j < p → j < length rs → col_at m rs j < n) → (j : ℕ) → j < k → j < length rs → col_at m rs j < n
free_before {n} {m} {rs} {p} F early j h l = go (leb p j) refl
  where
    go : (b : Bool) → leb p j ≡ b → col_at m rs j < n
    go true e = F.before j (leb-true p j e) h
    go false e = early j (leb-false p j e) l

-- the place found from p on is the first free row's, where the rows before p are matched
pub free_here : {n : ℕ} {m : List Col} {rs : List Row} {p k : ℕ} → FreePlace n m rs p k
    → ((j : ℕ) → j < p → j < length rs → col_at m rs j < n) → k < length rs → FirstFree n m (get_or rs k 0) rs
free_here {n} {m} {rs} {p} {k} F early l = first_at n m rs k l (λ j h. free_before F early j h (omega arith)) (F.here l)

-- a place behind the last: no row is free
pub free_nowhere : {n : ℕ} {m : List Col} {rs : List Row} {p k : ℕ} → FreePlace n m rs p k
    → ((j : ℕ) → j < p → j < length rs → col_at m rs j < n) → length rs ≤ k → NoneFree n m rs
free_nowhere {n} {m} {rs} F early l = none_at n m rs (λ j h. free_before F early j (omega arith) h)
