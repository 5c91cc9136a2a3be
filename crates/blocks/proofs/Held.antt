-- What slices hold of a walk: the columns noted in them, last first, and the stamps of the columns entered.
use Rattle.std.proofs.Common.{ℕ, zero, suc, ◌≤◌, ◌<◌, ◌≡◌, refl, ap, ◌∙◌, ◌↔◌, ⊎_elim, List, ◌∷◌, arith, length, get_or, set}
use Rattle.std.proofs.Common.{get_or-set_same, get_or-set_other}
use mathlib.Core.List.Memᴰ
use native.Mathlib.Decide.{ℕ_discrete}
use Rattle.graph.specs.Lists.{Mem}
use Rattle.graph.specs.Matchings.{Col}
use Rattle.graph.proofs.Lists.{once_left, once_room}
use Rattle.blocks.specs.Walk.{last_first, Stamped}

-- ---- columns noted in a slice

-- there are as many as were asked for
pub length_last_first : (xs : List ℕ) (k : ℕ) → length (last_first xs k) ≡ k
length_last_first xs zero = refl
length_last_first xs (suc k) = ap suc (length_last_first xs k)

-- a store at or behind place k leaves the first k as they are
pub last_first_other : (xs : List ℕ) (i x k : ℕ) → k ≤ i → last_first (set xs i x) k ≡ last_first xs k
last_first_other xs i x zero l = refl
last_first_other xs i x (suc k) l =
    rw (get_or-set_other xs i k x 0 (omega arith)) (ap (λ l. get_or xs k 0 ∷ l) (last_first_other xs i x k (omega arith)))

-- one more is noted behind them
pub last_first_more : (xs : List ℕ) (k x : ℕ) → k < length xs → last_first (set xs k x) (suc k) ≡ x ∷ last_first xs k
last_first_more xs k x l = rw (get_or-set_same xs k x 0 l) (ap (λ l. x ∷ l) (last_first_other xs k x k (omega arith)))

-- ---- stamps

-- a column more gets the stamp
pub stamped_more : {n mark : ℕ} {v : List ℕ} {s : List Col} → Stamped n mark v s → (c : Col) → c < n → n ≤ length v → ¬ Mem c s
    → Stamped n mark (set v c mark) (c ∷ s)
stamped_more {n} {mark} {v} {s} S c low long new = record {
  once = (S.once, new);
  below = λ d i. ⊎_elim (λ e. rw e low) (S.below d) (Memᴰ.cases_cons i);
  exactly = λ d l. go d l (ℕ_discrete d c);
}
  where
    go : (d : Col) → d < n → Dec (d ≡ c) → (get_or (set v c mark) d 0 ≡ mark) ↔ Mem d (c ∷ s)
    go d l (yes z) = (λ _. Memᴰ.head z, λ _. rw z (get_or-set_same v c mark 0 (omega arith)))
    go d l (no ne) =
        let same = get_or-set_other v c d mark 0 ne in
        let is = S.exactly d l in (
          λ e. Memᴰ.tail (is.0 (rw same at e)),
          λ i. same ∙ is.1 (⊎_elim (λ z. absurd (ne z)) (λ j. j) (Memᴰ.cases_cons i)),
        )

-- there are at most n columns with the stamp
pub stamped_few : {n mark : ℕ} {v : List ℕ} {s : List Col} → Stamped n mark v s → length s ≤ n
stamped_few {n} {s = s} S = omega (arith, once_left n s S.once S.below)

-- fewer where some column has not
pub stamped_room : {n mark : ℕ} {v : List ℕ} {s : List Col} → Stamped n mark v s → (c : Col) → c < n → ¬ Mem c s → length s < n
stamped_room {n} {s = s} S c low new = once_room n s c S.once S.below low new
