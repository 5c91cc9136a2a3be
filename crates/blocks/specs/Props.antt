-- That a pattern and its matching are reversible is one fact, however it is known, so that a struct may carry it.
use Rattle.std.specs.Prelude.{ℕ, ◌<◌, ◌≡◌, List, [], ◌∷◌, get_or}
use Rattle.std.specs.Coded.{×_prop, Π_prop, →_prop, Unit-prop, le_prop}
use mathlib.Core.HLevel.{is_prop→PathP, ¬_prop}
use native.Mathlib.Nat.{ℕ_set}
use mathlib.Core.Path.{sym, ◌∙◌}
use Rattle.graph.specs.Lists.{Once}
use Rattle.graph.specs.Permutations.{Permutes}
use Rattle.graph.specs.Matchings.{Col, Pattern, Inside}
use Rattle.blocks.specs.Reverse.{Reversible}

-- no list is without repeats in two ways
Once-prop : (l : List ℕ) → IsProp (Once l)
Once-prop [] = Unit-prop
Once-prop (x ∷ xs) = ×_prop (Once-prop xs) ¬_prop

-- a number stands at one place of a permutation
place-prop : {n : ℕ} {p : List ℕ} → Permutes n p → (c : ℕ) → IsProp ((i : ℕ) × (i < n) × (get_or p i 0 ≡ c))
place-prop {n} {p} P c s t =
    let same : s.0 ≡ t.0 = P.once s.0 t.0 s.1 t.1 (s.2 ∙ sym t.2) in
    λ i. (
      same i,
      is_prop→PathP (λ j. same j < n) (λ j. le_prop) s.1 t.1 i,
      is_prop→PathP (λ j. get_or p (same j) 0 ≡ c) (λ j. ℕ_set (get_or p (same j) 0) c) s.2 t.2 i,
    )

Permutes-prop : {n : ℕ} {p : List ℕ} → IsProp (Permutes n p)
Permutes-prop P Q = λ i. record {
  below = Π_prop (λ k. →_prop le_prop) P.below Q.below i;
  onto = Π_prop (λ c. →_prop (place-prop P c)) P.onto Q.onto i;
  once = Π_prop (λ k. Π_prop (λ j. →_prop (→_prop (→_prop (ℕ_set k j))))) P.once Q.once i;
}

Inside-prop : {n : ℕ} {col : Pattern} → IsProp (Inside n col)
Inside-prop P Q = λ i. record {
  row_below = Π_prop (λ c. Π_prop (λ r. →_prop le_prop)) P.row_below Q.row_below i;
  col_below = Π_prop (λ c. Π_prop (λ r. →_prop le_prop)) P.col_below Q.col_below i;
}

pub Reversible-prop : {n : ℕ} {col : Pattern} {m : List Col} → IsProp (Reversible n col m)
Reversible-prop {col = col} P Q = λ i. record {
  inside = Inside-prop P.inside Q.inside i;
  once = Π_prop (λ c. Once-prop (col c)) P.once Q.once i;
  short = Π_prop (λ c. le_prop) P.short Q.short i;
  permutes = Permutes-prop P.permutes Q.permutes i;
  matching_long = le_prop P.matching_long Q.matching_long i;
}
