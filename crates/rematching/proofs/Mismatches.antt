-- Refusal 15: that it lets through the perfect matchings and no others; and the loop that looks for the first mismatched row.
use Rattle.std.proofs.Common.{ℕ, ◌+◌, ◌≤◌, ◌<◌, ◌≡◌, refl, sym, ap, ◌∙◌, ◌⊎◌, inl, inr, ◌≢◌, List, Bool, true, false, ◌||◌, not, arith}
use Rattle.std.proofs.Common.{below_more, leb-false, eq-eqb, ne_eqb, leb, eqb, length, get_or, set, take, ext_get_or, get_or-take}
use Rattle.std.proofs.Common.{get_or-set_same, get_or-set_other, length-take-le, ◌++◌, drop, replicate}
use lib.ListN.{length-replicate, get_or-replicate, get_or-append}
use native.Mathlib.Decide.{ℕ_discrete}
use borrow.Author.Tests.{lt-leb, not-false}
use Rattle.graph.specs.Lists.{Mem, elem}
use Rattle.graph.specs.Matchings.{Row, Col, Pattern, Perfect, partner}
use Rattle.graph.specs.Permutations.{inverse}
use Rattle.graph.proofs.Bools.{or_left, or_right, is_false, apart}
use Rattle.graph.proofs.Counting.{tri}
use Rattle.graph.proofs.Lists.{elem_mem, mem_elem}
use Rattle.graph.proofs.Permutations.{permutes, length-inverse, inverse_only}
use Rattle.sparse.specs.Limits.{max_size, none}
use Rattle.sparse.specs.Refusals.{passed, as_row}
use Rattle.sparse.specs.declared.refusal.Refusal.TheVariants.{MismatchedRow}
use Rattle.sparse.proofs.Refusals.{at_passed, refused_none}
use Rattle.matching.proofs.Stamps.{Kept, kept_start, kept_set}
use Rattle.rematching.specs.Checks.{mismatched_at, mismatched_row}
use Rattle.rematching.proofs.Earlier.{earlier_is, is_earlier}

-- a row that is not mismatched: its column is below n, is that of no earlier row, and has the row
record Suited (n : ℕ) (col : Pattern) (m : List Col) (r : Row) : Type 0 where
  below : partner m r < n
  new : elem (partner m r) (take r m) ≡ false
  on : Mem r (col (partner m r))

suited : (n : ℕ) (col : Pattern) (m : List Col) (r : Row) → mismatched_at n col m r ≡ false → Suited n col m r
suited n col m r e =
    let out = leb n (partner m r) in
    let used = elem (partner m r) (take r m) in
    let f = or_left (out || used) (not (elem r (col (partner m r)))) e in
    record {
      below = leb-false n (partner m r) (or_left out used f);
      new = or_right out used f;
      on = elem_mem r _ (not-false _ (or_right (out || used) _ e));
    }

-- no row before r is mismatched
abbrev pub Suits : ℕ → Pattern → List Col → Row → Type 0
Suits n col m r = (j : Row) → j < r → mismatched_at n col m j ≡ false

-- then no two of them have one column
suits_once : (n : ℕ) (col : Pattern) (m : List Col) (k : Row) → Suits n col m k → k ≤ length m
    → (r s : Row) → r < k → s < k → partner m r ≡ partner m s → r ≡ s
suits_once n col m k f long r s l h e = go (tri r s)
  where
    clash : (i j : Row) → i < j → j < k → partner m i ≡ partner m j → ⊥
    clash i j p q d =
        let old = is_earlier m j (partner m j) (i, p, omega arith, d) in
        apart (elem (partner m j) (take j m)) old (suited n col m j (f j q)).new

    go : (r < s) ⊎ ((r ≡ s) ⊎ (s < r)) → r ≡ s
    go (inl p) = absurd (clash r s p h e)
    go (inr (inl p)) = p
    go (inr (inr p)) = absurd (clash s r p l (sym e))

-- where no row is mismatched the matching is perfect
suits_perfect : (n : ℕ) (col : Pattern) (m : List Col) → Suits n col m n → n ≤ length m → Perfect n col (partner m)
suits_perfect n col m f long = record {
  inside = λ r l. (suited n col m r (f r l)).below;
  on = λ r l. (suited n col m r (f r l)).on;
  once = suits_once n col m n f long;
}

-- ---- 15

-- it lets through perfect matchings only
pub mismatched_perfect : (n : ℕ) (col : Pattern) (m : List Col) → n ≤ length m → mismatched_row n col m ≡ passed
    → Perfect n col (partner m)
unfolding mismatched_row
mismatched_perfect n col m long e = suits_perfect n col m (at_passed (λ r. MismatchedRow (as_row r)) (mismatched_at n col m) n e) long

-- and every one
pub perfect_passes : {n : ℕ} {col : Pattern} (m : List Col) → Perfect n col (partner m) → mismatched_row n col m ≡ passed
unfolding mismatched_row
perfect_passes {n} {col} m M = refused_none (λ r. MismatchedRow (as_row r)) (mismatched_at n col m) n suits
  where
    new : (r : Row) → r < n → elem (partner m r) (take r m) ≡ true → ⊥
    new r l t =
        let j = earlier_is m r (partner m r) t in
        omega (arith, j.1, M.once j.0 r (omega (arith, j.1)) l j.3)

    suits : (r : Row) → r < n → mismatched_at n col m r ≡ false
    suits r l =
        rw (
          lt-leb n (partner m r) (M.inside r l),
          is_false (elem (partner m r) (take r m)) (new r l),
          mem_elem r (col (partner m r)) (M.on r l),
        )

-- ---- the loop

-- no row before r is mismatched, and q, which was q₀, has those rows at their columns, and none at the others
pub record Recording (n : ℕ) (col : Pattern) (m q₀ q : List ℕ) (r : Row) : Type 0 where
  pub suits : Suits n col m r
  pub kept : Kept n q₀ q
  pub placed : (j : Row) → j < r → get_or q (partner m j) 0 ≡ j
  pub others : (c : Col) → c < n → ((j : Row) → j < r → partner m j ≢ c) → get_or q c 0 ≡ none

-- before the first row every column has none
pub record_start : {n : ℕ} (col : Pattern) (m q₀ : List ℕ) {q : List ℕ} → n ≤ length q → q ≡ replicate n none ++ drop n q₀
    → Recording n col m q q 0
record_start {n} col m q₀ {q} long e = record {
  suits = λ j l. absurd (omega arith);
  kept = kept_start n q long;
  placed = λ j l. absurd (omega arith);
  others = λ c l h. rw e (get_or-append (replicate n none) (drop n q₀) 0 c (omega (arith, length-replicate {A = ℕ} n none))
      ∙ get_or-replicate n c none 0 l);
}

-- the code's test of row r and its column c is the definition's
pub mismatch_test : {n : ℕ} {col : Pattern} {m q₀ q : List ℕ} {r : Row} {c : Col} {t : Bool} → Recording n col m q₀ q r
    → n ≤ max_size → n ≤ length m → r < n → c ≡ partner m r
    → t ≡ (leb n c || not (eqb (get_or q c 0) none) || not (elem r (col c))) → mismatched_at n col m r ≡ t
mismatch_test {n} {col} {m} {q₀} {q} {r} {c} {t} R small long l ec et =
    sym (et ∙ rw (← ec) (ap (λ (b : Bool). b || not (elem r (col c))) (go (leb n c) refl)))
  where
    used : c < n → (b : Bool) → elem c (take r m) ≡ b → not (eqb (get_or q c 0) none) ≡ b
    used h true e =
        let j = earlier_is m r c e in
        let f : get_or q c 0 ≡ j.0 = ap (λ (d : Col). get_or q d 0) (sym j.3) ∙ R.placed j.0 j.1 in
        rw (ne_eqb (get_or q c 0) none (λ z. omega (arith, f, z, j.1)))
    used h false e =
        let new : (j : Row) → j < r → partner m j ≢ c = λ j k f.
        apart (elem c (take r m)) (is_earlier m r c (j, k, omega arith, f)) e in
        rw (eq-eqb (get_or q c 0) none (R.others c h new))

    go : (b : Bool) → leb n c ≡ b → (b || not (eqb (get_or q c 0) none)) ≡ (b || elem c (take r m))
    go true e = refl
    go false e = used (leb-false n c e) (elem c (take r m)) refl

-- one turn of the loop records row r
pub record_more : {n : ℕ} {col : Pattern} {m q₀ q q' : List ℕ} {r c : ℕ} → Recording n col m q₀ q r → n ≤ length m → r < n
    → c ≡ partner m r → mismatched_at n col m r ≡ false → q' ≡ set q c r → Recording n col m q₀ q' (r + 1)
record_more {n} {col} {m} {q₀} {q} {q'} {r} {c} R long l ec ok eq = record {
  suits = more;
  kept = rw eq (kept_set c r c_below R.kept);
  placed = λ j k. placed j k (ℕ_discrete j r);
  others = λ d k h. rw eq
      (get_or-set_other q c d r 0 (λ z. h r (omega arith) (sym ec ∙ sym z)) ∙ R.others d k (λ j i. h j (omega arith)));
}
  where
    more : Suits n col m (r + 1)
    more = below_more _ r R.suits ok

    c_below : c < n
    c_below = rw ec (suited n col m r ok).below

    placed : (j : Row) → j < r + 1 → Dec (j ≡ r) → get_or q' (partner m j) 0 ≡ j
    placed j k (yes e) = rw (eq, e, ← ec) (get_or-set_same q c r 0 (omega (arith, R.kept.long, c_below)))
    placed j k (no e) =
        let other : partner m j ≢ c = λ z. e (suits_once n col m (r + 1) more (omega arith) j r k (omega arith) (z ∙ ec)) in
        rw eq (get_or-set_other q c (partner m j) r 0 other ∙ R.placed j (omega arith))

-- after the last one every column has its row
pub record_end : {n : ℕ} {col : Pattern} {m q₀ q : List ℕ} {r : Row} → Recording n col m q₀ q r → n ≤ r → n ≤ length m
    → take n q ≡ inverse n m
record_end {n} {col} {m} {q₀} {q} R end long =
    ext_get_or 0 (take n q) (inverse n m) (size ∙ sym (length-inverse n m)) (λ c l. at c (rw size at l))
  where
    size : length (take n q) ≡ n
    size = length-take-le n q R.kept.long

    M : Perfect n col (partner m)
    M = suits_perfect n col m (λ j l. R.suits j (omega arith)) long

    at : (c : Col) → c < n → get_or (take n q) c 0 ≡ get_or (inverse n m) c 0
    at c l =
        get_or-take n q c 0 l ∙ inverse_only q (permutes n m M.inside M.once) (λ j k. R.placed j (omega arith)) c l
