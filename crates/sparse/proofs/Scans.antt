-- The scan of a column for a repeated row: what one turn finds, and what the scans of all columns come to.
use Rattle.std.proofs.Common.{ℕ, ◌+◌, ◌-◌, ◌<◌, ◌≤◌, ◌≡◌, sym, ap, ◌∙◌, List, true, false, ◌⊎◌, inl, inr, arith, length, get_or, Option}
use Rattle.std.proofs.Common.{Some, None, unwrap_or}
use native.Mathlib.Decide.{ℕ_discrete, dec_lt}
use Rattle.graph.proofs.Bools.{is_false}
use Rattle.sparse.specs.Matrix.{Shaped, column}
use Rattle.sparse.specs.Refusals.{repeats_at}
use Rattle.sparse.specs.Parts.{marked, Apart, Again, FirstAgain}
use Rattle.sparse.proofs.Marks.{Listed, Unlisted, listed, marked_in, marked_out}
use Rattle.sparse.proofs.Matrix.{mono, column_at, column_length}
use Rattle.sparse.proofs.Repeats.{Repeat, repeat_is, is_repeat}

-- ---- one column: m are the marks before the scan, and the first k rows were marked

-- the row at place k has a mark, so it stands before
pub scan_found : (rows : List ℕ) (k : ℕ) (m : List ℕ) → get_or m (get_or rows k 0) 0 ≡ 0
    → (get_or (marked rows 1 k m) (get_or rows k 0) 0 ≡ 0 → ⊥) → Again rows k
scan_found rows k m z ne = go (listed rows k (get_or rows k 0))
  where
    go : Listed rows k (get_or rows k 0) ⊎ Unlisted rows k (get_or rows k 0) → Again rows k
    go (inl t) = t
    go (inr u) = absurd (ne (marked_out rows 1 m k (get_or rows k 0) u ∙ z))

-- one row more is apart from those before, where it is none of them
pub apart_more : (rows : List ℕ) (k : ℕ) → Apart rows k → Unlisted rows k (get_or rows k 0) → Apart rows (k + 1)
apart_more rows k a u i j l h f = go (ℕ_discrete j k)
  where
    go : Dec (j ≡ k) → ⊥
    go (yes g) = u i (omega arith) (f ∙ ap (λ (y : ℕ). get_or rows y 0) g)
    go (no g) = a i j l (omega arith) f

-- the row at place k has no mark, so it does not stand before
pub scan_more : (rows : List ℕ) (k : ℕ) → Apart rows k → (m : List ℕ) → get_or rows k 0 < length m
    → get_or (marked rows 1 k m) (get_or rows k 0) 0 ≡ 0 → Apart rows (k + 1)
scan_more rows k a m l z =
    apart_more rows k a (λ i h f. omega (arith, z, marked_in rows 1 m k (get_or rows k 0) l (i, h, f)))

-- what a scan finds stands within the column
pub first_again_le : (rows : List ℕ) (r : Option ℕ) → FirstAgain rows r → unwrap_or r (length rows) ≤ length rows
first_again_le rows None f = omega arith
first_again_le rows (Some k) f = omega (arith, f.0)

-- ---- column after column

-- the column that holds a place is the only one
only : {size : ℕ} {starts rows : List ℕ} → Shaped size starts rows → (c d k : ℕ) → c < size → d < size
    → get_or starts c 0 ≤ k → k < get_or starts (c + 1) 0 → get_or starts d 0 ≤ k → k < get_or starts (d + 1) 0 → c ≡ d
only s c d k lc ld a b e f = go (dec_lt c d) (dec_lt d c)
  where
    go : Dec (c < d) → Dec (d < c) → c ≡ d
    go (yes l) _ = absurd (omega (arith, mono s (c + 1) d (omega arith) (omega arith)))
    go (no l) (yes m) = absurd (omega (arith, mono s (d + 1) c (omega arith) (omega arith)))
    go (no l) (no m) = omega arith

-- nothing before place k of column c is repeated, where nothing before its start is and no two of its first rows are alike
pub none_scanned : {size : ℕ} {starts rows : List ℕ} → Shaped size starts rows → (c k : ℕ) → c < size → k ≤ length (column starts rows c)
    → Apart (column starts rows c) k → ((i : ℕ) → i < get_or starts c 0 → repeats_at size starts rows i ≡ false)
    → (i : ℕ) → i < get_or starts c 0 + k → repeats_at size starts rows i ≡ false
none_scanned {size = size} {starts = starts} {rows = rows} s c k l b apart old i h = go (dec_lt i (get_or starts c 0))
  where
    lo : ℕ
    lo = get_or starts c 0

    up : lo + k ≤ get_or starts (c + 1) 0
    up = omega (arith, s.rising c l, column_length s c l)

    row : (j : ℕ) → lo ≤ j → j < lo + k → get_or (column starts rows c) (j - lo) 0 ≡ get_or rows j 0
    row j a d =
        let e : lo + (j - lo) ≡ j = omega arith in
        column_at starts rows c (j - lo) (omega (arith, up)) ∙ ap (λ (x : ℕ). get_or rows x 0) e

    hit : lo ≤ i → Repeat size starts rows i → ⊥
    hit a q =
        let e : c ≡ q.col = only s c q.col i l q.below a (omega (arith, up)) (omega (arith, q.from, q.earlier)) q.to in
        let from : lo ≤ q.place = rw e q.from in
        apart (q.place - lo) (i - lo) (omega (arith, from, q.earlier)) (omega arith)
        (row q.place from (omega (arith, q.earlier)) ∙ q.same ∙ sym (row i a h))

    go : Dec (i < lo) → repeats_at size starts rows i ≡ false
    go (yes d) = old i d
    go (no d) = is_false _ (λ t. hit (omega arith) (repeat_is size starts rows i t))

-- where a row of column c stands before in it, its place is a repeat
pub one_scanned : {size : ℕ} {starts rows : List ℕ} → Shaped size starts rows → (c k : ℕ) → c < size → k < length (column starts rows c)
    → Again (column starts rows c) k → repeats_at size starts rows (get_or starts c 0 + k) ≡ true
one_scanned {size = size} {starts = starts} {rows = rows} s c k l b t =
    let w : k < get_or starts (c + 1) 0 - get_or starts c 0 = omega (arith, column_length s c l) in
    is_repeat size starts rows (get_or starts c 0 + k)
    (record {
      place = get_or starts c 0 + t.0;
      col = c;
      earlier = omega (arith, t.1);
      same = sym (column_at starts rows c t.0 (omega (arith, t.1))) ∙ t.2 ∙ column_at starts rows c k w;
      below = l;
      from = omega arith;
      to = omega arith;
    })
