-- What passed checks say of a matrix.
use Rattle.std.proofs.Common.{ℕ, zero, suc, ◌+◌, ◌-◌, ◌<◌, ◌≤◌, ◌≡◌, sym, ◌∙◌, subst, List, [], ◌∷◌, not, ◌||◌, ◌⊎◌, inl, inr}
use Rattle.std.proofs.Common.{eq-or-lt_of_le, le_of_suc-le-suc, add-one, arith, ltb-false, leb-false, eqb-true, ltb, eqb, length}
use Rattle.std.proofs.Common.{get_or, take, drop, get_or-take, get_or-drop}
use mathlib.Core.List.Memᴰ
use native.Mathlib.Decide.{dec_lt}
use borrow.Author.Tests.{not-false}
use lib.ListN.{get_or-eq_default}
use lib.Seq.{slice, length-slice, take-nil, drop-nil}
use Rattle.graph.specs.Counting.{some}
use Rattle.graph.specs.Lists.{Mem, Once}
use Rattle.graph.specs.Matchings.{Row, Col, Entry, Inside}
use Rattle.graph.proofs.Bools.{or_left, or_right, apart}
use Rattle.graph.proofs.Counting.{some_false}
use Rattle.graph.proofs.Lists.{mem_get_or, once_left}
use Rattle.sparse.specs.Limits.{max_size, max_entries}
use Rattle.sparse.specs.Matrix.{column, width, Shaped, RowsBelow}
use Rattle.sparse.specs.declared.refusal.Refusal.TheVariants.{TooLarge, Misshapen, RowOutside, RepeatedRow, EmptyColumn}
use Rattle.sparse.specs.Refusals.{passed, as_column, too_large, misshapen, row_outside, repeated_row, empty_column}
use Rattle.sparse.specs.Refusals.{falls_at, outside_at, repeats_at, empty_at}
use Rattle.sparse.proofs.Refusals.{if_passed, at_passed}
use Rattle.sparse.proofs.Repeats.{is_repeat}

-- ---- refusals 1, 2 and 3

-- not too large: the size is within its limit
pub size_small : (size : ℕ) (rows : List ℕ) → too_large size rows ≡ passed → size ≤ max_size
unfolding too_large
size_small size rows e = ltb-false _ _ (or_left (ltb max_size size) (ltb max_entries (length rows)) (if_passed TooLarge _ e))

-- not too large: so is the number of entries
pub entries_few : (size : ℕ) (rows : List ℕ) → too_large size rows ≡ passed → length rows ≤ max_entries
unfolding too_large
entries_few size rows e = ltb-false _ _ (or_right (ltb max_size size) (ltb max_entries (length rows)) (if_passed TooLarge _ e))

-- not too large and not misshapen: the matrix is shaped
pub shaped : (size : ℕ) (starts rows : List ℕ) → too_large size rows ≡ passed → misshapen size starts rows ≡ passed
    → Shaped size starts rows
unfolding misshapen
shaped size starts rows e f =
    let len = not (eqb (length starts) (size + 1)) in
    let zer = not (eqb (get_or starts 0 0) 0) in
    let b = if_passed Misshapen _ f in
    let b1 = or_left (len || zer || some (falls_at starts) size) _ b in
    let b2 = or_left (len || zer) _ b1 in
    record {
      small = size_small size rows e;
      few = entries_few size rows e;
      starts_length = eqb-true _ _ (not-false _ (or_left len _ b2));
      from_zero = eqb-true _ _ (not-false _ (or_right len _ b2));
      rising = λ c l. ltb-false _ _ (some_false (falls_at starts) size c (or_right (len || zer) _ b1) l);
      to_end = eqb-true _ _ (not-false _ (or_right (len || zer || some (falls_at starts) size) _ b));
    }

-- no row outside: every row is below n
pub rows_below : (size : ℕ) (rows : List ℕ) → row_outside size rows ≡ passed → RowsBelow rows size
unfolding row_outside
rows_below size rows e k l = leb-false _ _ (at_passed RowOutside (outside_at size rows) (length rows) e k l)

-- ---- the columns of a shaped matrix

-- no start lies before an earlier one
pub mono : {size : ℕ} {starts rows : List ℕ} → Shaped size starts rows → (a b : ℕ) → a ≤ b → b ≤ size
    → get_or starts a 0 ≤ get_or starts b 0
mono s a zero l h = let e : a ≡ 0 = omega arith in rw e (omega arith)
mono {starts = starts} s a (suc b) l h = go (λ k. mono s a b (le_of_suc-le-suc k) (omega arith)) (eq-or-lt_of_le l)
  where
    go : (a < suc b → get_or starts a 0 ≤ get_or starts b 0) → (a ≡ suc b) ⊎ (a < suc b) → get_or starts a 0 ≤ get_or starts (suc b) 0
    go ih (inl e) = rw e (omega arith)
    go ih (inr k) = omega (arith, ih k, rw (add-one b) at (s.rising b (omega arith)))

-- a column ends within the entries
pub column_end : {size : ℕ} {starts rows : List ℕ} → Shaped size starts rows → (c : Col) → c < size
    → get_or starts (c + 1) 0 ≤ length rows
column_end {size = size} s c l = omega (arith, s.to_end, mono s (c + 1) size (omega arith) (omega arith))

-- a column has as many rows as its starts are apart
pub column_length : {size : ℕ} {starts rows : List ℕ} → Shaped size starts rows → (c : Col) → c < size
    → length (column starts rows c) ≡ width starts c
column_length {starts = starts} {rows = rows} s c l = length-slice (get_or starts c 0) (get_or starts (c + 1) 0) rows (column_end s c l)

-- place i of a column is place i from its start on
pub column_at : (starts rows : List ℕ) (c : Col) (i : ℕ) → i < width starts c
    → get_or (column starts rows c) i 0 ≡ get_or rows (get_or starts c 0 + i) 0
column_at starts rows c i l =
    get_or-drop (get_or starts c 0) (take (get_or starts (c + 1) 0) rows) i 0
    ∙ get_or-take (get_or starts (c + 1) 0) rows (get_or starts c 0 + i) 0 (omega arith)

-- there is nothing beyond the last column
pub column_beyond : {size : ℕ} {starts rows : List ℕ} → Shaped size starts rows → (c : Col) → size ≤ c → column starts rows c ≡ []
column_beyond {starts = starts} {rows = rows} s c l =
    let z : get_or starts (c + 1) 0 ≡ 0 = get_or-eq_default starts 0 (omega (arith, s.starts_length)) in
    rw z (drop-nil (get_or starts c 0))

-- a part as code takes it is the slice of the definition
pub part_slice : (f t : ℕ) (l : List ℕ) → take (t - f) (drop f l) ≡ slice f t l
part_slice zero t l = let e : t - 0 ≡ t = omega arith in rw e
part_slice (suc f) zero l = let e : 0 - suc f ≡ 0 = omega arith in rw e
part_slice (suc f) (suc t) [] = take-nil (suc t - suc f)
part_slice (suc f) (suc t) (x ∷ l) = let e : suc t - suc f ≡ t - f = omega arith in rw e (part_slice f t l)

-- each row of a column is below n
pub column_below : {size : ℕ} {starts rows : List ℕ} → Shaped size starts rows → RowsBelow rows size → (c : Col) → c < size
    → RowsBelow (column starts rows c) size
column_below {starts = starts} {rows = rows} s b c l k h =
    let w : k < width starts c = omega (arith, h, column_length s c l) in
    rw (column_at starts rows c k w) (b (get_or starts c 0 + k) (omega (arith, w, s.rising c l, column_end s c l)))

-- every entry is inside
pub inside : {size : ℕ} {starts rows : List ℕ} → Shaped size starts rows → RowsBelow rows size → Inside size (column starts rows)
inside {size = size} {starts = starts} {rows = rows} s b = record { row_below = row; col_below = col }
  where
    col : (c : Col) (r : Row) → Entry (column starts rows) c r → c < size
    col c r m = go (dec_lt c size)
      where
        go : Dec (c < size) → c < size
        go (yes l) = l
        go (no l) = absurd (Memᴰ.not-nil (rw (column_beyond s c (omega arith)) at m))

    row : (c : Col) (r : Row) → Entry (column starts rows) c r → r < size
    row c r m =
        let l : c < size = col c r m in
        let t = mem_get_or (column starts rows c) r m in
        let i : t.0 < width starts c = omega (arith, t.1, column_length s c l) in
        let e : get_or rows (get_or starts c 0 + t.0) 0 ≡ r = sym (column_at starts rows c t.0 i) ∙ t.2 in
        subst (λ x. x < size) e (b (get_or starts c 0 + t.0) (omega (arith, column_end s c l)))

-- ---- refusals 8 and 4

-- no column is empty: each has a row
pub some_row : (size : ℕ) (starts : List ℕ) → empty_column size starts ≡ passed → (c : Col) → c < size → 0 < width starts c
unfolding empty_column
some_row size starts e c l =
    omega (
      arith,
      leb-false (get_or starts (c + 1) 0) (get_or starts c 0)
          (at_passed (λ c. EmptyColumn (as_column c)) (empty_at starts) size e c l),
    )

-- a list whose places hold different numbers has no repeat
places_once : (l : List ℕ) → ((i j : ℕ) → i < j → j < length l → get_or l i 0 ≡ get_or l j 0 → ⊥) → Once l
places_once [] h = tt
places_once (x ∷ xs) h = (places_once xs (λ i j l m. h (suc i) (suc j) (omega arith) (omega arith)), new)
  where
    new : Mem x xs → ⊥
    new m = let t = mem_get_or xs x m in h 0 (suc t.0) (omega arith) (omega (arith, t.1)) (sym t.2)

-- no row is repeated: no column has a row twice
pub column_once : {size : ℕ} {starts rows : List ℕ} → Shaped size starts rows → repeated_row size starts rows ≡ passed → (c : Col)
    → Once (column starts rows c)
unfolding repeated_row
column_once {size = size} {starts = starts} {rows = rows} s e c = go (dec_lt c size)
  where
    lo : ℕ
    lo = get_or starts c 0

    clash : c < size → (i j : ℕ) → i < j → j < length (column starts rows c)
        → get_or (column starts rows c) i 0 ≡ get_or (column starts rows c) j 0 → ⊥
    clash l i j m k f =
        let w : j < width starts c = omega (arith, column_length s c l) in
        let same : get_or rows (lo + i) 0 ≡ get_or rows (lo + j) 0 =
        sym (column_at starts rows c i (omega arith)) ∙ f ∙ column_at starts rows c j w in
        apart (repeats_at size starts rows (lo + j))
        (is_repeat size starts rows (lo + j)
        (record { place = lo + i; col = c; earlier = omega arith; same = same; below = l; from = omega arith; to = omega arith }))
        (at_passed RepeatedRow (repeats_at size starts rows) (length rows) e (lo + j) (omega (arith, column_end s c l)))

    go : Dec (c < size) → Once (column starts rows c)
    go (yes l) = places_once (column starts rows c) (clash l)
    go (no l) = rw (column_beyond s c (omega arith)) tt

-- so no column has more than n rows
pub few_rows : {size : ℕ} {starts rows : List ℕ} → Shaped size starts rows → RowsBelow rows size → repeated_row size starts rows ≡ passed
    → (c : Col) → c < size → width starts c ≤ size
few_rows {size = size} {starts = starts} {rows = rows} s b e c l =
    omega (arith, column_length s c l, once_left size (column starts rows c) (column_once s e c) ((inside s b).row_below c))
