-- Columns whose rows rise: where every fall from a row to the next is between two columns, no row repeats.
use Rattle.std.proofs.Common.{ℕ, zero, suc, ◌+◌, ◌-◌, ◌<◌, ◌≤◌, ◌≡◌, refl, sym, ap, ◌∙◌, List, Bool, true, false, ◌⊎◌, inl, inr}
use Rattle.std.proofs.Common.{add-one, arith, leb-false, lt-ltb, le-ltb, leb, length, get_or}
use native.Mathlib.Decide.{dec_lt}
use mir.Val.{bool_byte}
use Rattle.graph.specs.Counting.{bit, count}
use Rattle.graph.proofs.Bools.{is_false}
use Rattle.graph.proofs.Counting.{below}
use Rattle.sparse.specs.Matrix.{Shaped, column}
use Rattle.sparse.specs.Refusals.{repeats_at}
use Rattle.sparse.specs.Parts.{row_falls_at, falls_into, enters_falling}
use Rattle.sparse.proofs.Matrix.{column_at, column_length}
use Rattle.sparse.proofs.Scans.{none_scanned}

-- ---- counts

-- nothing is counted below 0
pub count_zero : (p : ℕ → Bool) → count p 0 ≡ 0
count_zero p = refl

-- one turn of the loop
pub count_next : (p : ℕ → Bool) (k : ℕ) → count p (k + 1) ≡ count p k + bit (p k)
count_next p k = rw add-one (omega arith)

-- a test as a number is the bit of it
byte_bit : (b : Bool) → bool_byte b ≡ bit b
byte_bit true = refl
byte_bit false = refl

pub byte_few : (b : Bool) → bool_byte b ≤ 1
byte_few true = omega arith
byte_few false = omega arith

-- one turn of a loop that adds the test as a number
pub count_byte : (p : ℕ → Bool) (k : ℕ) → count p k + bool_byte (p k) ≡ count p (k + 1)
count_byte p k = rw byte_bit (sym (count_next p k))

bit_few : (b : Bool) → bit b ≤ 1
bit_few true = omega arith
bit_few false = omega arith

-- no more are counted than there are
pub count_few : (p : ℕ → Bool) (n : ℕ) → count p n ≤ n
count_few p zero = omega arith
count_few p (suc n) = omega (arith, bit_few (p n), count_few p n)

-- a larger bound counts no fewer
pub count_mono : (p : ℕ → Bool) (a b : ℕ) → a ≤ b → count p a ≤ count p b
count_mono p a zero l = let e : a ≡ 0 = omega arith in rw e (omega arith)
count_mono p a (suc b) l = go (λ k. count_mono p a b k) (dec_lt b a)
  where
    go : (a ≤ b → count p a ≤ count p b) → Dec (b < a) → count p a ≤ bit (p b) + count p b
    go ih (yes k) = let e : a ≡ suc b = omega arith in rw e (omega arith)
    go ih (no k) = omega (arith, ih (omega arith))

-- where a larger bound counts no more, p takes nothing between the two
pub count_level : (p : ℕ → Bool) (a b k : ℕ) → count p b ≤ count p a → a ≤ k → k < b → p k ≡ false
count_level p a b k e l h = is_false (p k) (λ t. omega (arith, more t, count_mono p a k l, count_mono p (suc k) b h))
  where
    more : p k ≡ true → count p (suc k) ≡ suc (count p k)
    more t = rw t (omega arith)

-- ---- one column

-- where no row of lo..hi falls to the next, an earlier one is below a later one
pub rising_rows : (rows : List ℕ) (lo hi : ℕ) → ((k : ℕ) → lo ≤ k → k + 1 < hi → row_falls_at rows k ≡ false)
    → (j k : ℕ) → lo ≤ j → j < k → k < hi → get_or rows j 0 < get_or rows k 0
rising_rows rows lo hi h j zero a l b = absurd (omega arith)
rising_rows rows lo hi h j (suc k) a l b = go (λ m. rising_rows rows lo hi h j k a m (omega arith)) (below l)
  where
    up : lo ≤ k → get_or rows k 0 < get_or rows (suc k) 0
    up m = rw (add-one k) at (leb-false (get_or rows (k + 1) 0) (get_or rows k 0) (h k m (omega arith)))

    go : (j < k → get_or rows j 0 < get_or rows k 0) → (j ≡ k) ⊎ (j < k) → get_or rows j 0 < get_or rows (suc k) 0
    go ih (inl e) = rw e (up (omega arith))
    go ih (inr m) = omega (arith, ih m, up (omega arith))

-- nothing falls into a column where no row stands before it
pub into_first : (rows : List ℕ) (lo hi : ℕ) → lo ≡ 0 → falls_into rows lo hi ≡ false
into_first rows lo hi e = rw e

-- an empty column has no fall into it
pub into_empty : (rows : List ℕ) (lo hi : ℕ) → hi ≤ lo → falls_into rows lo hi ≡ false
into_empty rows zero hi l = refl
into_empty rows (suc lo) hi l = rw (lt-ltb 0 (suc lo) (omega arith), le-ltb (suc lo) hi l)

-- into any other it is the fall from the row before
pub into_other : (rows : List ℕ) (lo hi : ℕ) → 0 < lo → lo < hi
    → falls_into rows lo hi ≡ leb (get_or rows lo 0) (get_or rows (lo - 1) 0)
into_other rows lo hi l m = rw (lt-ltb 0 lo l, lt-ltb lo hi m)

-- the fall into a column is one of the falls, between the row before it and its first
into_counted : (rows : List ℕ) (lo hi : ℕ) → bit (falls_into rows lo hi) + count (row_falls_at rows) (lo - 1) ≤ count (row_falls_at rows) lo
into_counted rows zero hi = omega arith
into_counted rows (suc lo) hi = go (dec_lt (suc lo) hi)
  where
    e : suc lo - 1 ≡ lo
    e = omega arith

    go : Dec (suc lo < hi) → bit (falls_into rows (suc lo) hi) + count (row_falls_at rows) (suc lo - 1) ≤ count (row_falls_at rows) (suc lo)
    go (yes l) = rw (lt-ltb 0 (suc lo) (omega arith), lt-ltb (suc lo) hi l, e, add-one lo) (omega arith)
    go (no l) = rw (into_empty rows (suc lo) hi (omega arith), e) (omega arith)

-- ---- column after column

-- up to the start of column c: no more falls between columns than falls, and nothing is repeated where there are as many
record Between (size : ℕ) (starts rows : List ℕ) (c : ℕ) : Type 0 where
  few : count (enters_falling starts rows) c ≤ count (row_falls_at rows) (get_or starts c 0 - 1)
  none : count (row_falls_at rows) (get_or starts c 0 - 1) ≤ count (enters_falling starts rows) c
      → (k : ℕ) → k < get_or starts c 0 → repeats_at size starts rows k ≡ false

between : {size : ℕ} {starts rows : List ℕ} → Shaped size starts rows → (c : ℕ) → c ≤ size → Between size starts rows c
between s zero l = record { few = omega arith; none = λ e k h. absurd (omega (arith, s.from_zero)) }
between {size = size} {starts = starts} {rows = rows} s (suc c) l = go (between s c (omega arith)) (dec_lt lo hi)
  where
    lo : ℕ
    lo = get_or starts c 0

    hi : ℕ
    hi = get_or starts (suc c) 0

    up : lo ≤ hi
    up = rw (add-one c) at (s.rising c l)

    same : bit (enters_falling starts rows c) ≡ bit (falls_into rows lo hi)
    same = rw (add-one c) refl

    wide : hi - lo ≡ get_or starts (c + 1) 0 - lo
    wide = rw (add-one c) refl

    long : length (column starts rows c) ≡ hi - lo
    long = column_length s c l ∙ sym wide

    columns_alike : (i j : ℕ) → i < j → j < hi - lo → get_or (column starts rows c) i 0 ≡ get_or (column starts rows c) j 0
        → get_or rows (lo + i) 0 ≡ get_or rows (lo + j) 0
    columns_alike i j a b q =
        sym (column_at starts rows c i (omega (arith, wide))) ∙ q ∙ column_at starts rows c j (omega (arith, wide))

    go : Between size starts rows c → Dec (lo < hi) → Between size starts rows (suc c)
    go old (no m) =
        let e : hi ≡ lo = omega (arith, up) in
        let z : bit (enters_falling starts rows c) ≡ 0 = same ∙ ap bit (into_empty rows lo hi (omega arith)) in
        record {
          few = rw (e, z) (omega (arith, old.few));
          none = rw (e, z) (λ f k h. old.none (omega arith) k h);
        }
    go old (yes m) =
        let p = row_falls_at rows in
        let in_hi = count_mono p lo (hi - 1) (omega arith) in
        let into = into_counted rows lo hi in
        record {
          few = omega (arith, same, into, in_hi, old.few);
          none = λ f k h. none_scanned s c (hi - lo) l (rw (long) (omega arith))
              (λ i j a b q. omega (
                arith,
                columns_alike i j a b q,
                rising_rows rows lo hi
                    (λ t x y. count_level p lo (hi - 1) t (omega (arith, f, same, into, in_hi, old.few)) x (omega arith)) (lo + i) (lo + j)
                    (omega arith) (omega arith) (omega arith),
              ))
              (old.none (omega (arith, f, same, into, in_hi, old.few))) k (omega arith);
        }

-- where there are as many falls between columns as falls, no row repeats one of its column
pub rise_apart : {size : ℕ} {starts rows : List ℕ} → Shaped size starts rows
    → count (row_falls_at rows) (length rows - 1) ≡ count (enters_falling starts rows) size
    → (k : ℕ) → k < length rows → repeats_at size starts rows k ≡ false
rise_apart {size = size} {starts = starts} {rows = rows} s e k l =
    let b = between s size (omega arith) in
    let end : get_or starts size 0 ≡ length rows = s.to_end in
    b.none (rw end (omega arith)) k (omega arith)
