-- The count of the rows that stand before in their column: what one turn adds, and what the counts of all columns come to.
use Rattle.std.proofs.Common.{sym, ℕ, ◌+◌, ◌<◌, ◌≡◌, List, true, ◌⊎◌, inl, inr, arith, length, get_or}
use native.Mathlib.Decide.{dec_lt}
use Rattle.sparse.specs.Matrix.{Shaped, column}
use Rattle.sparse.specs.Refusals.{repeats_at}
use Rattle.sparse.specs.Parts.{marked, Tallied, Counted}
use Rattle.sparse.proofs.Marks.{Listed, Unlisted, listed, marked_in, marked_out}
use Rattle.sparse.proofs.Matrix.{column_length}
use Rattle.sparse.proofs.Scans.{none_scanned, one_scanned, apart_more}

-- ---- one column: m are the marks before the count, and the first k rows were marked

-- before the first turn nothing is counted
pub tally_none : (rows : List ℕ) → Tallied rows 0 0
tally_none rows = record { few = omega arith; apart = λ e i j l h f. omega arith; met = λ h. absurd (omega arith) }

-- a row that stands before adds 1, and two rows are alike
tally_again : {rows : List ℕ} {k s : ℕ} → Tallied rows k s → Listed rows k (get_or rows k 0) → Tallied rows (k + 1) (s + 1)
tally_again {k = k} old t = record {
  few = omega (arith, old.few);
  apart = λ e. absurd (omega arith);
  met = λ h. (k, omega arith, t);
}

-- a row that does not adds nothing, and is like none before
tally_new : {rows : List ℕ} {k s : ℕ} → Tallied rows k s → Unlisted rows k (get_or rows k 0) → Tallied rows (k + 1) (s + 0)
tally_new {rows = rows} {k = k} old u = record {
  few = omega (arith, old.few);
  apart = λ e. apart_more rows k (old.apart (omega arith)) u;
  met = λ h. let t = old.met (omega arith) in (t.0, omega (arith, t.1), t.2);
}

-- one turn of the loop adds the mark of the row at place k
tally_more : {rows : List ℕ} {k s : ℕ} → Tallied rows k s → (m : List ℕ) → get_or rows k 0 < length m
    → get_or m (get_or rows k 0) 0 ≡ 0 → Tallied rows (k + 1) (s + get_or (marked rows 1 k m) (get_or rows k 0) 0)
tally_more {rows = rows} {k = k} {s = s} old m b z = go (listed rows k (get_or rows k 0))
  where
    go : Listed rows k (get_or rows k 0) ⊎ Unlisted rows k (get_or rows k 0)
        → Tallied rows (k + 1) (s + get_or (marked rows 1 k m) (get_or rows k 0) 0)
    go (inl t) = rw (marked_in rows 1 m k (get_or rows k 0) b t) (tally_again old t)
    go (inr u) = rw (marked_out rows 1 m k (get_or rows k 0) u, z) (tally_new old u)

-- the same, from what a loop reads: the mark of the row at place k
pub tally_read : {rows : List ℕ} {k s seen : ℕ} (before marks : List ℕ) → Tallied rows k s → marks ≡ marked rows 1 k before
    → seen ≡ get_or marks (get_or rows k 0) 0 → get_or rows k 0 < length before → get_or before (get_or rows k 0) 0 ≡ 0
    → Tallied rows (k + 1) (s + seen)
tally_read before marks t m e b z = rw (e, m) (tally_more t before b z)

-- ---- column after column

-- before the first column nothing is counted
pub count_none : {size : ℕ} {starts rows : List ℕ} → Shaped size starts rows → Counted size starts rows (get_or starts 0 0) 0
count_none s = record {
  few = omega arith;
  none = λ e k l. absurd (omega (arith, s.from_zero));
  met = λ h. absurd (omega arith);
}

-- one turn of the loop adds the count of column c
pub count_more : {size : ℕ} {starts rows : List ℕ} → Shaped size starts rows → (c a t : ℕ) → c < size
    → Counted size starts rows (get_or starts c 0) a → Tallied (column starts rows c) (length (column starts rows c)) t
    → Counted size starts rows (get_or starts (c + 1) 0) (a + t)
count_more {size = size} {starts = starts} {rows = rows} s c a t l old new = record {
  few = omega (arith, old.few, new.few, long);
  none = λ e. rw (sym long) (none_scanned s c _ l (omega arith) (new.apart (omega arith)) (old.none (omega arith)));
  met = λ h. go h (dec_lt 0 a);
}
  where
    long : get_or starts c 0 + length (column starts rows c) ≡ get_or starts (c + 1) 0
    long = omega (arith, s.rising c l, column_length s c l)

    go : 0 < a + t → Dec (0 < a) → (k : ℕ) × (k < get_or starts (c + 1) 0) × (repeats_at size starts rows k ≡ true)
    go h (yes p) = let k = old.met p in (k.0, omega (arith, k.1, long), k.2)
    go h (no p) =
        let j = new.met (omega arith) in
        (get_or starts c 0 + j.0, omega (arith, j.1, long), one_scanned s c j.0 l j.1 j.2)
