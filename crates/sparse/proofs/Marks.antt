-- Marks at the rows of a column, and their removal.
use Rattle.std.proofs.Common.{ℕ, zero, suc, ◌+◌, ◌<◌, ◌≤◌, ◌≡◌, refl, sym, ap, ◌∙◌, List, ◌⊎◌, inl, inr, arith, length, get_or, set, take}
use Rattle.std.proofs.Common.{add-one, get_or-take, length-take-le, length-set, get_or-set_same, get_or-set_other, ext_get_or}
use native.Mathlib.Decide.{ℕ_discrete}
use Rattle.sparse.specs.Parts.{marked}

-- one turn of the loop marks the row at place k
pub mark_more : (rows : List ℕ) (v k : ℕ) (m : List ℕ) → set (marked rows v k m) (get_or rows k 0) v ≡ marked rows v (k + 1) m
unfolding marked
mark_more rows v k m = rw add-one

-- before the first turn nothing is marked
pub mark_none : (rows : List ℕ) (v : ℕ) (m : List ℕ) → marked rows v 0 m ≡ m
unfolding marked
mark_none rows v m = refl

pub length_marked : (rows : List ℕ) (v k : ℕ) (m : List ℕ) → length (marked rows v k m) ≡ length m
unfolding marked
length_marked rows v zero m = refl
length_marked rows v (suc k) m = length-set (marked rows v k m) (get_or rows k 0) v ∙ length_marked rows v k m

-- the first k rows suffice for the marks at them
pub marked_take : (rows : List ℕ) (v k j : ℕ) (m : List ℕ) → j ≤ k → marked (take k rows) v j m ≡ marked rows v j m
unfolding marked
marked_take rows v k zero m l = refl
marked_take rows v k (suc j) m l = rw (marked_take rows v k j m (omega (arith, l)), get_or-take k rows j 0 (omega (arith, l))) refl

-- r is among the first k rows
abbrev pub Listed : List ℕ → ℕ → ℕ → Type 0
Listed rows k r = (j : ℕ) × (j < k) × (get_or rows j 0 ≡ r)

-- r is not
abbrev pub Unlisted : List ℕ → ℕ → ℕ → Type 0
Unlisted rows k r = (j : ℕ) → j < k → get_or rows j 0 ≡ r → ⊥

-- it is one or the other
pub listed : (rows : List ℕ) (k r : ℕ) → Listed rows k r ⊎ Unlisted rows k r
listed rows zero r = inr (λ j b e. omega arith)
listed rows (suc k) r = go (listed rows k r) (ℕ_discrete (get_or rows k 0) r)
  where
    go : Listed rows k r ⊎ Unlisted rows k r → Dec (get_or rows k 0 ≡ r) → Listed rows (suc k) r ⊎ Unlisted rows (suc k) r
    go (inl s) d = inl (s.0, omega (arith, s.1), s.2)
    go (inr u) (yes e) = inl (k, omega arith, e)
    go (inr u) (no ne) = inr (λ j b e. last j b e (ℕ_discrete j k))
      where
        last : (j : ℕ) → j < suc k → get_or rows j 0 ≡ r → Dec (j ≡ k) → ⊥
        last j b e (yes s) = ne (ap (λ (x : ℕ). get_or rows x 0) (sym s) ∙ e)
        last j b e (no s) = u j (omega arith) e

-- a row that is not listed keeps its mark
pub marked_out : (rows : List ℕ) (v : ℕ) (m : List ℕ) (k r : ℕ) → Unlisted rows k r → get_or (marked rows v k m) r 0 ≡ get_or m r 0
unfolding marked
marked_out rows v m zero r u = refl
marked_out rows v m (suc k) r u =
    get_or-set_other (marked rows v k m) (get_or rows k 0) r v 0 (λ e. u k (omega arith) (sym e))
    ∙ marked_out rows v m k r (λ j b. u j (omega arith))

-- a row that is listed has the mark v
pub marked_in : (rows : List ℕ) (v : ℕ) (m : List ℕ) (k r : ℕ) → r < length m → Listed rows k r → get_or (marked rows v k m) r 0 ≡ v
unfolding marked
marked_in rows v m zero r l s = absurd (omega (arith, s.1))
marked_in rows v m (suc k) r l s = go (λ t. marked_in rows v m k r l t) (ℕ_discrete (get_or rows k 0) r)
  where
    go : (Listed rows k r → get_or (marked rows v k m) r 0 ≡ v) → Dec (get_or rows k 0 ≡ r) → get_or (marked rows v (suc k) m) r 0 ≡ v
    go ih (yes e) = rw e (get_or-set_same (marked rows v k m) r v 0 (omega (arith, length_marked rows v k m)))
    go ih (no ne) =
        get_or-set_other (marked rows v k m) (get_or rows k 0) r v 0 (λ e. ne (sym e)) ∙ ih (s.0, before, s.2)
      where
        not_last : s.0 ≡ k → ⊥
        not_last e = ne (ap (λ (x : ℕ). get_or rows x 0) (sym e) ∙ s.2)

        before : s.0 < k
        before = omega (arith, not_last, s.1)

-- marks that are taken away again, and others with them that were zero, leave what was there
pub unmark_mark : (rows : List ℕ) (k n : ℕ) (m : List ℕ) → k ≤ n → ((j : ℕ) → j < n → get_or m (get_or rows j 0) 0 ≡ 0)
    → marked rows 0 n (marked rows 1 k m) ≡ m
unmark_mark rows k n m l z = ext_get_or 0 both m long (λ r h. go r (rw long at h) (listed rows n r))
  where
    both : List ℕ
    both = marked rows 0 n (marked rows 1 k m)

    long : length both ≡ length m
    long = length_marked rows 0 n (marked rows 1 k m) ∙ length_marked rows 1 k m

    go : (r : ℕ) → r < length m → Listed rows n r ⊎ Unlisted rows n r → get_or both r 0 ≡ get_or m r 0
    go r h (inl s) =
        marked_in rows 0 (marked rows 1 k m) n r (rw (length_marked rows 1 k m) h) s
        ∙ sym (ap (λ (x : ℕ). get_or m x 0) (sym s.2) ∙ z s.0 s.1)
    go r h (inr u) = marked_out rows 0 (marked rows 1 k m) n r u ∙ marked_out rows 1 m k r (λ j b. u j (omega arith))

-- marks that are taken away again, the first k rows' alone, leave what was there
pub unmark_taken : (rows : List ℕ) (k : ℕ) (m : List ℕ) → k ≤ length rows → ((j : ℕ) → j < length rows → get_or m (get_or rows j 0) 0 ≡ 0)
    → marked (take k rows) 0 (length (take k rows)) (marked rows 1 k m) ≡ m
unmark_taken rows k m l z =
    rw (length-take-le k rows l)
    (marked_take rows 0 k k (marked rows 1 k m) (omega arith) ∙ unmark_mark rows k k m (omega arith) (λ j b. z j (omega (arith, b, l))))
