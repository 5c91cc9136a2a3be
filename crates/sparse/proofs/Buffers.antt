-- Laws of a lent buffer whose front is zeroed or filled: its length, and what stands where.
use Rattle.std.proofs.Common.{ℕ, zero, suc, ◌+◌, ◌-◌, ◌<◌, ◌≤◌, ◌≡◌, refl, sym, ap, ◌∙◌, List, [], ◌∷◌, ◌++◌, arith, length, get_or}
use Rattle.std.proofs.Common.{set, take, drop, replicate, length-append, length-drop, take-append-drop, drop_at, get_or-append-add}
use Rattle.std.proofs.Common.{get_or-drop, length-take-le}
use lib.ListN.{length-replicate, get_or-replicate, get_or-append}
use Rattle.graph.specs.Lists.{table}
use Rattle.graph.proofs.Lists.{length-table}
use Rattle.sparse.specs.Buffers.{zeroed, filled}
use Rattle.sparse.specs.Parts.{ZeroBelow}

-- what stands behind a front of a known length
past : (k : ℕ) (f xs : List ℕ) (i : ℕ) → length f ≡ k → k ≤ i → get_or (f ++ drop k xs) i 0 ≡ get_or xs i 0
past k f xs i n l =
    let e : length f + (i - k) ≡ i = omega arith in
    let g : k + (i - k) ≡ i = omega arith in
    ap (λ (j : ℕ). get_or (f ++ drop k xs) j 0) (sym e) ∙ get_or-append-add f (drop k xs) (i - k) 0 ∙ get_or-drop k xs (i - k) 0
    ∙ ap (λ (j : ℕ). get_or xs j 0) g

-- ---- zeroed

pub length-zeroed : (k : ℕ) (xs : List ℕ) → k ≤ length xs → length (zeroed k xs) ≡ length xs
length-zeroed k xs l = simp (length-append, length-drop, length-replicate) (omega arith)

-- the first k are zero
pub zero_below : (n k : ℕ) (xs : List ℕ) → n ≤ k → ZeroBelow n (zeroed k xs)
zero_below n k xs l i m =
    get_or-append (replicate k 0) (drop k xs) 0 i (omega (arith, length-replicate {A = ℕ} k 0)) ∙ get_or-replicate k i 0 0 (omega arith)

-- the rest is as it was
pub zeroed_past : (k : ℕ) (xs : List ℕ) (i : ℕ) → k ≤ i → get_or (zeroed k xs) i 0 ≡ get_or xs i 0
zeroed_past k xs i l = past k (replicate k 0) xs i (length-replicate {A = ℕ} k 0) l

pub drop-zeroed : (k : ℕ) (xs : List ℕ) → drop k (zeroed k xs) ≡ drop k xs
drop-zeroed k xs = drop_at (replicate k 0) (drop k xs) k (length-replicate {A = ℕ} k 0)

-- zeroed again, after only the front was changed
pub zeroed_again : (k : ℕ) (xs u v : List ℕ) → u ≡ zeroed k xs → drop k v ≡ drop k u → zeroed k v ≡ zeroed k xs
zeroed_again k xs u v e f = ap (λ (t : List ℕ). replicate k 0 ++ t) (f ∙ ap (drop k) e ∙ drop-zeroed k xs)

-- ---- filled

pub length-filled : (ys xs : List ℕ) → length ys ≤ length xs → length (filled ys xs) ≡ length xs
length-filled ys xs l = simp (length-append, length-drop) (omega arith)

-- the front holds what it was filled with
pub filled_at : (ys xs : List ℕ) (i : ℕ) → i < length ys → get_or (filled ys xs) i 0 ≡ get_or ys i 0
filled_at ys xs i l = get_or-append ys (drop (length ys) xs) 0 i l

-- the rest is as it was
pub filled_past : (ys xs : List ℕ) (i : ℕ) → length ys ≤ i → get_or (filled ys xs) i 0 ≡ get_or xs i 0
filled_past ys xs i l = past (length ys) ys xs i refl l

pub drop-filled : (ys xs : List ℕ) → drop (length ys) (filled ys xs) ≡ drop (length ys) xs
drop-filled ys xs = drop_at ys (drop (length ys) xs) (length ys) refl

-- ---- filled with a table, from the front

table_suc : (f : ℕ → ℕ) (n : ℕ) (xs : List ℕ) → n < length xs → set (table f n ++ drop n xs) n (f n) ≡ table f (suc n) ++ drop (suc n) xs
unfolding table
table_suc f n [] l = absurd (omega arith)
table_suc f zero (x ∷ xs) l = refl
table_suc f (suc n) (x ∷ xs) l = ap (λ (t : List ℕ). f 0 ∷ t) (table_suc (λ k. f (suc k)) n xs (omega arith))

-- one number more
pub table_more : (f : ℕ → ℕ) (n : ℕ) (xs : List ℕ) → n < length xs → set (table f n ++ drop n xs) n (f n) ≡ table f (n + 1) ++ drop (n
    + 1) xs
table_more f n xs l = let e : n + 1 ≡ suc n = omega arith in rw e (table_suc f n xs l)

-- and all of them
pub table_filled : (f : ℕ → ℕ) (n : ℕ) (xs : List ℕ) → table f n ++ drop n xs ≡ filled (table f n) xs
table_filled f n xs = ap (λ (k : ℕ). table f n ++ drop k xs) (sym (length-table f n))

-- a buffer whose front is a list of n, and whose rest is another's, is the other filled with that list
pub front_filled : (n : ℕ) (ys xs zs : List ℕ) → n ≤ length zs → take n zs ≡ ys → drop n zs ≡ drop n xs → zs ≡ filled ys xs
front_filled n ys xs zs l e f =
    let k : length ys ≡ n = ap length (sym e) ∙ length-take-le n zs l in
    sym (take-append-drop n zs) ∙ rw (e, f, k)
