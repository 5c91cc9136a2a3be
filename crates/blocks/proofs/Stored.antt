-- Blocks put into two slices are read back as they were, and if they are a block form, that is what stands there.
use Rattle.std.proofs.Common.{ℕ, zero, suc, ◌+◌, ◌-◌, ◌<◌, ◌≤◌, ◌≡◌, refl, ap, ◌∙◌, List, [], ◌∷◌, ◌++◌, map, append_assoc, arith}
use Rattle.std.proofs.Common.{length, get_or, drop, replicate, length-append}
use mathlib.Core.List.{flatten}
use lib.ListN.{get_or-append}
use lib.Seq.{slice, take-append-add, take-append_seam, drop-append_seam}
use Rattle.graph.specs.Lists.{Mem, table, range}
use Rattle.graph.specs.Matchings.{Col}
use Rattle.graph.specs.Permutations.{Permutes}
use Rattle.graph.specs.Blocks.{block, BlockForm}
use Rattle.graph.proofs.Lists.{mem_get_or}
use Rattle.graph.proofs.Permutations.{permutes_agree}
use Rattle.sparse.specs.Buffers.{filled}
use Rattle.sparse.proofs.Buffers.{filled_at}
use Rattle.blocks.specs.Form.{columns_of, starts_from, starts_of, block_starts, stored_block, stored_blocks, StoredForm}

-- ---- the starts

-- there is one start more than there are blocks
pub length_starts : (at : ℕ) (bs : List (List Col)) → length (starts_from at bs) ≡ length bs + 1
length_starts at [] = refl
length_starts at (b ∷ bs) = omega (arith, length_starts (at + length b) bs)

-- the first is where the first block starts
pub starts_first : (at : ℕ) (bs : List (List Col)) → get_or (starts_from at bs) 0 0 ≡ at
starts_first at [] = refl
starts_first at (b ∷ bs) = refl

-- each is as far behind the one before as that block is long
pub starts_next : (at : ℕ) (bs : List (List Col)) (i : ℕ) → i < length bs
    → get_or (starts_from at bs) (suc i) 0 ≡ get_or (starts_from at bs) i 0 + length (block bs i)
starts_next at [] i l = absurd (omega arith)
starts_next at (b ∷ bs) zero l = starts_first (at + length b) bs
starts_next at (b ∷ bs) (suc i) l = starts_next (at + length b) bs i (omega arith)

-- the last is behind all the columns
pub starts_last : (at : ℕ) (bs : List (List Col)) → get_or (starts_from at bs) (length bs) 0 ≡ at + length (flatten bs)
unfolding flatten
starts_last at [] = omega arith
starts_last at (b ∷ bs) = omega (arith, starts_last (at + length b) bs, length-append b (flatten bs))

-- ---- the blocks between them

-- the middle of three lists
middle : (front b back : List ℕ) → slice (length front) (length front + length b) (front ++ (b ++ back)) ≡ b
middle front b back =
    ap (drop (length front)) (take-append-add front (b ++ back) (length b) ∙ ap (λ (t : List ℕ). front ++ t) (take-append_seam b back))
    ∙ drop-append_seam front b

-- from each start up to the next stands the block
stored_at : (front back : List ℕ) (bs : List (List Col)) (at i : ℕ) → at ≡ length front → i < length bs
    → slice (get_or (starts_from at bs) i 0) (get_or (starts_from at bs) (suc i) 0) (front ++ (flatten bs ++ back)) ≡ block bs i
unfolding flatten
stored_at front back [] at i e l = absurd (omega arith)
stored_at front back (b ∷ bs) at zero e l =
    rw (starts_first (at + length b) bs, append_assoc b (flatten bs) back, e) (middle front b (flatten bs ++ back))
stored_at front back (b ∷ bs) at (suc i) e l =
    rw (append_assoc b (flatten bs) back, ← append_assoc front b (flatten bs ++ back))
    (stored_at (front ++ b) back bs (at + length b) i (omega (arith, length-append front b)) (omega arith))

-- ---- the slices read back

-- a list is known by what stands at each place
mapped : (f : ℕ → List ℕ) (g : ℕ → ℕ) (bs : List (List ℕ)) → ((i : ℕ) → i < length bs → f (g i) ≡ get_or bs i [])
    → map f (table g (length bs)) ≡ bs
unfolding table
mapped f g [] h = refl
mapped f g (b ∷ bs) h = rw (h 0 (omega arith), mapped f (λ k. g (suc k)) bs (λ i l. h (suc i) (omega arith)))

-- the front of the starts' slice holds the starts
start_at : (n : ℕ) (bs : List (List Col)) (y : List ℕ) (i : ℕ) → i ≤ length bs
    → get_or (filled (block_starts n bs) y) i 0 ≡ get_or (starts_of bs) i 0
start_at n bs y i l =
    let short : i < length (starts_of bs) = omega (arith, length_starts 0 bs) in
    filled_at (block_starts n bs) y i (omega (arith, length-append (starts_of bs) (replicate (n - length bs) 0)))
    ∙ get_or-append (starts_of bs) (replicate (n - length bs) 0) 0 i short

-- blocks put into two slices are read back
pub read_back : (n : ℕ) (bs : List (List Col)) (x y : List ℕ)
    → stored_blocks (filled (columns_of bs) x) (filled (block_starts n bs) y) (length bs) ≡ bs
unfolding range
read_back n bs x y = mapped (stored_block (filled (columns_of bs) x) (filled (block_starts n bs) y)) (λ k. k) bs (λ i l.
    let one : i + 1 ≡ suc i = omega arith in
    rw (one, start_at n bs y i (omega arith), start_at n bs y (suc i) (omega arith))
    (stored_at [] (drop (length (flatten bs)) x) bs 0 i refl l))

-- ---- the form

-- a block form of n columns, none of its blocks empty, is a stored form once it is put into two slices
pub stored_form : (n : ℕ) (Edge : Col → Col → Type 0) (bs : List (List Col)) (x y : List ℕ) → BlockForm n Edge bs
    → Permutes n (flatten bs) → length (flatten bs) ≡ n → ((i : ℕ) → i < length bs → (c : Col) × Mem c (block bs i))
    → StoredForm n Edge (filled (columns_of bs) x) (filled (block_starts n bs) y) (length bs)
stored_form n Edge bs x y B P e some = record {
  form = rw (read_back n bs x y) B;
  permutes = permutes_agree (filled (columns_of bs) x) P (λ i l. filled_at (columns_of bs) x i (omega (arith, e)));
  from_zero = start_at n bs y 0 (omega arith) ∙ starts_first 0 bs;
  rising = λ i l.
      let one : i + 1 ≡ suc i = omega arith in
      let t = some i l in
      rw (one, start_at n bs y i (omega arith), start_at n bs y (suc i) (omega arith))
      (omega (arith, starts_next 0 bs i l, (mem_get_or (block bs i) t.0 t.1).1));
  to_end = start_at n bs y (length bs) (omega arith) ∙ omega (arith, starts_last 0 bs, e);
}
