-- The test of the lent buffers, one after the other, and what it says that they pass.
use Rattle.std.proofs.Common.{ℕ, map, ◌≤◌, ◌≡◌, refl, ap, List, [], ◌∷◌, Bool, true, false, ◌||◌, ltb-false, ltb}
use Rattle.graph.proofs.Bools.{or_left, or_right}
use Rattle.sparse.specs.declared.refusal.Refusal.TheVariants.{NoRoom}
use Rattle.std.specs.List.{list_any}
use Rattle.sparse.specs.Refusals.{passed, as_buffer, Buffer, one_short, no_room, refused_if}
use Rattle.sparse.proofs.Refusals.{if_passed}

-- the test goes through the buffers
pub short_more : (b : Buffer) (bs : List Buffer) → one_short (b ∷ bs) ≡ ltb b.len b.need || one_short bs
unfolding one_short
short_more b bs = refl

-- and ends with the last
pub short_last : (b : Buffer) → one_short (b ∷ []) ≡ ltb b.len b.need
unfolding one_short
short_last b = go (ltb b.len b.need)
  where
    go : (t : Bool) → t || false ≡ t
    go true = refl
    go false = refl

-- where they pass, the one at the front is as long as its need
pub room_head : (b : Buffer) (bs : List Buffer) → no_room (b ∷ bs) ≡ passed → b.need ≤ b.len
unfolding no_room one_short
room_head b bs e = ltb-false _ _ (or_left (ltb b.len b.need) (one_short bs) (if_passed NoRoom _ e))

-- and the rest pass too
pub room_tail : (b : Buffer) (bs : List Buffer) → no_room (b ∷ bs) ≡ passed → no_room bs ≡ passed
unfolding no_room one_short refused_if
room_tail b bs e = rw (or_right (ltb b.len b.need) (one_short bs) (if_passed NoRoom _ e))

-- a list of lengths and needs, tested one by one, is the test of the buffers
pub short_pairs : (xs : List (ℕ × ℕ)) → list_any (λ b. ltb b.0 b.1) xs ≡ one_short (map as_buffer xs)
unfolding one_short
short_pairs [] = refl
short_pairs (x ∷ xs) = ap (λ (t : Bool). ltb x.0 x.1 || t) (short_pairs xs)
