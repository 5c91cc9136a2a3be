-- That 5 comes before 3; what 1, 2, 5 and 3 let through, and that they let it through.
use Rattle.std.proofs.Common.{ℕ, ◌≤◌, ◌≡◌, sym, ap, ◌∙◌, ⊎_elim, List, [], ◌∷◌, true, arith, Err}
use Rattle.sparse.specs.Matrix.{Shaped, RowsBelow}
use Rattle.sparse.specs.declared.refusal.Refusal.TheVariants.{TooLarge, Misshapen, RowOutside, RepeatedRow, NoRoom}
use Rattle.sparse.specs.Refusals.{passed, number, number_of, place_of, refused_if, first_refusal, Buffer, one_short, no_room, Roomy, early}
use Rattle.sparse.specs.Refusals.{too_large, misshapen, row_outside, repeated_row}
use Rattle.sparse.specs.declared.refusal.Refusal.{Refusal}
use Rattle.sparse.proofs.Refusals.{first_passed, first_last, head_passed, tail_passed, which, number_if, number_at}
use Rattle.sparse.proofs.Room.{room_head, room_tail}
use Rattle.sparse.proofs.Matrix.{shaped, rows_below}
use Rattle.sparse.proofs.Passing.{size_passes, shape_passes, room_none, room_more, rows_pass}

-- where 1 and 2 pass and a buffer is short the refusal is 5 at 0, whatever the rows are: so 5 comes before 3
pub room_first : (size : ℕ) (starts rows : List ℕ) (buffers : List Buffer) → too_large size rows ≡ passed
    → misshapen size starts rows ≡ passed → one_short buffers ≡ true
    → (first_refusal (early size starts rows buffers) ≡ Err NoRoom)
    × (number_of (first_refusal (early size starts rows buffers)) ≡ 5)
    × (place_of (first_refusal (early size starts rows buffers)) ≡ 0)
unfolding first_refusal refused_if no_room early
room_first size starts rows buffers p q e =
    let first : first_refusal (early size starts rows buffers) ≡ Err NoRoom = rw (p, q, e) in
    (first, ap number_of first, ap place_of first)

-- buffers that pass are as long as their needs
pub roomy : (bs : List Buffer) → no_room bs ≡ passed → Roomy bs
roomy [] e = tt
roomy (b ∷ bs) e = (room_head b bs e, roomy bs (room_tail b bs e))

-- and those that are pass
pub roomy_passes : (bs : List Buffer) → Roomy bs → no_room bs ≡ passed
roomy_passes [] r = room_none
roomy_passes (b ∷ bs) r = room_more b bs r.0 (roomy_passes bs r.1)

-- a pattern of the right shape whose rows are below n, and room in every buffer
pub record Early (size : ℕ) (starts rows : List ℕ) (buffers : List Buffer) : Type 0 where
  pub shaped : Shaped size starts rows
  pub below : RowsBelow rows size
  pub room : Roomy buffers

-- what 1, 2, 5 and 3 let through is such
pub early_passed : (size : ℕ) (starts rows : List ℕ) (buffers : List Buffer)
    → first_refusal (early size starts rows buffers) ≡ passed → Early size starts rows buffers
unfolding early
early_passed size starts rows buffers e =
    let shape = tail_passed _ _ e in
    let room = tail_passed _ _ shape in
    record {
      shaped = shaped size starts rows (head_passed _ _ e) (head_passed _ _ shape);
      below = rows_below size rows (head_passed _ _ (tail_passed _ _ room));
      room = roomy buffers (head_passed _ _ room);
    }

-- and whatever is such they let through
pub early_passes : {size : ℕ} {starts rows : List ℕ} (buffers : List Buffer) → Shaped size starts rows → RowsBelow rows size
    → Roomy buffers → first_refusal (early size starts rows buffers) ≡ passed
unfolding early
early_passes {size} {starts} {rows} buffers s b r =
    first_passed _ _ (size_passes size rows s.small s.few) ∙ first_passed _ _ (shape_passes s)
    ∙ first_passed _ _ (roomy_passes buffers r) ∙ first_last _ ∙ rows_pass size rows b

-- what they refuse has a number of theirs
pub early_number : (size : ℕ) (starts rows : List ℕ) (buffers : List Buffer) (r : Refusal)
    → first_refusal (early size starts rows buffers) ≡ Err r → number r ≤ 5
unfolding early too_large misshapen no_room row_outside
early_number size starts rows buffers r e =
    ⊎_elim (λ f. omega (arith, number_if TooLarge _ r f)) (λ e₁.
    ⊎_elim (λ f. omega (arith, number_if Misshapen _ r f)) (λ e₂.
    ⊎_elim (λ f. omega (arith, number_if NoRoom _ r f)) (λ e₃. omega (arith, number_at RowOutside _ _ r (sym (first_last _) ∙ e₃)))
    (which _ _ r e₂)) (which _ _ r e₁)) (which _ _ r e)

-- what 4 refuses has number 4
pub repeats_number : (size : ℕ) (starts rows : List ℕ) (r : Refusal) → repeated_row size starts rows ≡ Err r → number r ≡ 4
unfolding repeated_row
repeats_number size starts rows r e = number_at RepeatedRow _ _ r e
