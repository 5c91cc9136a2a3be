-- A valid pattern passes: the other direction of what passed checks say.
use Rattle.std.proofs.Common.{ℕ, ◌+◌, ◌-◌, ◌<◌, ◌≤◌, ◌≡◌, refl, sym, ap, ◌∙◌, List, [], ◌∷◌, arith, le-ltb, eq-eqb, length, get_or}
use borrow.Author.Tests.{lt-leb}
use Rattle.graph.specs.Lists.{Once}
use Rattle.graph.specs.Matchings.{Col}
use Rattle.graph.proofs.Bools.{is_false}
use Rattle.graph.proofs.Concatenation.{once_places}
use Rattle.graph.proofs.Counting.{some_none}
use Rattle.sparse.specs.Limits.{max_size, max_entries}
use Rattle.sparse.specs.Matrix.{Shaped, RowsBelow, column, width}
use Rattle.sparse.specs.declared.refusal.Refusal.TheVariants.{RowOutside, RepeatedRow, EmptyColumn}
use Rattle.sparse.specs.Refusals.{passed, as_column, refused_if, too_large, misshapen, no_room, row_outside}
use Rattle.sparse.specs.Refusals.{falls_at, Buffer, one_short, outside_at}
use Rattle.sparse.specs.Refusals.{repeated_row, repeats_at, empty_column, empty_at}
use Rattle.sparse.proofs.Refusals.{refused_none}
use Rattle.sparse.proofs.Repeats.{Repeat, repeat_is}
use Rattle.sparse.proofs.Room.{short_more}
use Rattle.sparse.proofs.Matrix.{column_at, column_length}

pub size_passes : (size : ℕ) (rows : List ℕ) → size ≤ max_size → length rows ≤ max_entries → too_large size rows ≡ passed
unfolding too_large refused_if
size_passes size rows l m = rw (le-ltb max_size size l, le-ltb max_entries (length rows) m)

pub shape_passes : {size : ℕ} {starts rows : List ℕ} → Shaped size starts rows → misshapen size starts rows ≡ passed
unfolding misshapen refused_if
shape_passes {size} {starts} {rows} s =
    rw (
      eq-eqb (length starts) (size + 1) s.starts_length,
      eq-eqb (get_or starts 0 0) 0 s.from_zero,
      some_none (falls_at starts) size (λ c l. le-ltb (get_or starts (c + 1) 0) (get_or starts c 0) (s.rising c l)),
      eq-eqb (get_or starts size 0) (length rows) s.to_end,
    )

-- buffers that are long enough pass one after the other
pub room_none : no_room [] ≡ passed
unfolding no_room one_short refused_if
room_none = refl

pub room_more : (b : Buffer) (bs : List Buffer) → b.need ≤ b.len → no_room bs ≡ passed → no_room (b ∷ bs) ≡ passed
unfolding no_room refused_if
room_more b bs l e = rw (short_more b bs, le-ltb b.len b.need l) e

pub rows_pass : (size : ℕ) (rows : List ℕ) → RowsBelow rows size → row_outside size rows ≡ passed
unfolding row_outside
rows_pass size rows b = refused_none RowOutside (outside_at size rows) (length rows) (λ k l. lt-leb size (get_or rows k 0) (b k l))

-- columns without repeats pass
pub repeats_pass : {size : ℕ} {starts rows : List ℕ} → Shaped size starts rows → ((c : Col) → c < size → Once (column starts rows c))
    → repeated_row size starts rows ≡ passed
unfolding repeated_row
repeats_pass {size} {starts} {rows} s once =
    refused_none RepeatedRow (repeats_at size starts rows) (length rows) (λ k l. is_false _ (λ t. clash k (repeat_is size starts rows k t)))
  where
    -- the row at a place of a column, from the column's start
    row : (c : Col) (i : ℕ) → get_or starts c 0 ≤ i → i < get_or starts (c + 1) 0
        → get_or (column starts rows c) (i - get_or starts c 0) 0 ≡ get_or rows i 0
    row c i l m =
        let e : get_or starts c 0 + (i - get_or starts c 0) ≡ i = omega arith in
        column_at starts rows c (i - get_or starts c 0) (omega arith) ∙ ap (λ (j : ℕ). get_or rows j 0) e

    clash : (k : ℕ) → Repeat size starts rows k → ⊥
    clash k r =
        let c = r.col in
        let long = column_length s c r.below in
        let e = once_places (column starts rows c) (once c r.below) (r.place - get_or starts c 0) (k - get_or starts c 0)
        (omega (arith, long, r.from, r.earlier, r.to)) (omega (arith, long, r.from, r.earlier, r.to))
        (row c r.place r.from (omega (arith, r.earlier, r.to)) ∙ r.same
        ∙ sym (row c k (omega (arith, r.from, r.earlier)) r.to)) in
        omega (arith, e, r.from, r.earlier)

pub columns_pass : (size : ℕ) (starts : List ℕ) → ((c : Col) → c < size → 0 < width starts c) → empty_column size starts ≡ passed
unfolding empty_column
columns_pass size starts some =
    refused_none (λ c. EmptyColumn (as_column c)) (empty_at starts) size
    (λ c l. lt-leb (get_or starts (c + 1) 0) (get_or starts c 0) (omega (arith, some c l)))
