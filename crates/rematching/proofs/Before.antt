-- 13 comes before 14.
use Rattle.std.proofs.Common.{ℕ, ◌≤◌, ◌≡◌, ap, ◌∙◌, List, le-leb, Err}
use Rattle.graph.specs.Matchings.{Row, Col}
use Rattle.sparse.specs.Refusals.{passed, number_of, place_of, refused_if, first_refusal, repeated_row}
use Rattle.sparse.specs.declared.refusal.Refusal.TheVariants.{ColumnOutside}
use Rattle.sparse.proofs.Refusals.{first_passed, first_refused}
use Rattle.rematching.specs.Checks.{column_outside, late}

outside_refused : (size : ℕ) (e : Col) → size ≤ e → column_outside size e ≡ Err ColumnOutside
unfolding column_outside refused_if
outside_refused size e l = rw (le-leb size e l)

-- a column not below n is refused by 13 at 0, whatever the replacement is
pub column_first : (size : ℕ) (starts : List ℕ) (rows : List Row) (e : Col) (new : List Row) (m : List Col)
    → repeated_row size starts rows ≡ passed → size ≤ e
    → (first_refusal (late size starts rows e new m) ≡ Err ColumnOutside)
    × (number_of (first_refusal (late size starts rows e new m)) ≡ 13)
    × (place_of (first_refusal (late size starts rows e new m)) ≡ 0)
unfolding late
column_first size starts rows e new m p l =
    let first : first_refusal (late size starts rows e new m) ≡ Err ColumnOutside =
    first_passed _ _ p ∙ first_refused _ _ _ (outside_refused size e l) in
    (first, ap number_of first, ap place_of first)
