-- The table's numbers and places, written out: one refusal of each kind, with what it is to say.
use Rattle.std.specs.Prelude.{ℕ, List, [], ◌∷◌}
use Rattle.sparse.specs.Refusals.{as_column, as_row}
use Rattle.sparse.specs.declared.refusal.Refusal.{Refusal}
use Rattle.sparse.specs.declared.refusal.Refusal.TheVariants.{TooLarge, Misshapen, RowOutside, RepeatedRow, NoRoom, EmptyColumn}
use Rattle.sparse.specs.declared.refusal.Refusal.TheVariants.{Unmatchable, ColumnOutside, UnfitRow, MismatchedRow}

-- a line of the table: a refusal, its number and its place
pub record Line : Type 0 where
  pub refusal : Refusal
  pub number : ℕ
  pub place : ℕ

-- the line of these
abbrev line : Refusal → ℕ → ℕ → Line
line refusal number place = record { refusal = refusal; number = number; place = place }

-- the table: a refusal that speaks of a place at that place, the others at 0
abbrev pub refusal_table : ℕ → List Line
refusal_table k =
    line TooLarge 1 0
    ∷ line Misshapen 2 0
    ∷ line (RowOutside k) 3 k
    ∷ line (RepeatedRow k) 4 k
    ∷ line NoRoom 5 0
    ∷ line (EmptyColumn (as_column k)) 8 k
    ∷ line (Unmatchable (as_column k)) 9 k
    ∷ line ColumnOutside 13 0
    ∷ line (UnfitRow k) 14 k
    ∷ line (MismatchedRow (as_row k)) 15 k
    ∷ []
