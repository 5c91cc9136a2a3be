-- A pattern in storage, with a column replaced or none, is one that a search may be made in.
use Rattle.std.proofs.Common.{ℕ, ◌≤◌, ◌<◌, ◌≡◌, sym, subst, ◌⊎◌, ⊎_elim, List, arith, length}
use native.Mathlib.Decide.{ℕ_discrete, dec_lt}
use Rattle.graph.specs.Lists.{Mem}
use Rattle.graph.specs.Matchings.{Row, Col, Inside}
use Rattle.graph.proofs.Edits.{edited_same, edited_other}
use Rattle.graph.proofs.Lists.{mem_get_or}
use Rattle.sparse.specs.Limits.{max_entries}
use Rattle.sparse.specs.Matrix.{column, column_or, Shaped, RowsBelow}
use Rattle.sparse.proofs.Matrix.{inside, column_length, column_end, column_beyond}

-- what holds of the replacement at column e, and of each other column's rows, holds of each column's rows
columns : (P : Col → List Row → Type 0) (starts : List ℕ) (rows : List Row) (e : Col) (new : List Row)
    → P e new → ((c : Col) → P c (column starts rows c)) → (c : Col) → P c (column_or starts rows e new c)
columns P starts rows e new here other c = go (ℕ_discrete c e)
  where
    go : Dec (c ≡ e) → P c (column_or starts rows e new c)
    go (yes z) = subst (λ x. P x (column_or starts rows e new x)) (sym z) (rw (edited_same (column starts rows) e new) here)
    go (no ne) = rw (edited_other (column starts rows) e new c ne) (other c)

-- every entry is inside, where the column replaced is one, or nothing replaces it
pub inside_or : {size : ℕ} {starts rows : List ℕ} (e : Col) (new : List Row) → Shaped size starts rows → RowsBelow rows size
    → RowsBelow new size → (e < size) ⊎ (length new ≡ 0) → Inside size (column_or starts rows e new)
inside_or {size} {starts} {rows} e new S low below given = record {
  row_below = columns (λ c rs. (r : Row) → Mem r rs → r < size) starts rows e new
      (λ r i. let t = mem_get_or new r i in subst (λ x. x < size) t.2 (below t.0 t.1)) (λ c r i. (inside S low).row_below c r i);
  col_below = columns (λ c rs. (r : Row) → Mem r rs → c < size) starts rows e new
      (λ r i. let t = mem_get_or new r i in ⊎_elim (λ l. l) (λ z. absurd (omega (arith, t.1))) given) (λ c r i. (inside S low).col_below c
      r i);
}

-- no column is longer than the largest number of entries
pub column_short : {size : ℕ} {starts rows : List ℕ} → Shaped size starts rows → (c : Col) → length (column starts rows c) ≤ max_entries
column_short {size} {starts} {rows} S c = go (dec_lt c size)
  where
    go : Dec (c < size) → length (column starts rows c) ≤ max_entries
    go (yes l) = omega (arith, column_length S c l, column_end S c l, S.few)
    go (no l) = rw (column_beyond S c (omega arith)) (omega arith)

-- nor one that replaces a column
pub short_or : {size : ℕ} {starts rows : List ℕ} (e : Col) (new : List Row) → Shaped size starts rows → length new ≤ max_entries
    → (c : Col) → length (column_or starts rows e new c) ≤ max_entries
short_or {size} {starts} {rows} e new S few = columns (λ c rs. length rs ≤ max_entries) starts rows e new few (column_short S)
