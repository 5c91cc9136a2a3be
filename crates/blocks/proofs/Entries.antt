-- How many entries a matrix in storage has, as it stands and with one column replaced.
use Rattle.std.proofs.Common.{ℕ, zero, suc, ◌+◌, ◌≤◌, ◌<◌, ◌≡◌, sym, ap, ◌∙◌, subst, ⊎_elim, List, eq-or-lt_of_le, arith, length}
use Rattle.std.proofs.Common.{get_or}
use Rattle.graph.specs.Matchings.{Row, Col}
use Rattle.graph.proofs.Edits.{edited_same, edited_other}
use Rattle.sparse.specs.Matrix.{column, column_or, width, Shaped}
use Rattle.sparse.proofs.Matrix.{column_length}
use Rattle.blocks.specs.Reverse.{entries}

-- up to column k there are as many as its start says
entries_to : {n : ℕ} {starts rows : List ℕ} → Shaped n starts rows → (k : ℕ) → k ≤ n
    → entries k (column starts rows) ≡ get_or starts k 0
entries_to S zero l = sym S.from_zero
entries_to {starts = starts} S (suc k) l =
    let next : get_or starts (k + 1) 0 ≡ get_or starts (suc k) 0 = ap (λ x. get_or starts x 0) (omega arith) in
    omega (arith, entries_to S k (omega arith), column_length S k (omega arith), S.rising k (omega arith), next)

-- a matrix as it stands has as many as rows
pub entries_plain : {n : ℕ} {starts rows : List ℕ} → Shaped n starts rows → entries n (column starts rows) ≡ length rows
entries_plain {n} S = entries_to S n (omega arith) ∙ S.to_end

-- column k, if it is not the one replaced, goes from its start to the next
column_step : {n : ℕ} {starts rows : List ℕ} (e : Col) (new : List Row) → Shaped n starts rows → (k : ℕ) → k < n → ¬ (k ≡ e)
    → get_or starts k 0 + length (column_or starts rows e new k) ≡ get_or starts (suc k) 0
column_step {n} {starts} {rows} e new S k l ne =
    let one : k + 1 ≡ suc k = omega arith in
    let next : get_or starts (k + 1) 0 ≡ get_or starts (suc k) 0 = ap (λ x. get_or starts x 0) one in
    omega (arith, ap length (edited_other (column starts rows) e new k ne), column_length S k l, S.rising k l, next)

-- up to the column replaced there are as many as its start says
entries_before : {n : ℕ} {starts rows : List ℕ} (e : Col) (new : List Row) → Shaped n starts rows → (k : ℕ) → k ≤ n → k ≤ e
    → entries k (column_or starts rows e new) ≡ get_or starts k 0
entries_before e new S zero l h = sym S.from_zero
entries_before e new S (suc k) l h =
    omega (arith, entries_before e new S k (omega arith) (omega arith), column_step e new S k l (λ z. omega arith))

-- behind it the replacement takes the place of its rows
entries_behind : {n : ℕ} {starts rows : List ℕ} (e : Col) (new : List Row) → Shaped n starts rows → (k : ℕ) → k ≤ n → e < k
    → entries k (column_or starts rows e new) + width starts e ≡ get_or starts k 0 + length new
entries_behind e new S zero l h = absurd (omega arith)
entries_behind {n} {starts} {rows} e new S (suc k) l h =
    ⊎_elim here (λ q. omega (arith, entries_behind e new S k (omega arith) (omega arith), column_step e new S k l (λ z. omega arith)))
    (eq-or-lt_of_le h)
  where
    here : suc e ≡ suc k → entries (suc k) (column_or starts rows e new) + width starts e ≡ get_or starts (suc k) 0 + length new
    here z =
        let y : e ≡ k = omega arith in
        let one : e + 1 ≡ suc e = omega arith in
        let next : get_or starts (e + 1) 0 ≡ get_or starts (suc e) 0 = ap (λ x. get_or starts x 0) one in
        let own : length (column_or starts rows e new e) ≡ length new = ap length (edited_same (column starts rows) e new) in
        subst (λ x. entries (suc x) (column_or starts rows e new) + width starts e ≡ get_or starts (suc x) 0 + length new) y
        (omega (arith, entries_before e new S e (omega arith) (omega arith), own, S.rising e (omega arith), next))

-- where column e is, there are as many as rows, less those of the column and more those of the replacement
pub entries_edited : {n : ℕ} {starts rows : List ℕ} (e : Col) (new : List Row) → Shaped n starts rows → e < n
    → entries n (column_or starts rows e new) + width starts e ≡ length rows + length new
entries_edited {n} e new S l = omega (arith, entries_behind e new S n (omega arith) l, S.to_end)
