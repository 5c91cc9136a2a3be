-- The edited matrix: how many entries it has, that there is room for them, and that no column has a row twice.
use Rattle.std.proofs.Common.{ℕ, ◌≤◌, ◌<◌, ◌≡◌, sym, subst, List, arith, length}
use native.Mathlib.Decide.{ℕ_discrete, dec_lt}
use Rattle.graph.specs.Lists.{Once}
use Rattle.graph.specs.Matchings.{Row, Col}
use Rattle.graph.proofs.Edits.{edited_same, edited_other}
use Rattle.sparse.specs.Limits.{max_entries}
use Rattle.sparse.specs.Matrix.{column, column_or, Shaped, Valid}
use Rattle.sparse.proofs.Matrix.{column_end, column_beyond}
use Rattle.blocks.specs.Reverse.{entries}
use Rattle.blocks.proofs.Entries.{entries_edited}
use Rattle.rematching.specs.Checks.{edited_entries, Editable}
use Rattle.rematching.proofs.Replacements.{unfit_few, fit_passes}
use Rattle.edit.specs.Outcome.{edit_entries}

-- ---- entries

-- the edited matrix has as many entries as the late 1 counts
pub entries_counted : {size : ℕ} {starts rows : List ℕ} (e : Col) (new : List Row) → Shaped size starts rows → e < size
    → entries size (column_or starts rows e new) ≡ edited_entries starts rows e new
entries_counted e new S l = omega (arith, entries_edited e new S l, column_end S e l)

-- a replacement has at most n rows, since none stands twice
pub replacement_few : {size : ℕ} {starts rows : List ℕ} {e : Col} {new : List Row} {m : List Col}
    → Editable size starts rows e new m → length new ≤ size
replacement_few {size} {new = new} E = unfit_few size new (fit_passes size new E.new_below E.new_once)

-- so there is room for the entries
pub entries_roomy : {size : ℕ} {starts rows : List ℕ} {e : Col} {new : List Row} {m : List Col} → Shaped size starts rows
    → Editable size starts rows e new m → entries size (column_or starts rows e new) ≤ edit_entries size rows
entries_roomy {e = e} {new = new} S E = omega (arith, entries_edited e new S E.below, replacement_few E)

-- which are within the limit
pub entries_few : {size : ℕ} {starts rows : List ℕ} {e : Col} {new : List Row} {m : List Col} → Shaped size starts rows
    → Editable size starts rows e new m → entries size (column_or starts rows e new) ≤ max_entries
entries_few {e = e} {new = new} S E = omega (arith, entries_counted e new S E.below, E.few)

-- ---- columns

-- no column of the edited matrix has a row twice
pub edited_once : {size : ℕ} {starts rows : List ℕ} (e : Col) (new : List Row) → Valid size starts rows → Once new → (c : Col)
    → Once (column_or starts rows e new c)
edited_once {size} {starts} {rows} e new G o c = go (ℕ_discrete c e)
  where
    old : Dec (c < size) → Once (column starts rows c)
    old (yes l) = G.once c l
    old (no l) = rw (column_beyond G.shaped c (omega arith)) tt

    go : Dec (c ≡ e) → Once (column_or starts rows e new c)
    go (yes z) = subst (λ x. Once (column_or starts rows e new x)) (sym z) (rw (edited_same (column starts rows) e new) o)
    go (no ne) = rw (edited_other (column starts rows) e new c ne) (old (dec_lt c size))
