-- The edit of one column: a failed search leaves a Hall set, and a found path is all that changes of the matching.
use Rattle.std.proofs.Common.{ℕ, ◌≤◌, ◌<◌, ◌≡◌, refl, sym, ap, ◌∙◌, ◌≢◌, List, [], arith, eq-eqb, ne_eqb, length, length-set}
use Rattle.std.proofs.Common.{get_or-set_same, get_or-set_other}
use native.Mathlib.Decide.{ℕ_discrete}
use Rattle.graph.specs.Lists.{Mem}
use Rattle.graph.specs.Counting.{preimage}
use Rattle.graph.specs.Matchings.{Row, Col, Pattern, Entry, Inside, Perfect, Partial, partner}
use Rattle.graph.specs.Paths.{Alternating, augment, failed, found}
use Rattle.graph.specs.Edits.{edited, former, freed}
use Rattle.graph.proofs.Matchings.{Matched, Unmatched, row_of, full_perfect}
use Rattle.graph.proofs.Paths.{Augmented, augmented, augment_other, augment_last, path_agree, path_end, path_rows, path_free}
use Rattle.graph.proofs.Search.{Visit, visit_found, Refused, visit_refuses}

-- the edited column is the new one
pub edited_same : (col : Pattern) (c₀ : Col) (new : List Row) → edited col c₀ new c₀ ≡ new
edited_same col c₀ new = rw (eq-eqb c₀ c₀ refl)

-- the others are as they were
pub edited_other : (col : Pattern) (c₀ : Col) (new : List Row) (c : Col) → c ≢ c₀ → edited col c₀ new c ≡ col c
edited_other col c₀ new c h = rw (ne_eqb c c₀ h)

-- ---- the matching with the former row of the column free

-- a perfect matching, a column to edit, and the number of a free row
record Before (n : ℕ) (col : Pattern) (m : List Col) (c₀ x : Col) : Type 0 where
  sized : length m ≡ n
  perfect : Perfect n col (partner m)
  below : c₀ < n
  outside : n ≤ x

-- that row is below n, and has column c₀
former_is : {n : ℕ} {col : Pattern} {m : List Col} {c₀ x : Col} → Before n col m c₀ x
    → (former n m c₀ < n) × (partner m (former n m c₀) ≡ c₀)
former_is {c₀ = c₀} B = row_of B.perfect c₀ B.below

-- it is free now
freed_same : {n : ℕ} {col : Pattern} {m : List Col} {c₀ x : Col} → Before n col m c₀ x → partner (freed n m c₀ x) (former n m c₀) ≡ x
freed_same {n} {m = m} {c₀ = c₀} {x = x} B = get_or-set_same m (former n m c₀) x 0 (omega (arith, B.sized, (former_is B).0))

-- the others are as they were
freed_other : (n : ℕ) (m : List Col) (c₀ x : Col) (r : Row) → r ≢ former n m c₀ → partner (freed n m c₀ x) r ≡ partner m r
freed_other n m c₀ x r h = get_or-set_other m (former n m c₀) r x 0 h

-- a row that still has a column is not the former row, and has the column it had, which is not c₀
record Kept (n : ℕ) (m : List Col) (c₀ x : Col) (r : Row) : Type 0 where
  not_former : r ≢ former n m c₀
  same : partner (freed n m c₀ x) r ≡ partner m r
  not_edited : partner m r ≢ c₀

freed_kept : {n : ℕ} {col : Pattern} {m : List Col} {c₀ x : Col} → Before n col m c₀ x
    → (r : Row) → r < n → partner (freed n m c₀ x) r < n → Kept n m c₀ x r
freed_kept {n} {col} {m} {c₀} {x} B r l h =
    let t = former_is B in
    let ne : r ≢ former n m c₀ = λ z. omega (arith, freed_same B, ap (partner (freed n m c₀ x)) z) in
    record {
      not_former = ne;
      same = freed_other n m c₀ x r ne;
      not_edited = λ z. ne (B.perfect.once r (former n m c₀) l t.0 (z ∙ sym t.1));
    }

-- what is left is a matching of the edited pattern
freed_partial : {n : ℕ} {col : Pattern} {m : List Col} {c₀ x : Col} → Before n col m c₀ x
    → (new : List Row) → Partial n (edited col c₀ new) (partner (freed n m c₀ x))
freed_partial {n} {col} {m} {c₀} {x} B new = record { on = on; once = once }
  where
    m₀ : List Col
    m₀ = freed n m c₀ x

    on : (r : Row) → r < n → partner m₀ r < n → Entry (edited col c₀ new) (partner m₀ r) r
    on r l h =
        let k = freed_kept B r l h in
        rw (k.same, edited_other col c₀ new (partner m r) k.not_edited) (B.perfect.on r l)

    once : (r s : Row) → r < n → s < n → partner m₀ r < n → partner m₀ r ≡ partner m₀ s → r ≡ s
    once r s j l h e =
        let k = freed_kept B r j h in
        let i = freed_kept B s l (rw e at h) in
        B.perfect.once r s j l (sym k.same ∙ e ∙ i.same)

-- the edited column has no row
freed_unmatched : {n : ℕ} {col : Pattern} {m : List Col} {c₀ x : Col} → Before n col m c₀ x → Unmatched n (partner (freed n m c₀ x)) c₀
freed_unmatched B r l z = let k = freed_kept B r l (rw z B.below) in k.not_edited (sym k.same ∙ z)

-- every other column has one
freed_matched : {n : ℕ} {col : Pattern} {m : List Col} {c₀ x : Col} → Before n col m c₀ x
    → (b : Col) → b < n → b ≢ c₀ → Matched n (partner (freed n m c₀ x)) b
freed_matched {n} {col} {m} {c₀} {x} B b l h =
    let r = preimage (partner m) n b in
    let t = row_of B.perfect b l in
    (r, t.0, freed_other n m c₀ x r (λ z. h (sym t.1 ∙ ap (partner m) z ∙ (former_is B).1)) ∙ t.1)

-- no other row is free
freed_only : {n : ℕ} {col : Pattern} {m : List Col} {c₀ x : Col} → Before n col m c₀ x
    → (r : Row) → r < n → n ≤ partner (freed n m c₀ x) r → r ≡ former n m c₀
freed_only {n} {col} {m} {c₀} {x} B r l h = go (ℕ_discrete r (former n m c₀))
  where
    go : Dec (r ≡ former n m c₀) → r ≡ former n m c₀
    go (yes z) = z
    go (no z) = absurd (omega (arith, freed_other n m c₀ x r z, B.perfect.inside r l))

-- once column c₀ gains a row, and no column loses its own, every column has one
freed_full : {n : ℕ} {col col' : Pattern} {m g : List Col} {c₀ x : Col} → Before n col m c₀ x
    → Augmented n col' (freed n m c₀ x) c₀ g → (b : Col) → b < n → Matched n (partner g) b
freed_full {n} {g = g} {c₀ = c₀} B A b l = go (ℕ_discrete b c₀)
  where
    go : Dec (b ≡ c₀) → Matched n (partner g) b
    go (yes z) = rw z A.gains
    go (no z) = A.keeps b l (freed_matched B b l z)

-- ---- the edit

-- a failed search for the edited column leaves a Hall set of the edited pattern, which has no perfect matching
pub edit_refused : {n : ℕ} {col : Pattern} {c₀ : Col} {h : List Col} (m : List Col) (new : List Row) (x : Col)
    → length m ≡ n → Perfect n col (partner m) → c₀ < n → n ≤ x → Inside n (edited col c₀ new)
    → Visit n (edited col c₀ new) (freed n m c₀ x) [] c₀ h failed → Refused n (edited col c₀ new) h
edit_refused {n} {col} {c₀} m new x size M l o I v =
    let B : Before n col m c₀ x = record { sized = size; perfect = M; below = l; outside = o } in
    visit_refuses I (freed_partial B new) l (freed_unmatched B) v

-- matching m moved along the rows p to row e is perfect for the edited pattern: all that changed lies on that path
pub record Rematched (n : ℕ) (col : Pattern) (m : List Col) (c₀ : Col) (p : List Row) (e : Row) : Type 0 where
  pub ends : e ≡ former n m c₀
  pub path : Alternating n col m e c₀ p
  pub from_freed : (x : Col) → augment (freed n m c₀ x) c₀ p e ≡ augment m c₀ p e
  pub perfect : Perfect n col (partner (augment m c₀ p e))
  pub others : (r : Row) → ¬ Mem r p → r ≢ e → partner (augment m c₀ p e) r ≡ partner m r

-- a found path leads to the former row of the edited column, and moving the matching along it makes it perfect again
pub edit_accepted : {n : ℕ} {col : Pattern} {c₀ : Col} {t : List Col} {p : List Row} {e : Row} (m : List Col) (new : List Row) (x : Col)
    → length m ≡ n → Perfect n col (partner m) → c₀ < n → n ≤ x → Inside n (edited col c₀ new)
    → Visit n (edited col c₀ new) (freed n m c₀ x) [] c₀ t (found p e) → Rematched n (edited col c₀ new) m c₀ p e
edit_accepted {n} {col} {c₀} {t} {p} {e} m new x size M l o I v =
    let B : Before n col m c₀ x = record { sized = size; perfect = M; below = l; outside = o } in
    let m₀ = freed n m c₀ x in
    let P = visit_found I v in
    let a = P.alternating in
    let ends : e ≡ former n m c₀ = freed_only B e (path_end a) P.ends_free in
    let kept : (r : Row) → Mem r p → partner m₀ r ≡ partner m r = λ r i. let q = path_rows a r i in (freed_kept B r q.0 q.1).same in
    let sized : length m₀ ≡ n = length-set m (former n m c₀) x ∙ size in
    let A = augmented sized (freed_partial B new) l (freed_unmatched B) P.ends_free a in
    let off : ¬ Mem e p = path_free a e P.ends_free in
    let same : (y : Col) → augment (freed n m c₀ y) c₀ p e ≡ augment m c₀ p e = λ y. rw (← ends) (augment_last p m c₀ e y off) in
    record {
      ends = ends;
      path = path_agree kept a;
      from_freed = same;
      perfect = rw (same x) at (full_perfect A.partial (freed_full B A));
      others = augment_other p m c₀ e;
    }
