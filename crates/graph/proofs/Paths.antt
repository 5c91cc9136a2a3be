-- Alternating paths, and the matching moved along one (Berge 1957): its first column gains a row, and no column loses its own.
use Rattle.std.proofs.Common.{ℕ, ◌≤◌, ◌<◌, ◌≡◌, refl, sym, ap, ◌∙◌, subst, ◌⊎◌, inl, inr, ◌≢◌, ⊎_elim, List, [], ◌∷◌, arith, length}
use Rattle.std.proofs.Common.{set, length-set, get_or-set_same, get_or-set_other, set-set}
use mathlib.Core.List.Memᴰ
use native.Mathlib.Decide.{ℕ_discrete}
use lib.Seq.{set_comm}
use Rattle.graph.specs.Lists.{Mem, Once}
use Rattle.graph.specs.Matchings.{Row, Col, Pattern, Entry, Partial, partner}
use Rattle.graph.specs.Paths.{Alternating, last, more, augment}
use Rattle.graph.proofs.Matchings.{Matched, Unmatched}

-- ---- the rows of a path

-- the last row is below n
pub path_end : {n : ℕ} {col : Pattern} {m : List Col} {e : Row} {c : Col} {p : List Row} → Alternating n col m e c p → e < n
path_end (last l x) = l
path_end (more l x k new a) = path_end a

-- each row before the last is matched
pub path_rows : {n : ℕ} {col : Pattern} {m : List Col} {e : Row} {c : Col} {p : List Row}
    → Alternating n col m e c p → (r : Row) → Mem r p → (r < n) × (partner m r < n)
path_rows (last l x) r i = absurd (Memᴰ.not-nil i)
path_rows {n} {col} {m} (more l x k new a) r i =
    ⊎_elim (λ z. subst (λ y. (y < n) × (partner m y < n)) (sym z) (l, k)) (λ j. path_rows a r j) (Memᴰ.cases_cons i)

-- no row stands twice before the last
pub path_once : {n : ℕ} {col : Pattern} {m : List Col} {e : Row} {c : Col} {p : List Row} → Alternating n col m e c p → Once p
path_once (last l x) = tt
path_once (more l x k new a) = (path_once a, new)

-- a free row is not among those before the last
pub path_free : {n : ℕ} {col : Pattern} {m : List Col} {e : Row} {c : Col} {p : List Row}
    → Alternating n col m e c p → (r : Row) → n ≤ partner m r → ¬ Mem r p
path_free a r h i = omega (arith, (path_rows a r i).1)

-- what is a path for one matching is a path for each that agrees with it on the rows before the last
pub path_agree : {n : ℕ} {col : Pattern} {m m' : List Col} {e : Row} {c : Col} {p : List Row}
    → ((r : Row) → Mem r p → partner m r ≡ partner m' r) → Alternating n col m e c p → Alternating n col m' e c p
path_agree h (last l x) = last l x
path_agree {n} {col} {m} {m'} {e} h (more {r = r} {rs = rs} l x k new a) =
    let q = h r (Memᴰ.head refl) in
    let rest : Alternating n col m' e (partner m r) rs = path_agree (λ s i. h s (Memᴰ.tail i)) a in
    more l x (rw q at k) new (subst (λ d. Alternating n col m' e d rs) q rest)

-- ---- one move

-- column c, which has no row, may take row r
record Move (n : ℕ) (col : Pattern) (m : List Col) (c : Col) (r : Row) : Type 0 where
  sized : length m ≡ n
  partial : Partial n col (partner m)
  unmatched : Unmatched n (partner m) c
  below : r < n
  entry : Entry col c r

-- row r has column c now
move_same : {n : ℕ} {col : Pattern} {m : List Col} {c : Col} {r : Row} → Move n col m c r → partner (set m r c) r ≡ c
move_same {m = m} {c = c} {r = r} M = get_or-set_same m r c 0 (omega (arith, M.sized, M.below))

-- the other rows have what they had
move_other : (m : List Col) (c : Col) (r s : Row) → s ≢ r → partner (set m r c) s ≡ partner m s
move_other m c r s h = get_or-set_other m r s c 0 h

-- the matching stays one
move_partial : {n : ℕ} {col : Pattern} {m : List Col} {c : Col} {r : Row} → Move n col m c r → Partial n col (partner (set m r c))
move_partial {n} {col} {m} {c} {r} M =
    record { on = λ s k h. on s k h (ℕ_discrete s r); once = λ s t j k h e. once s t j k h e (ℕ_discrete s r) (ℕ_discrete t r) }
  where
    m₁ : List Col
    m₁ = set m r c

    on : (s : Row) → s < n → partner m₁ s < n → Dec (s ≡ r) → Entry col (partner m₁ s) s
    on s k h (yes e) = rw (e, move_same M) M.entry
    on s k h (no ne) = let o = move_other m c r s ne in rw o (M.partial.on s k (rw o at h))

    once : (s t : Row) → s < n → t < n → partner m₁ s < n → partner m₁ s ≡ partner m₁ t → Dec (s ≡ r) → Dec (t ≡ r) → s ≡ t
    once s t j k h e (yes a) (yes b) = a ∙ sym b
    once s t j k h e (yes a) (no b) = absurd (M.unmatched t k (sym (move_other m c r t b) ∙ sym e ∙ ap (partner m₁) a ∙ move_same M))
    once s t j k h e (no a) (yes b) = absurd (M.unmatched s j (sym (move_other m c r s a) ∙ e ∙ ap (partner m₁) b ∙ move_same M))
    once s t j k h e (no a) (no b) =
        let o = move_other m c r s a in
        M.partial.once s t j k (rw o at h) (sym o ∙ e ∙ move_other m c r t b)

-- every column keeps its row but the one that had row r
move_keeps : (n : ℕ) (m : List Col) (c : Col) (r : Row) (d : Col)
    → d ≢ partner m r → Matched n (partner m) d → Matched n (partner (set m r c)) d
move_keeps n m c r d h t = (t.0, t.1, move_other m c r t.0 (λ e. h (sym t.2 ∙ ap (partner m) e)) ∙ t.2)

-- no column but c gains a row
move_adds : {n : ℕ} {col : Pattern} {m : List Col} {c : Col} {r : Row} → Move n col m c r
    → (d : Col) → Matched n (partner (set m r c)) d → (d ≡ c) ⊎ Matched n (partner m) d
move_adds {n} {col} {m} {c} {r} M d t = go (ℕ_discrete t.0 r)
  where
    go : Dec (t.0 ≡ r) → (d ≡ c) ⊎ Matched n (partner m) d
    go (yes e) = inl (sym t.2 ∙ ap (partner (set m r c)) e ∙ move_same M)
    go (no ne) = inr (t.0, t.1, sym (move_other m c r t.0 ne) ∙ t.2)

-- the column that had row r has none now
move_frees : {n : ℕ} {col : Pattern} {m : List Col} {c : Col} {r : Row} → Move n col m c r
    → partner m r < n → Unmatched n (partner (set m r c)) (partner m r)
move_frees {n} {col} {m} {c} {r} M h s k e = go (ℕ_discrete s r)
  where
    go : Dec (s ≡ r) → ⊥
    go (yes a) = M.unmatched r M.below (sym e ∙ ap (partner (set m r c)) a ∙ move_same M)
    go (no a) =
        let same : partner m s ≡ partner m r = sym (move_other m c r s a) ∙ e in
        a (M.partial.once s r k M.below (rw same h) same)

-- a row that was matched is matched, whatever column below n row r takes
move_stays : (n : ℕ) (m : List Col) (c : Col) (r s : Row) → length m ≡ n → c < n → r < n
    → partner m s < n → partner (set m r c) s < n
move_stays n m c r s size l k h = go (ℕ_discrete s r)
  where
    go : Dec (s ≡ r) → partner (set m r c) s < n
    go (yes z) = rw (z, get_or-set_same m r c 0 (omega arith)) l
    go (no z) = rw (move_other m c r s z) h

-- ---- all moves of a path

-- what the matching g, moved along a path from column c, has of the matching m before
pub record Augmented (n : ℕ) (col : Pattern) (m : List Col) (c : Col) (g : List Col) : Type 0 where
  pub sized : length g ≡ n
  pub partial : Partial n col (partner g)
  pub gains : Matched n (partner g) c
  pub keeps : (d : Col) → d < n → Matched n (partner m) d → Matched n (partner g) d
  pub adds : (d : Col) → Matched n (partner g) d → (d ≡ c) ⊎ Matched n (partner m) d

-- a move, and then the rest of the path from the column that lost its row
augmented_more : {n : ℕ} {col : Pattern} {m g : List Col} {c : Col} {r : Row} → Move n col m c r → c < n
    → Augmented n col (set m r c) (partner m r) g → Augmented n col m c g
augmented_more {n} {col} {m} {g} {c} {r} M l A =
    record {
      sized = A.sized;
      partial = A.partial;
      gains = A.keeps c l (r, M.below, move_same M);
      keeps = λ d i t. keeps d i t (ℕ_discrete d (partner m r));
      adds = λ d t. adds d (A.adds d t);
    }
  where
    keeps : (d : Col) → d < n → Matched n (partner m) d → Dec (d ≡ partner m r) → Matched n (partner g) d
    keeps d i t (yes z) = rw z A.gains
    keeps d i t (no z) = A.keeps d i (move_keeps n m c r d z t)

    adds : (d : Col) → (d ≡ partner m r) ⊎ Matched n (partner (set m r c)) d → (d ≡ c) ⊎ Matched n (partner m) d
    adds d (inl z) = inr (r, M.below, sym z)
    adds d (inr t) = move_adds M d t

-- a partial matching moved along a path from a column without a row to a free row
pub augmented : {n : ℕ} {col : Pattern} {m : List Col} {e : Row} {c : Col} {p : List Row}
    → length m ≡ n → Partial n col (partner m) → c < n → Unmatched n (partner m) c → n ≤ partner m e
    → Alternating n col m e c p → Augmented n col m c (augment m c p e)
augmented {n} {col} {m} {e} {c} {p = []} size P l bare free (last k x) =
    let M : Move n col m c e = record { sized = size; partial = P; unmatched = bare; below = k; entry = x } in
    record {
      sized = length-set m e c ∙ size;
      partial = move_partial M;
      gains = (e, k, move_same M);
      keeps = λ d i t. move_keeps n m c e d (λ z. omega arith) t;
      adds = move_adds M;
    }
augmented {n} {col} {m} {e} {c} {p = r ∷ p} size P l bare free (more k x h new a) =
    let M : Move n col m c r = record { sized = size; partial = P; unmatched = bare; below = k; entry = x } in
    let stays : (s : Row) → s ≢ r → partner m s ≡ partner (set m r c) s = λ s z. sym (move_other m c r s z) in
    let apart : e ≢ r = λ z. let q : partner m e ≡ partner m r = ap (partner m) z in omega arith in
    let rest = path_agree (λ s i. stays s (λ z. new (Memᴰ.cast (sym z) i))) a in
    let size₁ : length (set m r c) ≡ n = length-set m r c ∙ size in
    augmented_more M l (augmented size₁ (move_partial M) h (move_frees M h) (rw (stays e apart) at free) rest)

-- the list by row keeps its length
pub length-augment : (p : List Row) (m : List Col) (c : Col) (e : Row) → length (augment m c p e) ≡ length m
length-augment [] m c e = length-set m e c
length-augment (r ∷ p) m c e = length-augment p (set m r c) (partner m r) e ∙ length-set m r c

-- rows off the path keep their column
pub augment_other : (p : List Row) (m : List Col) (c : Col) (e s : Row)
    → ¬ Mem s p → s ≢ e → partner (augment m c p e) s ≡ partner m s
augment_other [] m c e s h k = get_or-set_other m e s c 0 k
augment_other (r ∷ p) m c e s h k =
    augment_other p (set m r c) (partner m r) e s (λ i. h (Memᴰ.tail i)) k ∙ move_other m c r s (λ z. h (Memᴰ.head z))

-- a matched row stays matched
pub augment_stays : {n : ℕ} {col : Pattern} {m : List Col} {e : Row} {c : Col} {p : List Row} → length m ≡ n → c < n
    → Alternating n col m e c p → (s : Row) → partner m s < n → partner (augment m c p e) s < n
augment_stays {n} {m = m} {e = e} {c = c} {p = []} size l (last k x) s h = move_stays n m c e s size l k h
augment_stays {n} {m = m} {c = c} {p = r ∷ p} size l (more k x j new a) s h =
    let rest = path_agree (λ q i. sym (move_other m c r q (λ z. new (Memᴰ.cast (sym z) i)))) a in
    augment_stays (length-set m r c ∙ size) j rest s (move_stays n m c r s size l k h)

-- what the last row had before does not matter
pub augment_last : (p : List Row) (m : List Col) (c : Col) (e : Row) (x : Col) → ¬ Mem e p → augment (set m e x) c p e ≡ augment m c p e
augment_last [] m c e x h = set-set m e x c
augment_last (r ∷ p) m c e x h =
    let ne : r ≢ e = λ z. h (Memᴰ.head (sym z)) in
    let same : partner (set m e x) r ≡ partner m r = move_other m x e r ne in
    rw (same, set_comm m e r x c (λ z. ne (sym z))) (augment_last p (set m r c) (partner m r) e x (λ i. h (Memᴰ.tail i)))

-- ---- the same from the last row back

-- every column of the path takes the row after it, the last column first
abbrev pub unwind : List Col → Col → List Row → Row → List Col
unwind m c [] e = set m e c
unwind m c (r ∷ p) e = set (unwind m (partner m r) p e) r c

-- a row off the path may be set before or after
unwind_set : (p : List Row) (m : List Col) (b : Col) (e r : Row) (c : Col)
    → ¬ Mem r p → r ≢ e → unwind (set m r c) b p e ≡ set (unwind m b p e) r c
unwind_set [] m b e r c h k = set_comm m r e c b k
unwind_set (q ∷ p) m b e r c h k =
    let ne : q ≢ r = λ z. h (Memᴰ.head (sym z)) in
    let ih = unwind_set p m (partner m q) e r c (λ i. h (Memᴰ.tail i)) k in
    rw (move_other m c r q ne, ih) (set_comm (unwind m (partner m q) p e) r q c b (λ z. ne (sym z)))

-- either order gives the same matching
pub unwind_is : (p : List Row) (m : List Col) (c : Col) (e : Row) → Once p → ¬ Mem e p → augment m c p e ≡ unwind m c p e
unwind_is [] m c e o h = refl
unwind_is (r ∷ p) m c e o h =
    let ih = unwind_is p (set m r c) (partner m r) e o.0 (λ i. h (Memᴰ.tail i)) in
    ih ∙ unwind_set p m (partner m r) e r c o.1 (λ z. h (Memᴰ.head (sym z)))
