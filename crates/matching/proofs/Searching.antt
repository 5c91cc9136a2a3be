-- The search function searches as the relation of graph's proofs says, so what is proved of that relation holds of the function.
use Rattle.std.proofs.Common.{ℕ, zero, suc, ◌≤◌, ◌<◌, ◌≡◌, refl, sym, ◌∙◌, Bool, true, false, List, [], ◌∷◌, ◌++◌, ⊎_elim, arith}
use Rattle.std.proofs.Common.{leb-true, leb-false, le-leb, leb, length}
use mathlib.Core.List.Memᴰ
use borrow.Author.Tests.{lt-leb}
use Rattle.graph.specs.Lists.{Mem, Once, elem, keep}
use Rattle.graph.specs.Matchings.{Row, Col, Pattern, Inside, partner}
use Rattle.graph.specs.Paths.{Ending, failed, found, augment}
use Rattle.graph.proofs.Lists.{elem_mem, elem_not, not_elem, left, left_le, left_mono, left_enter, left_none}
use Rattle.graph.proofs.Paths.{augment_stays}
use Rattle.graph.proofs.Search.{FirstFree, now, later, NoneFree, Visit, free, deep, Scan, done, pass, hit, miss}
use Rattle.graph.proofs.Search.{visit_keeps, visit_once, visit_below, visit_found}
use Rattle.matching.specs.Matching.{free_rows, Searched, scan, search}

-- ---- the free rows of a list

-- a free row stands before the other free rows
pub free_cons : (n : ℕ) (m : List Col) (r : Row) (rs : List Row) → n ≤ partner m r → free_rows n m (r ∷ rs) ≡ r ∷ free_rows n m rs
unfolding keep
free_cons n m r rs h = rw (le-leb n (partner m r) h)

-- a matched row is left out
pub matched_cons : (n : ℕ) (m : List Col) (r : Row) (rs : List Row) → partner m r < n → free_rows n m (r ∷ rs) ≡ free_rows n m rs
unfolding keep
matched_cons n m r rs h = rw (lt-leb n (partner m r) h)

-- matched rows in front may be skipped
pub matched_skip : (n : ℕ) (m : List Col) (qs rs : List Row) → NoneFree n m qs → free_rows n m (qs ++ rs) ≡ free_rows n m rs
matched_skip n m [] rs held = refl
matched_skip n m (q ∷ qs) rs held =
    rw (matched_cons n m q (qs ++ rs) (held q (Memᴰ.head refl))) (matched_skip n m qs rs (λ r i. held r (Memᴰ.tail i)))

-- the first of the free rows is the first free row
pub free_first : (n : ℕ) (m : List Col) (rs : List Row) (e : Row) (es : List Row) → free_rows n m rs ≡ e ∷ es → FirstFree n m e rs
unfolding keep
free_first n m [] e es h = let z : ◌≡◌ {A = ℕ} 0 1 = cc in absurd (omega arith)
free_first n m (r ∷ rs) e es h = go (free_first n m rs e es) (leb n (partner m r)) refl
  where
    go : (free_rows n m rs ≡ e ∷ es → FirstFree n m e rs) → (b : Bool) → leb n (partner m r) ≡ b → FirstFree n m e (r ∷ rs)
    go ih true t = let z : r ≡ e = cc (free_cons n m r rs (leb-true n (partner m r) t)) in rw z (now (rw z at (leb-true n (partner m r) t)))
    go ih false t =
        let k = leb-false n (partner m r) t in
        later k (ih (sym (matched_cons n m r rs k) ∙ h))

-- where there are none, every row is matched
pub free_none : (n : ℕ) (m : List Col) (rs : List Row) → free_rows n m rs ≡ [] → NoneFree n m rs
free_none n m [] h r i = absurd (Memᴰ.not-nil i)
free_none n m (q ∷ rs) h r i = go (free_none n m rs) (leb n (partner m q)) refl
  where
    go : (free_rows n m rs ≡ [] → NoneFree n m rs) → (b : Bool) → leb n (partner m q) ≡ b → partner m r < n
    go ih true t = let z : ◌≡◌ {A = ℕ} 0 1 = cc (free_cons n m q rs (leb-true n (partner m q) t)) in absurd (omega arith)
    go ih false t =
        let k = leb-false n (partner m q) t in
        ⊎_elim (λ z. rw z k) (ih (sym (matched_cons n m q rs k) ∙ h) r) (Memᴰ.cases_cons i)

-- ---- the function follows the relation

-- a search that ended as t is a visit to column c, with the columns s visited before
abbrev pub Visits : ℕ → Pattern → List Col → List Col → Col → Searched → Type 0
Visits n col m s c t = Visit n col m s c t.visited t.ending

-- the function's scan of the rows rs is a scan, with the columns s visited before
abbrev pub Scans : ℕ → Pattern → List Col → (List Col → Col → Searched) → List Col → List Row → Type 0
Scans n col m visit s rs = Scan n col m s rs (scan visit m s rs).visited (scan visit m s rs).ending

-- the function visit makes such visits wherever at most k columns below n were not visited before
abbrev pub Follows : ℕ → Pattern → List Col → (List Col → Col → Searched) → ℕ → Type 0
Follows n col m visit k = (s : List Col) (c : Col) → c < n → ¬ Mem c s → left n s ≤ k → Visits n col m s c (visit s c)

-- with such visits the function scans as the relation says
scan_is : (n : ℕ) (col : Pattern) (m : List Col) (visit : List Col → Col → Searched) (k : ℕ) → Follows n col m visit k
    → (s : List Col) (rs : List Row) → left n s ≤ k → NoneFree n m rs → Scans n col m visit s rs
unfolding scan
scan_is n col m visit k F s [] l held = done
scan_is n col m visit k F s (r ∷ rs) l held =
    go (λ t q. scan_is n col m visit k F t rs q (λ x i. held x (Memᴰ.tail i))) (elem (partner m r) s) refl
  where
    late : ((t : List Col) → left n t ≤ k → Scans n col m visit t rs) → elem (partner m r) s ≡ false
        → (o : Ending) → (visit s (partner m r)).ending ≡ o → Visit n col m s (partner m r) (visit s (partner m r)).visited o
        → Scans n col m visit s (r ∷ rs)
    late ih e (found p x) f v = rw (e, scan, f) (hit (not_elem (partner m r) s e) v)
    late ih e failed f v =
        let t = (visit s (partner m r)).visited in
        let fewer : left n t ≤ left n s = left_mono n s t (λ x i. visit_keeps v x (Memᴰ.tail i)) in
        rw (e, scan, f) (miss (not_elem (partner m r) s e) v (ih t (omega arith)))

    go : ((t : List Col) → left n t ≤ k → Scans n col m visit t rs) → (b : Bool) → elem (partner m r) s ≡ b → Scans n col m visit s (r ∷ rs)
    go ih true e = rw (e, scan) (pass (elem_mem (partner m r) s e) (ih s l))
    go ih false e =
        late ih e (visit s (partner m r)).ending refl (F s (partner m r) (held r (Memᴰ.head refl)) (not_elem (partner m r) s e) l)

-- a search with depth k makes such visits
pub search_is : (n : ℕ) (col : Pattern) (m : List Col) (k : ℕ) → Follows n col m (search n col m k) k
unfolding search
search_is n col m zero s c l new h = absurd (new (elem_mem c s (left_none n c s l (omega arith))))
search_is n col m (suc k) s c l new h = go (search_is n col m k) (free_rows n m (col c)) refl
  where
    go : Follows n col m (search n col m k) k → (rs : List Row) → free_rows n m (col c) ≡ rs
        → Visits n col m s c (search n col m (suc k) s c)
    go ih (e ∷ es) f = rw (f, search) (free (free_first n m (col c) e es f))
    go ih [] f =
        let held = free_none n m (col c) f in
        let fewer : left n s ≡ suc (left n (c ∷ s)) = left_enter n c s l (elem_not c s new) in
        rw (f, search) (deep held (scan_is n col m (search n col m k) k ih (c ∷ s) (col c) (omega arith) held))

-- ---- a search with no column visited before

-- it visits column c
pub search_visits : (n : ℕ) (col : Pattern) (m : List Col) (c : Col) → c < n → Visits n col m [] c (search n col m n [] c)
search_visits n col m c l = search_is n col m n [] c l Memᴰ.not-nil (left_le n [])

-- it visits no column twice
pub visited_once : (n : ℕ) (col : Pattern) (m : List Col) (c : Col) → c < n → Once (search n col m n [] c).visited
visited_once n col m c l = visit_once (search_visits n col m c l) tt Memᴰ.not-nil

-- it visits only columns below n
pub visited_below : (n : ℕ) (col : Pattern) (m : List Col) (c : Col) → c < n
    → (d : Col) → Mem d (search n col m n [] c).visited → d < n
visited_below n col m c l = visit_below (search_visits n col m c l) l (λ d i. absurd (Memᴰ.not-nil i))

-- a matched row stays matched when the matching is moved along the path found, so rows once seen matched may be skipped from then on
pub stays_matched : (n : ℕ) (col : Pattern) (m : List Col) (c : Col) (p : List Row) (e : Row) → Inside n col → length m ≡ n → c < n
    → (search n col m n [] c).ending ≡ found p e → (r : Row) → partner m r < n → partner (augment m c p e) r < n
stays_matched n col m c p e I size l f = augment_stays size l (visit_found I (rw f at (search_visits n col m c l))).alternating
