-- The stack of a search in two slices, its columns and its places: what is left to do there, and how each step goes on.
use Rattle.std.proofs.Common.{ℕ, zero, suc, ◌+◌, ◌-◌, ◌≤◌, ◌<◌, ◌≡◌, refl, sym, subst, List, [], ◌∷◌, arith, length, get_or, drop}
use Rattle.std.proofs.Common.{drop_of_length-le, drop-cons}
use mathlib.Core.List.Memᴰ
use Rattle.graph.specs.Lists.{Mem}
use Rattle.graph.specs.Matchings.{Row, Col, Pattern, partner}
use Rattle.graph.specs.Paths.{Ending, failed, found}
use Rattle.graph.proofs.Search.{FirstFree, now, later, NoneFree, Visit, free, deep, Scan, done, pass, hit, miss}
use Rattle.matching.specs.Parts.{col_at}

-- ---- what is left to do

-- a search in pattern col with matching m, from column start, that ends with the columns visited and the ending given
pub record Goal : Type 0 where
  pub n : ℕ
  pub col : Pattern
  pub m : List Col
  pub start : Col
  pub visited : List Col
  pub ending : Ending

-- a step on the stack stands at one of its column's rows, all of which are matched
pub record Step (g : Goal) (c : Col) (p : ℕ) : Type 0 where
  pub within : p < length (g.col c)
  pub held : NoneFree g.n g.m (g.col c)

-- a visit to column b that ended with o and the columns s, handed back to the k steps of a stack, leads to the goal
abbrev pub Ret : Goal → List Col → List ℕ → ℕ → Col → List Col → Ending → Type 0
Ret g cs ps zero b s o = (b ≡ g.start) × (s ≡ g.visited) × (o ≡ g.ending)
Ret g cs ps (suc k) b s failed =
    (b ≡ col_at g.m (g.col (get_or cs k 0)) (get_or ps k 0)) × Step g (get_or cs k 0) (get_or ps k 0)
    × (t : List Col) × (o : Ending) × Scan g.n g.col g.m s (drop (suc (get_or ps k 0)) (g.col (get_or cs k 0))) t o
    × Ret g cs ps k (get_or cs k 0) t o
Ret g cs ps (suc k) b s (found q e) =
    (b ≡ col_at g.m (g.col (get_or cs k 0)) (get_or ps k 0)) × Step g (get_or cs k 0) (get_or ps k 0)
    × Ret g cs ps k (get_or cs k 0) s (found (get_or (g.col (get_or cs k 0)) (get_or ps k 0) 0 ∷ q) e)

-- scanning column c from place p on, above k steps, leads to the goal
abbrev pub Top : Goal → List Col → List ℕ → ℕ → Col → ℕ → List Col → Type 0
Top g cs ps k c p s =
    (t : List Col) × (o : Ending) × Scan g.n g.col g.m s (drop p (g.col c)) t o × Ret g cs ps k c t o

-- visiting column b, above k steps, leads to the goal
abbrev pub Into : Goal → List Col → List ℕ → ℕ → Col → List Col → Type 0
Into g cs ps k b s = (t : List Col) × (o : Ending) × Visit g.n g.col g.m s b t o × Ret g cs ps k b t o

-- the steps from k on do not matter
pub ret_agree : (g : Goal) (cs ps cs' ps' : List ℕ) (k : ℕ) (b : Col) (s : List Col) (o : Ending)
    → ((i : ℕ) → i < k → get_or cs i 0 ≡ get_or cs' i 0) → ((i : ℕ) → i < k → get_or ps i 0 ≡ get_or ps' i 0)
    → Ret g cs ps k b s o → Ret g cs' ps' k b s o
ret_agree g cs ps cs' ps' zero b s o h q R = R
ret_agree g cs ps cs' ps' (suc k) b s failed h q (z, S, t, o, w, R) =
    let rest = ret_agree g cs ps cs' ps' k (get_or cs k 0) t o (λ i l. h i (omega arith)) (λ i l. q i (omega arith)) R in
    rw (← h k (omega arith), ← q k (omega arith)) (z, S, t, o, w, rest)
ret_agree g cs ps cs' ps' (suc k) b s (found p e) h q (z, S, R) =
    let x = found (get_or (g.col (get_or cs k 0)) (get_or ps k 0) 0 ∷ p) e in
    let rest = ret_agree g cs ps cs' ps' k (get_or cs k 0) s x (λ i l. h i (omega arith)) (λ i l. q i (omega arith)) R in
    rw (← h k (omega arith), ← q k (omega arith)) (z, S, rest)

-- ---- the first free row

-- there is only one
first_same : {n : ℕ} {m : List Col} {e x : Row} {rs : List Row} → FirstFree n m e rs → FirstFree n m x rs → e ≡ x
first_same (now h) (now k) = refl
first_same (now h) (later k f) = absurd (omega arith)
first_same (later h f) (now k) = absurd (omega arith)
first_same (later h f) (later k j) = first_same f j

-- where there is one, not every row is matched
first_not : {n : ℕ} {m : List Col} {e : Row} {rs : List Row} → FirstFree n m e rs → ¬ NoneFree n m rs
first_not {e = e} (now h) held = let l = held e (Memᴰ.head refl) in omega arith
first_not (later h f) held = first_not f (λ r i. held r (Memᴰ.tail i))

-- ---- a scan

-- no row is left: it fails
scan_end : {n : ℕ} {col : Pattern} {m s t : List Col} {o : Ending} → Scan n col m s [] t o → (s ≡ t) × (failed ≡ o)
scan_end done = (refl, refl)

-- a row whose column was visited is passed by
scan_pass : {n : ℕ} {col : Pattern} {m s t : List Col} {r : Row} {rs : List Row} {o : Ending} → Mem (partner m r) s
    → Scan n col m s (r ∷ rs) t o → Scan n col m s rs t o
scan_pass i (pass h w) = w
scan_pass i (hit h v) = absurd (h i)
scan_pass i (miss h v w) = absurd (h i)

-- so are d such rows
scan_past : {n : ℕ} {col : Pattern} {m s t : List Col} {o : Ending} (rs : List Row) (p d : ℕ) → p + d ≤ length rs
    → ((k : ℕ) → p ≤ k → k < p + d → Mem (col_at m rs k) s) → Scan n col m s (drop p rs) t o → Scan n col m s (drop (p + d) rs) t o
scan_past rs p zero l seen w = let z : p + 0 ≡ p = omega arith in rw z w
scan_past rs p (suc d) l seen w =
    let z : p + suc d ≡ suc p + d = omega arith in
    let on = scan_pass (seen p (omega arith) (omega arith)) (rw (drop-cons rs p 0 (omega arith)) at w) in
    rw z (scan_past rs (suc p) d (omega arith) (λ k a b. seen k (omega arith) (omega arith)) on)

-- ---- the turns

-- the rows from p up to q are passed by
pub top_past : (g : Goal) (cs ps : List ℕ) (k : ℕ) (c : Col) (p q : ℕ) (s : List Col) → p ≤ q → q ≤ length (g.col c)
    → ((i : ℕ) → p ≤ i → i < q → Mem (col_at g.m (g.col c) i) s) → Top g cs ps k c p s → Top g cs ps k c q s
top_past g cs ps k c p q s h l seen (t, o, w, R) = go (q - p) (omega arith)
  where
    go : (d : ℕ) → q ≡ p + d → Top g cs ps k c q s
    go d z = (t, o, rw z (scan_past (g.col c) p d (omega arith) (λ i a b. seen i a (omega arith)) w), R)

-- no row is left: the visit fails
pub top_end : (g : Goal) (cs ps : List ℕ) (k : ℕ) (c : Col) (q : ℕ) (s : List Col) → length (g.col c) ≤ q
    → Top g cs ps k c q s → Ret g cs ps k c s failed
top_end g cs ps k c q s l (t, o, w, R) =
    let z = scan_end (rw (drop_of_length-le (g.col c) l) at w) in
    subst (λ x. Ret g cs ps k c x failed) (sym z.0) (subst (λ x. Ret g cs ps k c t x) (sym z.1) R)

-- the row at p has a column that was not visited: it is put on the stack, to be visited
top_into : (g : Goal) (cs ps : List ℕ) (k : ℕ) (p : ℕ) (s : List Col) → get_or ps k 0 ≡ p → Step g (get_or cs k 0) p
    → ¬ Mem (col_at g.m (g.col (get_or cs k 0)) p) s → Top g cs ps k (get_or cs k 0) p s
    → Into g cs ps (suc k) (col_at g.m (g.col (get_or cs k 0)) p) s
top_into g cs ps k p s at S new (t, o, w, R) = rw (← at) (go (rw (drop-cons (g.col c) p 0 S.within, ← at) at w) R)
  where
    c : Col
    c = get_or cs k 0

    here : Step g c (get_or ps k 0)
    here = rw at S

    absent : ¬ Mem (col_at g.m (g.col c) (get_or ps k 0)) s
    absent = rw at new

    go : {t : List Col} {o : Ending}
        → Scan g.n g.col g.m s (get_or (g.col c) (get_or ps k 0) 0 ∷ drop (suc (get_or ps k 0)) (g.col c)) t o
        → Ret g cs ps k c t o → Into g cs ps (suc k) (col_at g.m (g.col c) (get_or ps k 0)) s
    go (pass i w) R = absurd (absent i)
    go {t} (hit {e = e} {p = q} i v) R = (t, found q e, v, (refl, here, R))
    go {t} {o} (miss {t = u} i v w) R = (u, failed, v, (refl, here, t, o, w, R))

-- the same for a column and a place that are known to stand there
pub step_into : (g : Goal) (cs ps : List ℕ) (k : ℕ) (c : Col) (p : ℕ) (s : List Col) → get_or cs k 0 ≡ c → get_or ps k 0 ≡ p → Step g c p
    → ¬ Mem (col_at g.m (g.col c) p) s → Top g cs ps k c p s → Into g cs ps (suc k) (col_at g.m (g.col c) p) s
step_into g cs ps k c p s at_c at_p =
    subst (λ x. Step g x p → ¬ Mem (col_at g.m (g.col x) p) s → Top g cs ps k x p s → Into g cs ps (suc k) (col_at g.m (g.col x) p) s)
    at_c (λ S new T. top_into g cs ps k p s at_p S new T)

-- the column visited has a free row: found
pub into_free : (g : Goal) (cs ps : List ℕ) (k : ℕ) (b : Col) (s : List Col) (e : Row)
    → FirstFree g.n g.m e (g.col b) → Into g cs ps k b s → Ret g cs ps k b (b ∷ s) (found [] e)
into_free g cs ps k b s e f (t, o, v, R) = go v R
  where
    go : {t : List Col} {o : Ending} → Visit g.n g.col g.m s b t o → Ret g cs ps k b t o → Ret g cs ps k b (b ∷ s) (found [] e)
    go (free {e = x} h) R = subst (λ y. Ret g cs ps k b (b ∷ s) (found [] y)) (first_same h f) R
    go (deep h w) R = absurd (first_not f h)

-- it has none: its rows are scanned
pub into_none : (g : Goal) (cs ps : List ℕ) (k : ℕ) (b : Col) (s : List Col) → NoneFree g.n g.m (g.col b)
    → Into g cs ps k b s → Top g cs ps k b 0 (b ∷ s)
into_none g cs ps k b s held (t, o, v, R) = (t, o, go v, R)
  where
    go : {t : List Col} {o : Ending} → Visit g.n g.col g.m s b t o → Scan g.n g.col g.m (b ∷ s) (g.col b) t o
    go (free h) = absurd (first_not h held)
    go (deep h w) = w
