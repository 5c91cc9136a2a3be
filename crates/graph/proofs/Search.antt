-- The search of one column for a row: its rule as a relation, and what a found path and a failed search say.
use Rattle.std.proofs.Common.{ℕ, ◌≤◌, ◌<◌, ◌≡◌, refl, sym, ap, subst, ◌⊎◌, inl, inr, ⊎_elim, true, List, [], ◌∷◌}
use mathlib.Core.List.Memᴰ
use Rattle.graph.specs.Lists.{Mem, Once, elem}
use Rattle.graph.specs.Matchings.{Row, Col, Pattern, Entry, Inside, Perfect, Partial, partner}
use Rattle.graph.specs.Hall.{HallSet}
use Rattle.graph.specs.Paths.{Alternating, last, more, Ending, failed, found}
use Rattle.graph.proofs.Lists.{elem_mem, mem_elem}
use Rattle.graph.proofs.Matchings.{Matched, Unmatched}
use Rattle.graph.proofs.Hall.{Failed, failed_hall_set, hall_set_refuses}

-- ---- the rule

-- e is the first free row of the list
pub data FirstFree (n : ℕ) (m : List Col) (e : Row) : List Row → Type 0 where
  now : {rs : List Row} → n ≤ partner m e → FirstFree n m e (e ∷ rs)
  later : {r : Row} {rs : List Row} → partner m r < n → FirstFree n m e rs → FirstFree n m e (r ∷ rs)

-- no row of the list is free
abbrev pub NoneFree : ℕ → List Col → List Row → Type 0
NoneFree n m rs = (r : Row) → Mem r rs → partner m r < n

mutual
  -- Visit n col m s c t o: with the columns s visited before, a visit to column c leaves t visited and ends with o
  pub data Visit (n : ℕ) (col : Pattern) (m : List Col) : List Col → Col → List Col → Ending → Type 0 where
    -- its first free row ends the search
    free : {s : List Col} {c : Col} {e : Row} → FirstFree n m e (col c) → Visit n col m s c (c ∷ s) (found [] e)
    -- it has no free row: its rows are scanned
    deep : {s t : List Col} {c : Col} {o : Ending} → NoneFree n m (col c)
        → Scan n col m (c ∷ s) (col c) t o → Visit n col m s c t o

  -- Scan n col m s rs t o: with the columns s visited before, the rows rs of a column in list order leave t visited and end with o
  pub data Scan (n : ℕ) (col : Pattern) (m : List Col) : List Col → List Row → List Col → Ending → Type 0 where
    -- no row is left
    done : {s : List Col} → Scan n col m s [] s failed
    -- the column matched to the next row was visited before
    pass : {r : Row} {s t : List Col} {rs : List Row} {o : Ending} → Mem (partner m r) s
        → Scan n col m s rs t o → Scan n col m s (r ∷ rs) t o
    -- it was not, and a visit to it finds the rest of a path
    hit : {r e : Row} {s t : List Col} {rs p : List Row} → ¬ Mem (partner m r) s
        → Visit n col m s (partner m r) t (found p e) → Scan n col m s (r ∷ rs) t (found (r ∷ p) e)
    -- it was not, and a visit to it fails: the other rows are scanned
    miss : {r : Row} {s t u : List Col} {rs : List Row} {o : Ending} → ¬ Mem (partner m r) s
        → Visit n col m s (partner m r) t failed → Scan n col m t rs u o → Scan n col m s (r ∷ rs) u o

-- the first free row is in the list, and free
first_free_is : {n : ℕ} {m : List Col} {e : Row} {rs : List Row} → FirstFree n m e rs → Mem e rs × (n ≤ partner m e)
first_free_is (now h) = (Memᴰ.head refl, h)
first_free_is (later h f) = let t = first_free_is f in (Memᴰ.tail t.0, t.1)

mutual
  -- the column is visited now, and what was visited stays so
  pub visit_keeps : {n : ℕ} {col : Pattern} {m s t : List Col} {c : Col} {o : Ending}
      → Visit n col m s c t o → (x : Col) → Mem x (c ∷ s) → Mem x t
  visit_keeps (free h) x i = i
  visit_keeps (deep h w) x i = scan_keeps w x i

  -- what was visited stays so
  pub scan_keeps : {n : ℕ} {col : Pattern} {m s t : List Col} {rs : List Row} {o : Ending}
      → Scan n col m s rs t o → (x : Col) → Mem x s → Mem x t
  scan_keeps done x i = i
  scan_keeps (pass h w) x i = scan_keeps w x i
  scan_keeps (hit h v) x i = visit_keeps v x (Memᴰ.tail i)
  scan_keeps (miss h v w) x i = scan_keeps w x (visit_keeps v x (Memᴰ.tail i))

mutual
  -- no column is visited twice
  pub visit_once : {n : ℕ} {col : Pattern} {m s t : List Col} {c : Col} {o : Ending}
      → Visit n col m s c t o → Once s → ¬ Mem c s → Once t
  visit_once (free h) u new = (u, new)
  visit_once (deep h w) u new = scan_once w (u, new)

  scan_once : {n : ℕ} {col : Pattern} {m s t : List Col} {rs : List Row} {o : Ending} → Scan n col m s rs t o → Once s → Once t
  scan_once done u = u
  scan_once (pass h w) u = scan_once w u
  scan_once (hit h v) u = visit_once v u h
  scan_once (miss h v w) u = scan_once w (visit_once v u h)

-- every column of the list is below n
abbrev pub AllBelow : ℕ → List Col → Type 0
AllBelow n s = (x : Col) → Mem x s → x < n

below_cons : {n : ℕ} {s : List Col} (c : Col) → c < n → AllBelow n s → AllBelow n (c ∷ s)
below_cons c l b x i = ⊎_elim (λ e. rw e l) (b x) (Memᴰ.cases_cons i)

mutual
  -- from a column below n only columns below n are visited
  pub visit_below : {n : ℕ} {col : Pattern} {m s t : List Col} {c : Col} {o : Ending}
      → Visit n col m s c t o → c < n → AllBelow n s → AllBelow n t
  visit_below (free {c = c} h) l b = below_cons c l b
  visit_below (deep {c = c} h w) l b = scan_below w h (below_cons c l b)

  scan_below : {n : ℕ} {col : Pattern} {m s t : List Col} {rs : List Row} {o : Ending}
      → Scan n col m s rs t o → NoneFree n m rs → AllBelow n s → AllBelow n t
  scan_below done held b = b
  scan_below (pass h w) held b = scan_below w (λ q i. held q (Memᴰ.tail i)) b
  scan_below (hit {r = r} h v) held b = visit_below v (held r (Memᴰ.head refl)) b
  scan_below (miss {r = r} h v w) held b =
      scan_below w (λ q i. held q (Memᴰ.tail i)) (visit_below v (held r (Memᴰ.head refl)) b)

-- ---- a found path

-- an alternating path from column c to a free row, by columns that are not in s
pub record Augmenting (n : ℕ) (col : Pattern) (m : List Col) (s : List Col) (c : Col) (p : List Row) (e : Row) : Type 0 where
  pub alternating : Alternating n col m e c p
  pub ends_free : n ≤ partner m e
  pub unvisited : (r : Row) → Mem r p → ¬ Mem (partner m r) s

-- an ending that is a path is such a path
abbrev IfFound : ℕ → Pattern → List Col → List Col → Col → Ending → Type 0
IfFound n col m s c failed = Unit {0}
IfFound n col m s c (found p e) = Augmenting n col m s c p e

mutual
  -- what each visit, and each scan of rows of column c, says of a path
  visit_path : {n : ℕ} {col : Pattern} {m s t : List Col} {c : Col} {o : Ending} → Inside n col
      → Visit n col m s c t o → IfFound n col m (c ∷ s) c o
  visit_path I (free {c = c} {e = e} h) =
      let t = first_free_is h in
      record {
        alternating = last (I.row_below c e t.0) t.0;
        ends_free = t.1;
        unvisited = λ r i. absurd (Memᴰ.not-nil i);
      }
  visit_path I (deep {c = c} h w) = scan_path I w c (λ r i. i) h

  scan_path : {n : ℕ} {col : Pattern} {m s t : List Col} {rs : List Row} {o : Ending} → Inside n col
      → Scan n col m s rs t o → (c : Col) → ((r : Row) → Mem r rs → Entry col c r) → NoneFree n m rs → IfFound n col m s c o
  scan_path I done c on held = tt
  scan_path I (pass h w) c on held = scan_path I w c (λ r i. on r (Memᴰ.tail i)) (λ r i. held r (Memᴰ.tail i))
  scan_path {m = m} {s = s} I (hit {r = r} {p = p} h v) c on held =
      let P = visit_path I v in
      let x = on r (Memᴰ.head refl) in
      let new : ¬ Mem r p = λ j. P.unvisited r j (Memᴰ.head refl) in
      record {
        alternating = more (I.row_below c r x) x (held r (Memᴰ.head refl)) new P.alternating;
        ends_free = P.ends_free;
        unvisited = λ q j k.
            ⊎_elim (λ z. h (subst (λ y. Mem (partner m y) s) z k)) (λ i. P.unvisited q i (Memᴰ.tail k)) (Memᴰ.cases_cons j);
      }
  scan_path I (miss {o = failed} h v w) c on held = tt
  scan_path {m = m} I (miss {o = found p e} h v w) c on held =
      let P = scan_path I w c (λ r i. on r (Memᴰ.tail i)) (λ r i. held r (Memᴰ.tail i)) in
      record {
        alternating = P.alternating;
        ends_free = P.ends_free;
        unvisited = λ r i k. P.unvisited r i (visit_keeps v (partner m r) (Memᴰ.tail k));
      }

-- a found path is augmenting, by columns that were not visited before
pub visit_found : {n : ℕ} {col : Pattern} {m s t : List Col} {c : Col} {p : List Row} {e : Row} → Inside n col
    → Visit n col m s c t (found p e) → Augmenting n col m (c ∷ s) c p e
visit_found I v = visit_path I v

-- ---- a failed search

-- every row of column c is matched to a column of t
abbrev pub Closed : ℕ → Pattern → List Col → List Col → Col → Type 0
Closed n col m t c = (r : Row) → Entry col c r → (partner m r < n) × Mem (partner m r) t

-- a failed scan has visited the columns matched to all its rows
scan_all : {n : ℕ} {col : Pattern} {m s t : List Col} {rs : List Row} → Scan n col m s rs t failed
    → (r : Row) → Mem r rs → Mem (partner m r) t
scan_all done r i = absurd (Memᴰ.not-nil i)
scan_all {m = m} (pass h w) r i =
    ⊎_elim (λ e. scan_keeps w (partner m r) (Memᴰ.cast (ap (partner m) e) h)) (λ j. scan_all w r j) (Memᴰ.cases_cons i)
scan_all {m = m} (miss h v w) r i =
    ⊎_elim (λ e. scan_keeps w (partner m r) (visit_keeps v (partner m r) (Memᴰ.head (ap (partner m) e))))
    (λ j. scan_all w r j) (Memᴰ.cases_cons i)

-- where the ending is a failure, every column of t is closed but for those of s
abbrev IfFailed : ℕ → Pattern → List Col → List Col → List Col → Ending → Type 0
IfFailed n col m s t failed = (x : Col) → Mem x t → Mem x s ⊎ Closed n col m t x
IfFailed n col m s t (found p e) = Unit {0}

mutual
  -- what each visit, and each scan, says of a failure
  visit_shut : {n : ℕ} {col : Pattern} {m s t : List Col} {c : Col} {o : Ending} → Visit n col m s c t o → IfFailed n col m s t o
  visit_shut (free h) = tt
  visit_shut (deep {o = found p e} h w) = tt
  visit_shut {n} {col} {m} {s} {t} {c} (deep {o = failed} h w) = λ x i. ⊎_elim (entered x) inr (scan_shut w x i)
    where
      entered : (x : Col) → Mem x (c ∷ s) → Mem x s ⊎ Closed n col m t x
      entered x j = ⊎_elim (λ e. inr (rw e (λ r k. (h r k, scan_all w r k)))) inl (Memᴰ.cases_cons j)

  scan_shut : {n : ℕ} {col : Pattern} {m s t : List Col} {rs : List Row} {o : Ending} → Scan n col m s rs t o → IfFailed n col m s t o
  scan_shut done = λ x i. inl i
  scan_shut (pass h w) = scan_shut w
  scan_shut (hit h v) = tt
  scan_shut (miss {o = found p e} h v w) = tt
  scan_shut {n} {col} {m} (miss {t = t} {u = u} {o = failed} h v w) = λ x i.
      ⊎_elim (λ j. ⊎_elim inl (λ f. inr (grown x f)) (visit_shut v x j)) inr (scan_shut w x i)
    where
      grown : (x : Col) → Closed n col m t x → Closed n col m u x
      grown x f r k = ((f r k).0, scan_keeps w (partner m r) (f r k).1)

-- every column that a failed search has added is closed
pub visit_closed : {n : ℕ} {col : Pattern} {m s t : List Col} {c : Col} → Visit n col m s c t failed
    → (x : Col) → Mem x t → Mem x s ⊎ Closed n col m t x
visit_closed v = visit_shut v

-- a column visited by way of row r has that row
by_row : (n : ℕ) (m s : List Col) (r : Row) (x : Col) → r < n → Mem x (partner m r ∷ s) → Mem x s ⊎ Matched n (partner m) x
by_row n m s r x l i = ⊎_elim (λ e. inr (r, l, sym e)) inl (Memᴰ.cases_cons i)

mutual
  -- every column that a search has added, but the first, has a row
  pub visit_matched : {n : ℕ} {col : Pattern} {m s t : List Col} {c : Col} {o : Ending} → Inside n col → Visit n col m s c t o
      → (x : Col) → Mem x t → Mem x (c ∷ s) ⊎ Matched n (partner m) x
  visit_matched I (free h) x i = inl i
  visit_matched I (deep {c = c} h w) x i = scan_matched I w c (λ r j. j) x i

  scan_matched : {n : ℕ} {col : Pattern} {m s t : List Col} {rs : List Row} {o : Ending} → Inside n col → Scan n col m s rs t o
      → (c : Col) → ((r : Row) → Mem r rs → Entry col c r) → (x : Col) → Mem x t → Mem x s ⊎ Matched n (partner m) x
  scan_matched I done c on x i = inl i
  scan_matched I (pass h w) c on x i = scan_matched I w c (λ r j. on r (Memᴰ.tail j)) x i
  scan_matched {n} {m = m} {s = s} I (hit {r = r} h v) c on x i =
      let l : r < n = I.row_below c r (on r (Memᴰ.head refl)) in
      ⊎_elim (by_row n m s r x l) inr (visit_matched I v x i)
  scan_matched {n} {m = m} {s = s} I (miss {r = r} h v w) c on x i =
      let l : r < n = I.row_below c r (on r (Memᴰ.head refl)) in
      let rest = scan_matched I w c (λ q j. on q (Memᴰ.tail j)) x i in
      ⊎_elim (λ j. ⊎_elim (by_row n m s r x l) inr (visit_matched I v x j)) inr rest

-- what a failed search from a column without a row leaves
pub visit_failed : {n : ℕ} {col : Pattern} {m h : List Col} {c : Col} → Inside n col → c < n → Unmatched n (partner m) c
    → Visit n col m [] c h failed → Failed n col (partner m) c (λ x. elem x h)
visit_failed {n} {col} {m} {h} {c} I l bare v =
    record {
      below = l;
      start = mem_elem c h (visit_keeps v c (Memᴰ.head refl));
      unmatched = bare;
      closed = λ x r k j e i. let t = shut x e r i in (t.0, mem_elem (partner m r) h t.1);
      matched = λ x k e ne. ⊎_elim (λ j. absurd (ne (Memᴰ.eq_of_singleton j))) (λ t. t) (visit_matched I v x (elem_mem x h e));
    }
  where
    shut : (x : Col) → elem x h ≡ true → Closed n col m h x
    shut x e = ⊎_elim (λ i. absurd (Memᴰ.not-nil i)) (λ f. f) (visit_closed v x (elem_mem x h e))

-- a refusal: the columns h are a Hall set, so there is no perfect matching
pub record Refused (n : ℕ) (col : Pattern) (h : List Col) : Type 0 where
  pub hall_set : HallSet n col (λ c. elem c h)
  pub none : (f : Row → Col) → ¬ Perfect n col f

-- a failed search from a column without a row refuses the pattern
pub visit_refuses : {n : ℕ} {col : Pattern} {m h : List Col} {c : Col} → Inside n col → Partial n col (partner m)
    → c < n → Unmatched n (partner m) c → Visit n col m [] c h failed → Refused n col h
visit_refuses I P l bare v =
    let H = failed_hall_set P (visit_failed I l bare v) in
    record { hall_set = H; none = hall_set_refuses H }
