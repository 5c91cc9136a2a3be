-- A search reads and moves only the first n numbers of a matching, so a longer slice serves as well as a list of n.
use Rattle.std.proofs.Common.{ℕ, zero, suc, ◌<◌, ◌≡◌, refl, sym, ap, ◌∙◌, Bool, true, false, List, [], ◌∷◌, set, take, drop}
use Rattle.std.proofs.Common.{drop-set-lt, get_or-take}
use mathlib.Core.Path.{fun_ext}
use mathlib.Core.List.Memᴰ
use lib.Seq.{take-set-lt}
use Rattle.graph.specs.Lists.{Mem, elem, keep}
use Rattle.graph.specs.Matchings.{Row, Col, Pattern, Inside, partner}
use Rattle.graph.specs.Paths.{Ending, failed, found, augment}
use Rattle.graph.proofs.Paths.{path_rows, path_end}
use Rattle.graph.proofs.Search.{visit_found}
use Rattle.matching.specs.Matching.{free_rows, Searched, scan, search}
use Rattle.matching.specs.Search.{moved}
use Rattle.matching.proofs.Searching.{search_visits}

-- two matchings give the rows below n the same columns
abbrev pub Agree : ℕ → List Col → List Col → Type 0
Agree n m m' = (r : Row) → r < n → partner m r ≡ partner m' r

-- a matching agrees with its first n numbers
pub agree_take : (n : ℕ) (m : List Col) → Agree n m (take n m)
agree_take n m r l = sym (get_or-take n m r 0 l)

-- ---- what a search finds

free_agree : (n : ℕ) (m m' : List Col) → Agree n m m' → (rs : List Row) → ((r : Row) → Mem r rs → r < n)
    → free_rows n m rs ≡ free_rows n m' rs
unfolding keep
free_agree n m m' A [] low = refl
free_agree n m m' A (r ∷ rs) low =
    rw (A r (low r (Memᴰ.head refl)), free_agree n m m' A rs (λ x i. low x (Memᴰ.tail i)))

-- a row whose column was visited is passed
scan_pass : (visit : List Col → Col → Searched) (m s : List Col) (r : Row) (rs : List Row) (d : Col) → partner m r ≡ d → elem d s ≡ true
    → scan visit m s (r ∷ rs) ≡ scan visit m s rs
unfolding scan
scan_pass visit m s r rs d z e = let f : elem (partner m r) s ≡ true = rw z e in rw (f, scan)

-- where the visit to another column finds a path, the scan ends with it
scan_hit : (visit : List Col → Col → Searched) (m s : List Col) (r : Row) (rs : List Row) (d : Col) (p : List Row) (x : Row)
    → partner m r ≡ d → elem d s ≡ false → (visit s d).ending ≡ found p x
    → scan visit m s (r ∷ rs) ≡ record { ending = found (r ∷ p) x; visited = (visit s d).visited }
unfolding scan
scan_hit visit m s r rs d p x z e f =
    let g : elem (partner m r) s ≡ false = rw z e in
    let h : (visit s (partner m r)).ending ≡ found p x = rw z f in
    rw (g, scan, h) (ap (λ (c : Col). record { ending = found (r ∷ p) x; visited = (visit s c).visited }) z)

-- where it fails, the scan goes on
scan_miss : (visit : List Col → Col → Searched) (m s : List Col) (r : Row) (rs : List Row) (d : Col) → partner m r ≡ d → elem d s ≡ false
    → (visit s d).ending ≡ failed → scan visit m s (r ∷ rs) ≡ scan visit m (visit s d).visited rs
unfolding scan
scan_miss visit m s r rs d z e f =
    let g : elem (partner m r) s ≡ false = rw z e in
    let h : (visit s (partner m r)).ending ≡ failed = rw z f in
    rw (g, scan, h) (ap (λ (c : Col). scan visit m (visit s c).visited rs) z)

scan_agree : (n : ℕ) (visit : List Col → Col → Searched) (m m' : List Col) → Agree n m m' → (s : List Col) (rs : List Row)
    → ((r : Row) → Mem r rs → r < n) → scan visit m s rs ≡ scan visit m' s rs
unfolding scan
scan_agree n visit m m' A s [] low = refl
scan_agree n visit m m' A s (r ∷ rs) low =
    go (λ t. scan_agree n visit m m' A t rs (λ x i. low x (Memᴰ.tail i))) (partner m' r) (A r (low r (Memᴰ.head refl))) refl
    (elem (partner m' r) s) refl
  where
    late : ((t : List Col) → scan visit m t rs ≡ scan visit m' t rs) → (d : Col) → partner m r ≡ d → partner m' r ≡ d → elem d s ≡ false
        → (o : Ending) → (visit s d).ending ≡ o → scan visit m s (r ∷ rs) ≡ scan visit m' s (r ∷ rs)
    late ih d y z e (found p x) f = scan_hit visit m s r rs d p x y e f ∙ sym (scan_hit visit m' s r rs d p x z e f)
    late ih d y z e failed f = scan_miss visit m s r rs d y e f ∙ ih (visit s d).visited ∙ sym (scan_miss visit m' s r rs d z e f)

    go : ((t : List Col) → scan visit m t rs ≡ scan visit m' t rs) → (d : Col) → partner m r ≡ d → partner m' r ≡ d
        → (b : Bool) → elem d s ≡ b → scan visit m s (r ∷ rs) ≡ scan visit m' s (r ∷ rs)
    go ih d y z true e = scan_pass visit m s r rs d y e ∙ ih s ∙ sym (scan_pass visit m' s r rs d z e)
    go ih d y z false e = late ih d y z e (visit s d).ending refl

-- searches in matchings that agree are the same
pub search_agree : (n : ℕ) (col : Pattern) (m m' : List Col) → Inside n col → Agree n m m'
    → (depth : ℕ) (s : List Col) (c : Col) → search n col m depth s c ≡ search n col m' depth s c
unfolding search
search_agree n col m m' I A zero s c = refl
search_agree n col m m' I A (suc depth) s c =
    go (search_agree n col m m' I A depth) (free_rows n m' (col c)) refl
  where
    free : free_rows n m (col c) ≡ free_rows n m' (col c)
    free = free_agree n m m' A (col c) (λ r i. I.row_below c r i)

    go : ((t : List Col) (d : Col) → search n col m depth t d ≡ search n col m' depth t d) → (rs : List Row)
        → free_rows n m' (col c) ≡ rs → search n col m (suc depth) s c ≡ search n col m' (suc depth) s c
    go ih (e ∷ es) f = rw (free, f, search)
    go ih [] f =
        let deeper : search n col m depth ≡ search n col m' depth = fun_ext (λ t. fun_ext (λ d. ih t d)) in
        rw (free, f, search) (ap (λ (v : List Col → Col → Searched). scan v m (c ∷ s) (col c)) deeper
        ∙ scan_agree n (search n col m' depth) m m' A (c ∷ s) (col c) (λ r i. I.row_below c r i))

-- ---- what it moves

-- the first n numbers of a matching moved along a path are those numbers moved along it
pub take-augment : (n : ℕ) (p : List Row) (m : List Col) (c : Col) (e : Row) → ((r : Row) → Mem r p → r < n) → e < n
    → take n (augment m c p e) ≡ augment (take n m) c p e
take-augment n [] m c e low l = take-set-lt n m e c l
take-augment n (r ∷ p) m c e low l =
    let k = low r (Memᴰ.head refl) in
    take-augment n p (set m r c) (partner m r) e (λ x i. low x (Memᴰ.tail i)) l
    ∙ rw (take-set-lt n m r c k, agree_take n m r k)

-- the others stay
pub drop-augment : (n : ℕ) (p : List Row) (m : List Col) (c : Col) (e : Row) → ((r : Row) → Mem r p → r < n) → e < n
    → drop n (augment m c p e) ≡ drop n m
drop-augment n [] m c e low l = drop-set-lt n m e c l
drop-augment n (r ∷ p) m c e low l =
    drop-augment n p (set m r c) (partner m r) e (λ x i. low x (Memᴰ.tail i)) l
    ∙ drop-set-lt n m r c (low r (Memᴰ.head refl))

-- a found path has its rows below n
pub record Within (n : ℕ) (p : List Row) (e : Row) : Type 0 where
  pub rows : (r : Row) → Mem r p → r < n
  pub end : e < n

pub found_within : {n : ℕ} {col : Pattern} (m : List Col) (c : Col) (p : List Row) (e : Row) → Inside n col → c < n
    → (search n col m n [] c).ending ≡ found p e → Within n p e
found_within {n} {col} m c p e I l f =
    let A = (visit_found I (rw f at (search_visits n col m c l))).alternating in
    record { rows = λ r i. (path_rows A r i).0; end = path_end A }

-- so the first n numbers go the way of the search in them
pub take-moved : (n : ℕ) (col : Pattern) (m : List Col) (c : Col) → Inside n col → c < n
    → take n (moved m c (search n col m n [] c).ending) ≡ moved (take n m) c (search n col (take n m) n [] c).ending
take-moved n col m c I l = rw (sym (search_agree n col m (take n m) I (agree_take n m) n [] c)) (go (search n col m n [] c).ending refl)
  where
    go : (o : Ending) → (search n col m n [] c).ending ≡ o → take n (moved m c o) ≡ moved (take n m) c o
    go failed f = refl
    go (found p e) f = let W = found_within m c p e I l f in take-augment n p m c e W.rows W.end

-- and the others stay
pub drop-moved : (n : ℕ) (col : Pattern) (m : List Col) (c : Col) → Inside n col → c < n
    → drop n (moved m c (search n col m n [] c).ending) ≡ drop n m
drop-moved n col m c I l = go (search n col m n [] c).ending refl
  where
    go : (o : Ending) → (search n col m n [] c).ending ≡ o → drop n (moved m c o) ≡ drop n m
    go failed f = refl
    go (found p e) f = let W = found_within m c p e I l f in drop-augment n p m c e W.rows W.end
