-- The search of an edit in the lent slices: it may be made there, and how it ends there is the rule's verdict.
use Rattle.std.proofs.Common.{ℕ, ◌+◌, ◌≤◌, ◌<◌, ◌≡◌, refl, sym, ap, ◌∙◌, ◌↔◌, Bool, true, false, List, [], arith, eq-eqb, ne_eqb, eqb}
use Rattle.std.proofs.Common.{length, get_or, set, take, drop, drop-set-lt, set-set, Option, Some, None, IsSome}
use lib.Seq.{take-set-lt, set-get_or}
use Rattle.graph.specs.Edits.{former, freed}
use Rattle.graph.specs.Lists.{Mem, elem}
use Rattle.graph.specs.Matchings.{Row, Col, Pattern, Inside, Perfect, partner}
use Rattle.graph.specs.Paths.{Ending, failed, found, augment}
use Rattle.graph.proofs.Bools.{apart}
use Rattle.graph.proofs.Lists.{elem_mem, not_elem}
use Rattle.graph.proofs.Matchings.{row_of}
use Rattle.sparse.specs.Limits.{none}
use Rattle.sparse.specs.Matrix.{column_or, Shaped, RowsBelow}
use Rattle.sparse.specs.Refusals.{as_column}
use Rattle.sparse.specs.declared.Column.{Column}
use Rattle.matching.specs.Matching.{search, refused}
use Rattle.matching.specs.Parts.{Unused, EndsAt, SameBeyond}
use Rattle.matching.specs.declared.search.SearchWork.{SearchWork}
use Rattle.matching.specs.Search.{Unstamped, stamped, is_found, moved, SearchReady, SearchEnds}
use Rattle.matching.proofs.Columns.{matching_beyond}
use Rattle.matching.proofs.Front.{agree_take, search_agree, take-moved}
use Rattle.matching.proofs.Ready.{short_or}
use Rattle.matching.proofs.Searching.{visited_below}
use Rattle.matching.proofs.Stamps.{stamped_is}
use Rattle.rematching.specs.Checks.{Editable}
use Rattle.rematching.specs.Rematching.{rematching}
use Rattle.rematching.proofs.Rematching.{rematching_found, rematching_failed, perfect_take, edited_inside}

-- ---- the former row

-- the first n numbers of a slice have the same former row as the slice
former-take : {n : ℕ} {col : Pattern} (m : List Col) (e : Col) → Perfect n col (partner m) → e < n
    → former n (take n m) e ≡ former n m e
former-take {n} m e M l =
    let s = row_of M e l in
    let t = row_of (perfect_take m M) e l in
    M.once (former n (take n m) e) (former n m e) t.0 s.0 (agree_take n m (former n (take n m) e) t.0 ∙ t.1 ∙ sym s.1)

-- so the slice with that row free begins with those numbers with that row free
freed-take : {n : ℕ} {col : Pattern} (m : List Col) (e x : Col) → Perfect n col (partner m) → e < n
    → freed n (take n m) e x ≡ take n (freed n m e x)
freed-take {n} m e x M l =
    ap (λ (r : Row). set (take n m) r x) (former-take m e M l) ∙ sym (take-set-lt n m (former n m e) x (row_of M e l).0)

-- the former row stands in the slice
pub edit_row : {size : ℕ} {starts rows new row2col : List ℕ} {e : Col} {w : SearchWork} (row : Row)
    → Editable size starts rows e new row2col → Unused size w row2col → row ≡ former size row2col e
    → row < length row2col
edit_row {e = e} row E U f = omega (arith, f, (row_of E.perfect e E.below).0, U.matching_long)

-- ---- before the search

-- with the former row free, and nothing visited, a search may be made from the edited column
pub edit_ready : {size : ℕ} {starts rows new row2col : List ℕ} {e : Col} {w : SearchWork} (m : List Col)
    → Shaped size starts rows → RowsBelow rows size → Editable size starts rows e new row2col
    → Unused size w row2col → length m ≡ length row2col → SearchReady size (column_or starts rows e new) m e (e + 1) w
edit_ready {new = new} {e = e} m S low E U k = record {
  inside = edited_inside e new S low E.new_below E.below;
  short = short_or e new S (omega (arith, E.few));
  below = E.below;
  unstamped = λ d l z. omega (arith, U.unvisited d l);
  sound = λ d l j i. absurd (omega (arith, U.unlooked d l));
  matching_long = omega (arith, U.matching_long);
  stamps_long = U.visited_long;
  cheap_long = U.cheap_long;
  cols_long = U.cols_long;
  places_long = U.places_long;
}

-- ---- after it

-- the rule's search, in the first n numbers, is the search in the slice
same_search : {n : ℕ} {col col₀ : Pattern} (m : List Col) (e : Col) → Inside n col → Perfect n col₀ (partner m) → e < n
    → search n col (freed n (take n m) e none) n [] e ≡ search n col (freed n m e none) n [] e
same_search {n} {col} m e I M l =
    ap (λ (g : List Col). search n col g n [] e) (freed-take m e none M l)
    ∙ sym (search_agree n col (freed n m e none) (take n (freed n m e none)) I (agree_take n (freed n m e none)) n [] e)

-- where the search answers true it found a path, and the slice holds the rule's matching
edit_found : {n : ℕ} {col col₀ : Pattern} {e : Col} {w₀ w : SearchWork} {m' : List Col} (m : List Col) → Inside n col
    → Perfect n col₀ (partner m) → e < n → SearchEnds n col (freed n m e none) e (e + 1) w₀ w m' true
    → EndsAt n w.visited.now m' None (rematching n col (take n m) e)
edit_found {n} {col} {e = e} {w = w} {m' = m'} m I M l E = go (search n col (freed n m e none) n [] e).ending refl
  where
    go : (o : Ending) → (search n col (freed n m e none) n [] e).ending ≡ o
        → EndsAt n w.visited.now m' None (rematching n col (take n m) e)
    go failed f = let z : ◌≡◌ {A = ℕ} 0 1 = cc (E.answered, ap is_found f) in absurd (omega arith)
    go (found p r) f =
        let s : (search n col (freed n (take n m) e none) n [] e).ending ≡ found p r = ap (λ t. t.ending) (same_search m e I M l) ∙ f in
        let g : take n m' ≡ augment (freed n (take n m) e none) e p r =
        ap (take n) E.matched ∙ take-moved n col (freed n m e none) e I l
        ∙ rw (sym (freed-take m e none M l)) (ap (moved (freed n (take n m) e none) e) s) in
        rw (rematching_found n col (take n m) e p r s) g

-- where it answers false it found none
no_path : (o : Ending) → false ≡ is_found o → o ≡ failed
no_path failed h = refl
no_path (found p r) h = let z : ◌≡◌ {A = ℕ} 0 1 = cc in absurd (omega arith)

-- then the rule refuses at column e, and the stamps tell the columns visited, whatever the slice m'' holds by then
edit_failed : {n : ℕ} {col col₀ : Pattern} {e : Col} {w₀ w : SearchWork} {m' : List Col} (m m'' : List Col) → Inside n col
    → Perfect n col₀ (partner m) → e < n → n ≤ length w₀.visited.now → Unstamped n (e + 1) w₀.visited.now
    → SearchEnds n col (freed n m e none) e (e + 1) w₀ w m' false
    → EndsAt n w.visited.now m'' (Some (as_column e)) (rematching n col (take n m) e)
edit_failed {n} {col} {e = e} {w₀ = w₀} {w = w} m m'' I M l long new E = rw verdict (refl, l, stamp)
  where
    verdict : rematching n col (take n m) e ≡ refused e (search n col (freed n m e none) n [] e).visited
    verdict =
        let s = same_search m e I M l in
        rematching_failed n col (take n m) e (ap (λ t. t.ending) s ∙ no_path _ E.answered) ∙ ap (λ t. refused e t.visited) s

    is : (d : Col) → d < n → (get_or (stamped (e + 1) (search n col (freed n m e none) n [] e).visited w₀.visited.now) d 0 ≡ e + 1)
        ↔ Mem d (search n col (freed n m e none) n [] e).visited
    is d k = stamped_is n (e + 1) (search n col (freed n m e none) n [] e).visited w₀.visited.now d long new
        (visited_below n col (freed n m e none) e l) k

    stamp : (d : Col) → d < n → eqb (get_or w.visited.now d 0) (e + 1) ≡ elem d (search n col (freed n m e none) n [] e).visited
    stamp d k = rw E.visits (go (elem d (search n col (freed n m e none) n [] e).visited) refl)
      where
        go : (b : Bool) → elem d (search n col (freed n m e none) n [] e).visited ≡ b
            → eqb (get_or (stamped (e + 1) (search n col (freed n m e none) n [] e).visited w₀.visited.now) d 0) (e + 1) ≡ b
        go true h = eq-eqb _ _ ((is d k).1 (elem_mem d _ h))
        go false h = ne_eqb _ _ (λ z. not_elem d _ h ((is d k).0 z))

-- then the slice is as it was once the former row has its column again
edit_restored : {n : ℕ} {col col₀ : Pattern} {e : Col} {w₀ w : SearchWork} {m' : List Col} (m : List Col)
    → Perfect n col₀ (partner m) → e < n → SearchEnds n col (freed n m e none) e (e + 1) w₀ w m' false → set m' (former n m e) e ≡ m
edit_restored {n} {col} {e = e} {m' = m'} m M l E =
    let r = former n m e in
    let f = no_path (search n col (freed n m e none) n [] e).ending E.answered in
    let g : m' ≡ freed n m e none = E.matched ∙ ap (moved (freed n m e none) e) f in
    ap (λ (x : List Col). set x r e) g ∙ set-set m r none e ∙ ap (set m r) (sym (row_of M e l).1) ∙ set-get_or m r 0

-- ---- how `rematch` returns

-- what it leaves of stamps and matching where it returns a column or none, and the matching was m₀ before
pub record Leaves (n : ℕ) (col : Pattern) (e : Col) (answer : Option Column) (m₀ v m : List ℕ) : Type 0 where
  pub ends : EndsAt n v m answer (rematching n col (take n m₀) e)
  pub kept : IsSome answer → m ≡ m₀
  pub matching : SameBeyond n m₀ m

-- where the row freed is the former row, the search was made in the matching with that row free
as_freed : {n k : ℕ} {col : Pattern} {e : Col} {w₀ w : SearchWork} {m₁ m' : List Col} {answer : Bool} (m : List Col) (row : Row)
    (b : Bool) → row ≡ former n m e → m₁ ≡ set m row none → answer ≡ b → SearchEnds n col m₁ e k w₀ w m' answer
    → SearchEnds n col (freed n m e none) e k w₀ w m' b
as_freed m row b f g a E = rw (sym a, sym f, sym g) E

-- it returns no column after a path was found, with the matching moved along it
pub leaves_found : {size : ℕ} {starts rows new m m₁ m' : List ℕ} {e : Col} {w₀ w : SearchWork} {answer : Bool} (row : Row)
    → Shaped size starts rows → RowsBelow rows size → Editable size starts rows e new m → row ≡ former size m e → m₁ ≡ set m row none
    → SearchEnds size (column_or starts rows e new) m₁ e (e + 1) w₀ w m' answer → answer ≡ true
    → Leaves size (column_or starts rows e new) e None m w.visited.now m'
leaves_found {size} {new = new} {m = m} {e = e} row S low D f g E a =
    let F = as_freed m row true f g a E in
    let I = edited_inside e new S low D.new_below D.below in
    record {
      ends = edit_found m I D.perfect D.below F;
      kept = λ l. absurd (apart false l refl);
      matching = matching_beyond I D.below F ∙ drop-set-lt size m (former size m e) none (row_of D.perfect e D.below).0;
    }

-- it returns the column after none was found, with the former row given back
pub leaves_failed : {size : ℕ} {starts rows new m m₁ m' m'' : List ℕ} {e : Col} {w₀ w : SearchWork} {answer : Bool} (row : Row)
    → Shaped size starts rows → RowsBelow rows size → Editable size starts rows e new m → Unused size w₀ m
    → row ≡ former size m e → m₁ ≡ set m row none
    → SearchEnds size (column_or starts rows e new) m₁ e (e + 1) w₀ w m' answer → answer ≡ false → m'' ≡ set m' row e
    → Leaves size (column_or starts rows e new) e (Some (as_column e)) m w.visited.now m''
leaves_failed {size} {new = new} {m = m} {m' = m'} {m'' = m''} {e = e} row S low D U f g E a b =
    let F = as_freed m row false f g a E in
    let I = edited_inside e new S low D.new_below D.below in
    let same : m'' ≡ m = b ∙ ap (λ (r : Row). set m' r e) f ∙ edit_restored m D.perfect D.below F in
    record {
      ends = edit_failed m m'' I D.perfect D.below U.visited_long (λ d l z. omega (arith, U.unvisited d l)) F;
      kept = λ l. same;
      matching = ap (drop size) same;
    }
