-- The searches of all columns, one after the other, follow the rule: what holds between two, and how they end.
use Rattle.std.proofs.Common.{ℕ, suc, ◌+◌, ◌-◌, ◌<◌, ◌≤◌, ◌≡◌, refl, sym, ap, ◌∙◌, Bool, true, false, List, [], ◌∷◌, ◌↔◌, arith, eq-eqb}
use Rattle.std.proofs.Common.{ne_eqb, eqb, length, get_or, take, drop, Some, None}
use mathlib.Core.Path.{fun_ext}
use native.Mathlib.Decide.{ℕ_discrete}
use Rattle.graph.specs.Lists.{Mem, elem}
use Rattle.graph.specs.Matchings.{Row, Col, Pattern, Inside}
use Rattle.graph.specs.Paths.{Ending, failed, found, augment}
use Rattle.graph.proofs.Edits.{edited_same, edited_other}
use Rattle.graph.proofs.Lists.{elem_mem, not_elem}
use Rattle.sparse.specs.Limits.{none, max_entries}
use Rattle.sparse.specs.Matrix.{column, column_or, Shaped, RowsBelow}
use Rattle.sparse.proofs.Matrix.{column_beyond, inside}
use Rattle.sparse.specs.Refusals.{as_column}
use Rattle.matching.specs.Work.{Stays, SameWork}
use Rattle.matching.specs.declared.search.SearchWork.{SearchWork}
use Rattle.matching.specs.Matching.{search, accepted, refused, match_from, matching}
use Rattle.matching.specs.Parts.{Fresh, EndsAt}
use Rattle.matching.specs.Search.{stamped, Cheap, is_found, moved, SearchReady, SearchEnds}
use Rattle.matching.proofs.Front.{agree_take, search_agree, take-moved, drop-moved}
use Rattle.matching.proofs.Matching.{match_found, match_failed}
use Rattle.matching.proofs.Ready.{column_short}
use Rattle.matching.proofs.Work.{stays_then, work_then}
use Rattle.matching.proofs.Searching.{visited_below}
use Rattle.matching.proofs.Stamps.{set_keeps, stamped_is}

-- ---- no column replaced

-- with no column replaced, by nothing, the pattern is the matrix's
pub unedited : {size : ℕ} {starts rows : List ℕ} (new : List Row) → Shaped size starts rows → new ≡ []
    → column_or starts rows none new ≡ column starts rows
unedited {size} {starts} {rows} new S e = fun_ext (λ c. go c (ℕ_discrete c none))
  where
    go : (c : Col) → Dec (c ≡ none) → column_or starts rows none new c ≡ column starts rows c
    go c (yes z) = rw (z, e) (edited_same (column starts rows) none [] ∙ sym (column_beyond S none (omega (arith, S.small))))
    go c (no ne) = edited_other (column starts rows) none new c ne

-- ---- stamps

-- stamps up to a bound stay so with a new mark within it
pub stamped_le : (mark bound : ℕ) (s : List Col) (v : List ℕ) (d : Col) → mark ≤ bound → get_or v d 0 ≤ bound
    → get_or (stamped mark s v) d 0 ≤ bound
stamped_le mark bound [] v d l h = h
stamped_le mark bound (c ∷ s) v d l h = set_keeps (λ x. x ≤ bound) (stamped mark s v) c mark d l (stamped_le mark bound s v d l h)

-- ---- between two searches

-- the searches from column c on lead to the rule's verdict, no stamp is larger than c, cheap places are sound, and the rest is as it was
pub record Going (n : ℕ) (col : Pattern) (c : Col) (work₀ : SearchWork) (row2col₀ : List ℕ) (work : SearchWork) (row2col : List ℕ)
    : Type 0 where
  pub inside : Inside n col
  pub short : (d : Col) → length (col d) ≤ max_entries
  pub fresh : Fresh n work₀ row2col₀
  pub leads : match_from n col (n - c) c (take n row2col) ≡ matching n col
  pub stamps : (d : Col) → d < n → get_or work.visited.now d 0 ≤ c
  pub sound : Cheap n col row2col work.cheap.now
  pub same_work : SameWork n work₀ work
  pub matching : Stays n row2col₀ row2col

-- before the first
pub going_start : {n : ℕ} {col : Pattern} {row2col : List ℕ} (work : SearchWork) → Inside n col
    → ((d : Col) → length (col d) ≤ max_entries) → Fresh n work row2col
    → Going n col 0 work row2col work row2col
unfolding matching
going_start {n} work I short F = record {
  inside = I;
  short = short;
  fresh = F;
  leads = let z : n - 0 ≡ n = omega arith in rw (z, F.free) refl;
  stamps = λ d l. omega (arith, F.unused.unvisited d l);
  sound = λ d l k j. absurd (omega (arith, F.unused.unlooked d l));
  same_work = record {
    slices = refl;
    visited = record { same_length = refl; beyond = refl };
    cheap = record { same_length = refl; beyond = refl };
    cols = record { same_length = refl; beyond = refl };
    places = record { same_length = refl; beyond = refl };
  };
  matching = record { same_length = refl; beyond = refl };
}

-- before the first in a matrix
pub searches_start : {size : ℕ} {starts rows row2col : List ℕ} (work : SearchWork) → Shaped size starts rows → RowsBelow rows size
    → Fresh size work row2col
    → Going size (column starts rows) 0 work row2col work row2col
searches_start work S low F = going_start work (inside S low) (column_short S) F

-- then the next search can be made, with a stamp of its own
pub going_ready : {n : ℕ} {col : Pattern} {c : Col} {w₀ w : SearchWork} {m₀ m : List ℕ} → Going n col c w₀ m₀ w m → c < n
    → SearchReady n col m c (c + 1) w
going_ready G l = record {
  inside = G.inside;
  short = G.short;
  below = l;
  unstamped = λ d k e. omega (arith, G.stamps d k);
  sound = G.sound;
  matching_long = omega (arith, G.fresh.unused.matching_long, G.matching.same_length);
  stamps_long = omega (arith, G.fresh.unused.visited_long, G.same_work.visited.same_length);
  cheap_long = omega (arith, G.fresh.unused.cheap_long, G.same_work.cheap.same_length);
  cols_long = omega (arith, G.fresh.unused.cols_long, G.same_work.cols.same_length);
  places_long = omega (arith, G.fresh.unused.places_long, G.same_work.places.same_length);
}

-- what the search of column c leaves of the matching beyond n
pub matching_beyond : {n : ℕ} {col : Pattern} {c : Col} {w w' : SearchWork} {m m' : List Col} {answer : Bool} → Inside n col
    → c < n → SearchEnds n col m c (c + 1) w w' m' answer → drop n m' ≡ drop n m
matching_beyond {n} {col} {c} {m} I l E = ap (drop n) E.matched ∙ drop-moved n col m c I l

-- an ending that answers true has a path
found_path : (o : Ending) → true ≡ is_found o → (p : List Row) × (e : Row) × (o ≡ found p e)
found_path failed h = let z : ◌≡◌ {A = ℕ} 0 1 = cc in absurd (omega arith)
found_path (found p e) h = (p, e, refl)

-- and one that answers false has none
failed_path : (o : Ending) → false ≡ is_found o → o ≡ failed
failed_path failed h = refl
failed_path (found p e) h = let z : ◌≡◌ {A = ℕ} 0 1 = cc in absurd (omega arith)

-- what the rule does with column c, in the first n numbers of the matching
same_ending : {n : ℕ} {col : Pattern} (m : List Col) (c : Col) → Inside n col → search n col (take n m) n [] c ≡ search n col m n [] c
same_ending {n} {col} m c I = sym (search_agree n col m (take n m) I (agree_take n m) n [] c)

-- a search keeps the slices, whatever it answers
pub going_kept : {n : ℕ} {col : Pattern} {c : Col} {w₀ w w' : SearchWork} {m₀ m m' : List ℕ} {answer : Bool} → Going n col c w₀ m₀ w m
    → c < n → SearchEnds n col m c (c + 1) w w' m' answer → SameWork n w w'
    → length m' ≡ length m → SameWork n w₀ w' × Stays n m₀ m'
going_kept G l E W k = (
  work_then G.same_work W,
  stays_then G.matching (record { same_length = k; beyond = matching_beyond G.inside l E }),
)

-- where it found a path, the searches go on from the next column
pub leads_on : {n : ℕ} {col : Pattern} {c : Col} (m : List Col) {m' : List Col} → Inside n col → c < n
    → match_from n col (n - c) c (take n m) ≡ matching n col → true ≡ is_found (search n col m n [] c).ending
    → m' ≡ moved m c (search n col m n [] c).ending → match_from n col (n - (c + 1)) (c + 1) (take n m') ≡ matching n col
leads_on {n} {col} {c} m {m'} I l L T E =
    let t = found_path (search n col (take n m) n [] c).ending (T ∙ ap is_found (ap (λ s. s.ending) (sym (same_ending m c I)))) in
    let k : n - c ≡ suc (n - (c + 1)) = omega arith in
    let g : take n m' ≡ augment (take n m) c t.0 t.1 =
    ap (take n) E ∙ take-moved n col m c I l ∙ ap (moved (take n m) c) t.2 in
    let a : c + 1 ≡ suc c = omega arith in
    ap (match_from n col (n - (c + 1)) (c + 1)) g
    ∙ ap (λ (x : ℕ). match_from n col (n - (c + 1)) x (augment (take n m) c t.0 t.1)) a
    ∙ sym (match_found n col (n - (c + 1)) c (take n m) t.0 t.1 t.2)
    ∙ ap (λ (x : ℕ). match_from n col x c (take n m)) (sym k) ∙ L

pub going_more : {n : ℕ} {col : Pattern} {c : Col} {w₀ w w' : SearchWork} {m₀ m m' : List ℕ} → Going n col c w₀ m₀ w m → c < n
    → SearchEnds n col m c (c + 1) w w' m' true → SameWork n w w'
    → length m' ≡ length m → Going n col (c + 1) w₀ m₀ w' m'
going_more {n} {col} {c} {w = w} {m = m} G l E W k = let kept = going_kept G l E W k in record {
  inside = G.inside;
  short = G.short;
  fresh = G.fresh;
  leads = leads_on m G.inside l G.leads E.answered E.matched;
  stamps = λ d k. rw E.visits (stamped_le (c + 1) (c + 1) (search n col m n [] c).visited w.visited.now d (omega arith)
      (omega (arith, G.stamps d k)));
  sound = E.sound;
  same_work = kept.0;
  matching = kept.1;
}

-- where it failed, that is the rule's verdict, and the stamp tells the columns it visited
pub going_failed : {n : ℕ} {col : Pattern} {c : Col} {w₀ w w' : SearchWork} {m₀ m m' : List ℕ} → Going n col c w₀ m₀ w m → c < n
    → SearchEnds n col m c (c + 1) w w' m' false → EndsAt n w'.visited.now m' (Some (as_column c)) (matching n col)
going_failed {n} {col} {c} {w = w} {w' = w'} {m = m} G l E = rw verdict (refl, l, stamp)
  where
    f : (search n col (take n m) n [] c).ending ≡ failed
    f = failed_path _ (E.answered ∙ ap is_found (ap (λ s. s.ending) (sym (same_ending m c G.inside))))

    verdict : matching n col ≡ refused c (search n col m n [] c).visited
    verdict =
        let k : n - c ≡ suc (n - (c + 1)) = omega arith in
        sym G.leads ∙ ap (λ (x : ℕ). match_from n col x c (take n m)) k ∙ match_failed n col (n - (c + 1)) c (take n m) f
        ∙ ap (λ s. refused c s.visited) (same_ending m c G.inside)

    is : (d : Col) → d < n
        → (get_or (stamped (c + 1) (search n col m n [] c).visited w.visited.now) d 0 ≡ c + 1) ↔ Mem d (search n col m n [] c).visited
    is d k = stamped_is n (c + 1) (search n col m n [] c).visited w.visited.now d (going_ready G l).stamps_long
        (λ x j e. omega (arith, G.stamps x j)) (visited_below n col m c l) k

    stamp : (d : Col) → d < n → eqb (get_or w'.visited.now d 0) (c + 1) ≡ elem d (search n col m n [] c).visited
    stamp d k = rw E.visits (go (elem d (search n col m n [] c).visited) refl)
      where
        go : (b : Bool) → elem d (search n col m n [] c).visited ≡ b
            → eqb (get_or (stamped (c + 1) (search n col m n [] c).visited w.visited.now) d 0) (c + 1) ≡ b
        go true e = eq-eqb _ _ ((is d k).1 (elem_mem d _ e))
        go false e = ne_eqb _ _ (λ z. not_elem d _ e ((is d k).0 z))

-- after the last the matching stands in the slice
pub going_end : {n : ℕ} {col : Pattern} {c : Col} {w₀ w : SearchWork} {m₀ m : List ℕ} → Going n col c w₀ m₀ w m → n ≤ c
    → EndsAt n w.visited.now m None (matching n col)
unfolding match_from
going_end {n} {col} {c} {m = m} G l =
    let z : n - c ≡ 0 = omega arith in
    let w : match_from n col (n - c) c (take n m) ≡ accepted (take n m) = ap (λ (x : ℕ). match_from n col x c (take n m)) z in
    rw (sym G.leads, w) refl
