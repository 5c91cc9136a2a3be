-- The rule of an edit decides whether the edited pattern has a perfect matching, and changes the old one along one path only.
use Rattle.std.proofs.Common.{ℕ, ◌≤◌, ◌<◌, ◌≡◌, refl, sym, ap, ◌∙◌, inl, List, [], arith, length, take, length-take-le}
use mathlib.Core.List.Memᴰ
use Rattle.graph.specs.Edits.{edited, freed}
use Rattle.graph.specs.Lists.{Mem}
use Rattle.graph.specs.Matchings.{Row, Col, Pattern, Inside, Perfect, partner}
use Rattle.graph.specs.Paths.{Ending, failed, found, augment}
use Rattle.graph.proofs.Edits.{Rematched, edit_refused, edit_accepted}
use Rattle.graph.proofs.Hall.{hall_set_refuses}
use Rattle.graph.proofs.Matchings.{perfect_agree, row_of}
use Rattle.graph.proofs.Paths.{path_agree, path_end, path_rows, augment_other, length-augment}
use Rattle.graph.proofs.Search.{Visit, visit_keeps}
use Rattle.sparse.specs.Buffers.{filled}
use Rattle.sparse.specs.Limits.{none}
use Rattle.sparse.specs.Matrix.{column_or, Shaped, RowsBelow}
use Rattle.sparse.proofs.Buffers.{front_filled}
use Rattle.matching.specs.Matching.{search, accepted, refused}
use Rattle.matching.proofs.Front.{agree_take, take-augment, drop-augment}
use Rattle.matching.proofs.Matching.{Deficient, Decides}
use Rattle.matching.proofs.Ready.{inside_or}
use Rattle.matching.proofs.Searching.{search_visits, visited_below}
use Rattle.rematching.specs.Rematching.{rematching, Rerouted}

-- ---- the search of the edited column

-- where it finds a path, the matching is moved along it
pub rematching_found : (n : ℕ) (col : Pattern) (m : List Col) (e : Col) (p : List Row) (r : Row)
    → (search n col (freed n m e none) n [] e).ending ≡ found p r → rematching n col m e ≡ accepted (augment (freed n m e none) e p r)
unfolding rematching
rematching_found n col m e p r f = rw (f, rematching)

-- where it fails, the pattern is refused at that column
pub rematching_failed : (n : ℕ) (col : Pattern) (m : List Col) (e : Col) → (search n col (freed n m e none) n [] e).ending ≡ failed
    → rematching n col m e ≡ refused e (search n col (freed n m e none) n [] e).visited
unfolding rematching
rematching_failed n col m e f = rw (f, rematching)

-- a path found leads to the former row of the column
found_reroutes : {n : ℕ} {col : Pattern} {e : Col} {p : List Row} {r : Row} (m : List Col) (new : List Row) → n ≤ none → length m ≡ n
    → Perfect n col (partner m) → e < n → Inside n (edited col e new)
    → (search n (edited col e new) (freed n m e none) n [] e).ending ≡ found p r → Rematched n (edited col e new) m e p r
found_reroutes {n} {col} {e} m new small size M l I f =
    edit_accepted m new none size M l small I (rw f at (search_visits n (edited col e new) (freed n m e none) e l))

-- a failed search leaves a Hall set
failed_deficient : {n : ℕ} {col : Pattern} {e : Col} (m : List Col) (new : List Row) → n ≤ none → length m ≡ n
    → Perfect n col (partner m) → e < n → Inside n (edited col e new)
    → (search n (edited col e new) (freed n m e none) n [] e).ending ≡ failed
    → Deficient n (edited col e new) e (search n (edited col e new) (freed n m e none) n [] e).visited
failed_deficient {n} {col} {e} m new small size M l I f =
    let v : Visit n (edited col e new) (freed n m e none) [] e (search n (edited col e new) (freed n m e none) n [] e).visited failed =
    rw f at (search_visits n (edited col e new) (freed n m e none) e l) in
    record {
      below = l;
      among = visit_keeps v e (Memᴰ.head refl);
      visited_below = visited_below n (edited col e new) (freed n m e none) e l;
      hall_set = (edit_refused m new none size M l small I v).hall_set;
    }

-- ---- the verdict

-- the two kinds of verdict differ
not_both : (m : List Col) (c : Col) (visited : List Col) → accepted m ≡ refused c visited → ⊥
not_both m c visited e = let z : ◌≡◌ {A = ℕ} 0 1 = cc in omega arith

-- acceptance with a perfect matching of n rows decides
accepted_decides : {n : ℕ} {col : Pattern} (m : List Col) → length m ≡ n → Perfect n col (partner m) → Decides n col (accepted m)
accepted_decides m size M = record {
  accepted_exactly = (λ t. (partner m, M), λ t. (m, refl));
  sized = λ g e. let z : m ≡ g = cc in rw z at size;
  perfect = λ g e. let z : m ≡ g = cc in rw z at M;
  refused_exactly = (λ t. absurd (not_both m t.0 t.1 t.2), λ h. absurd (h (partner m, M)));
  deficient = λ c visited e. absurd (not_both m c visited e);
}

-- and so does refusal with a Hall set
refused_decides : {n : ℕ} {col : Pattern} {c : Col} {visited : List Col} → Deficient n col c visited → Decides n col (refused c visited)
refused_decides {c = c} {visited = visited} D = record {
  accepted_exactly = (λ t. absurd (not_both t.0 c visited (sym t.1)), λ t. absurd (hall_set_refuses D.hall_set t.0 t.1));
  sized = λ m e. absurd (not_both m c visited (sym e));
  perfect = λ m e. absurd (not_both m c visited (sym e));
  refused_exactly = (λ t f. hall_set_refuses D.hall_set f.0 f.1, λ h. (c, visited, refl));
  deficient = λ d seen e. let y : c ≡ d = cc in let z : visited ≡ seen = cc in rw (y, z) at D;
}

-- the rule accepts exactly if the edited pattern has a perfect matching, with one, and refuses exactly if there is none, with a Hall set
pub rematching_decides : {n : ℕ} {col : Pattern} {e : Col} (m : List Col) (new : List Row) → n ≤ none → length m ≡ n
    → Perfect n col (partner m) → e < n → Inside n (edited col e new)
    → Decides n (edited col e new) (rematching n (edited col e new) m e)
rematching_decides {n} {col} {e} m new small size M l I = go (search n (edited col e new) (freed n m e none) n [] e).ending refl
  where
    go : (o : Ending) → (search n (edited col e new) (freed n m e none) n [] e).ending ≡ o
        → Decides n (edited col e new) (rematching n (edited col e new) m e)
    go (found p r) f =
        let R = found_reroutes m new small size M l I f in
        rw (rematching_found n (edited col e new) m e p r f, R.from_freed none)
        (accepted_decides (augment m e p r) (length-augment p m e r ∙ size) R.perfect)
    go failed f =
        rw (rematching_failed n (edited col e new) m e f) (refused_decides (failed_deficient m new small size M l I f))

-- it refuses at the edited column only
pub rematching_place : (n : ℕ) (col : Pattern) (m : List Col) (e c : Col) (seen : List Col)
    → rematching n col m e ≡ refused c seen → c ≡ e
rematching_place n col m e c seen h = go (search n col (freed n m e none) n [] e).ending refl
  where
    go : (o : Ending) → (search n col (freed n m e none) n [] e).ending ≡ o → c ≡ e
    go (found p r) f = absurd (not_both _ c seen (sym (rematching_found n col m e p r f) ∙ h))
    go failed f = cc (rematching_failed n col m e f)

-- ---- what an accepted edit changes

-- the new matching is the old one moved along a path from the edited column to the row it had
pub rematching_reroutes : {n : ℕ} {col : Pattern} {e : Col} (m : List Col) (new : List Row) (p : List Col) → n ≤ none → length m ≡ n
    → Perfect n col (partner m) → e < n → Inside n (edited col e new) → rematching n (edited col e new) m e ≡ accepted p
    → Rerouted n (edited col e new) m p e
rematching_reroutes {n} {col} {e} m new p small size M l I h =
    go (search n (edited col e new) (freed n m e none) n [] e).ending refl
  where
    go : (o : Ending) → (search n (edited col e new) (freed n m e none) n [] e).ending ≡ o → Rerouted n (edited col e new) m p e
    go (found q r) f =
        let R = found_reroutes m new small size M l I f in
        let z : p ≡ augment m e q r = cc (rematching_found n (edited col e new) m e q r f, R.from_freed none) in
        record {
          before = q;
          last = r;
          path = R.path;
          former = ap (partner m) R.ends ∙ (row_of M e l).1;
          moved = z;
          others = λ s i j. ap (λ (g : List Col). partner g s) z ∙ R.others s i j;
        }
    go failed f = absurd (not_both p e _ (sym h ∙ rematching_failed n (edited col e new) m e f))

-- ---- a matching in a slice that may be longer than n

-- its first n numbers are a perfect matching too
pub perfect_take : {n : ℕ} {col : Pattern} (m : List Col) → Perfect n col (partner m) → Perfect n col (partner (take n m))
perfect_take {n} m M = perfect_agree (partner (take n m)) M (λ r l. sym (agree_take n m r l))

-- what reroutes those numbers reroutes the slice, which keeps the others
pub rerouted_filled : {n : ℕ} {col : Pattern} {e : Col} {p : List Col} (m : List Col) → n ≤ length m → Rerouted n col (take n m) p e
    → Rerouted n col m (filled p m) e
rerouted_filled {n} {col} {e} {p} m long R = record {
  before = R.before;
  last = R.last;
  path = path_agree (λ r i. sym (agree_take n m r (low r i))) R.path;
  former = agree_take n m R.last (path_end R.path) ∙ R.former;
  moved = whole;
  others = λ r i j. ap (λ (g : List Col). partner g r) whole ∙ augment_other R.before m e R.last r i j;
}
  where
    low : (r : Row) → Mem r R.before → r < n
    low r i = (path_rows R.path r i).0

    whole : filled p m ≡ augment m e R.before R.last
    whole = sym (front_filled n p m (augment m e R.before R.last) (omega (arith, length-augment R.before m e R.last))
        (take-augment n R.before m e R.last low (path_end R.path) ∙ sym R.moved)
        (drop-augment n R.before m e R.last low (path_end R.path)))

-- so an accepted edit of the first n numbers reroutes the slice
pub rematching_reroutes_slice : {n : ℕ} {col : Pattern} {e : Col} (m : List Col) (new : List Row) (p : List Col) → n ≤ none
    → n ≤ length m → Perfect n col (partner m) → e < n → Inside n (edited col e new)
    → rematching n (edited col e new) (take n m) e ≡ accepted p → Rerouted n (edited col e new) m (filled p m) e
rematching_reroutes_slice {n} m new p small long M l I h =
    rerouted_filled m long (rematching_reroutes (take n m) new p small (length-take-le n m long) (perfect_take m M) l I h)

-- ---- in storage

-- every entry of the edited pattern is inside
pub edited_inside : {size : ℕ} {starts rows : List ℕ} (e : Col) (new : List Row) → Shaped size starts rows → RowsBelow rows size
    → RowsBelow new size → e < size → Inside size (column_or starts rows e new)
edited_inside e new S low below l = inside_or e new S low below (inl l)
