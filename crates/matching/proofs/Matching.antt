-- The matching rule decides: it ends with a perfect matching, or with a Hall set where there is none.
use Rattle.std.proofs.Common.{ℕ, zero, suc, ◌+◌, ◌≤◌, ◌<◌, ◌≡◌, refl, ◌↔◌, ⊎_elim, List, [], eq-or-lt_of_le, arith, length, replicate}
use mathlib.Core.List.Memᴰ
use lib.ListN.{length-replicate, get_or-replicate}
use Rattle.graph.specs.Hall.{HallSet}
use Rattle.graph.specs.Lists.{Mem, elem}
use Rattle.graph.specs.Matchings.{Row, Col, Pattern, Inside, Perfect, Partial, partner}
use Rattle.graph.specs.Paths.{Ending, failed, found, augment}
use Rattle.graph.proofs.Matchings.{Matched, Unmatched, full_perfect}
use Rattle.graph.proofs.Hall.{hall_set_refuses}
use Rattle.graph.proofs.Paths.{augmented}
use Rattle.graph.proofs.Search.{Visit, visit_keeps, visit_found, visit_refuses}
use Rattle.sparse.specs.Limits.{none}
use Rattle.matching.specs.Matching.{search, Verdict, accepted, refused, match_from, matching, Matchable}
use Rattle.matching.proofs.Searching.{search_visits, visited_below}

-- ---- between two searches

-- column c is among the visited, which are columns below n and a Hall set
pub record Deficient (n : ℕ) (col : Pattern) (c : Col) (visited : List Col) : Type 0 where
  pub below : c < n
  pub among : Mem c visited
  pub visited_below : (d : Col) → Mem d visited → d < n
  pub hall_set : HallSet n col (λ d. elem d visited)

-- m is a matching of n rows in which the columns before c have a row, and the others none
pub record Begun (n : ℕ) (col : Pattern) (c : Col) (m : List Col) : Type 0 where
  pub sized : length m ≡ n
  pub partial : Partial n col (partner m)
  pub matched : (b : Col) → b < c → Matched n (partner m) b
  pub unmatched : (b : Col) → c ≤ b → b < n → Unmatched n (partner m) b

-- at the start every row is free
pub begun_start : (n : ℕ) (col : Pattern) → n ≤ none → Begun n col 0 (replicate n none)
begun_start n col h =
    record {
      sized = length-replicate n none;
      partial = record { on = λ r l k. absurd (omega (arith, free r l)); once = λ r s l j k e. absurd (omega (arith, free r l)) };
      matched = λ b l. absurd (omega arith);
      unmatched = λ b j l r k e. omega (arith, free r k);
    }
  where
    free : (r : Row) → r < n → partner (replicate n none) r ≡ none
    free r l = get_or-replicate n r none 0 l

-- a search that finds a path gives column c a row
pub begun_next : (n : ℕ) (col : Pattern) (c : Col) (m : List Col) (p : List Row) (e : Row) → Inside n col → c < n → Begun n col c m
    → (search n col m n [] c).ending ≡ found p e → Begun n col (suc c) (augment m c p e)
begun_next n col c m p e I l B f =
    let P = visit_found I (rw f at (search_visits n col m c l)) in
    let A = augmented B.sized B.partial l (B.unmatched c (omega arith) l) P.ends_free P.alternating in
    record {
      sized = A.sized;
      partial = A.partial;
      matched = λ b k. ⊎_elim (λ z. rw z A.gains) (λ j. A.keeps b (omega arith) (B.matched b j)) (eq-or-lt_of_le (omega arith));
      unmatched = λ b j k r i z. ⊎_elim (λ q. omega arith) (λ t. B.unmatched b (omega arith) k t.0 t.1 t.2) (A.adds b (r, i, z));
    }

-- after n searches the matching is perfect
pub begun_end : (n : ℕ) (col : Pattern) (m : List Col) → Begun n col n m → Perfect n col (partner m)
begun_end n col m B = full_perfect B.partial B.matched

-- a search that fails leaves a Hall set
pub begun_refused : (n : ℕ) (col : Pattern) (c : Col) (m : List Col) → Inside n col → c < n → Begun n col c m
    → (search n col m n [] c).ending ≡ failed → Deficient n col c (search n col m n [] c).visited
begun_refused n col c m I l B f =
    let v : Visit n col m [] c (search n col m n [] c).visited failed = rw f at (search_visits n col m c l) in
    record {
      below = l;
      among = visit_keeps v c (Memᴰ.head refl);
      visited_below = visited_below n col m c l;
      hall_set = (visit_refuses I B.partial l (B.unmatched c (omega arith) l) v).hall_set;
    }

-- ---- one search more

-- where it finds a path, the others go on from the matching moved along it
pub match_found : (n : ℕ) (col : Pattern) (k : ℕ) (c : Col) (m : List Col) (p : List Row) (e : Row)
    → (search n col m n [] c).ending ≡ found p e → match_from n col (suc k) c m ≡ match_from n col k (suc c) (augment m c p e)
unfolding match_from
match_found n col k c m p e f = rw (f, match_from)

-- where it fails, the pattern is refused
pub match_failed : (n : ℕ) (col : Pattern) (k : ℕ) (c : Col) (m : List Col)
    → (search n col m n [] c).ending ≡ failed → match_from n col (suc k) c m ≡ refused c (search n col m n [] c).visited
unfolding match_from
match_failed n col k c m f = rw (f, match_from)

-- ---- the verdict

-- accepted exactly if a perfect matching exists, and then with one; refused exactly if none exists, and then with a Hall set
pub record Decides (n : ℕ) (col : Pattern) (v : Verdict) : Type 0 where
  pub accepted_exactly : ((m : List Col) × (v ≡ accepted m)) ↔ Matchable n col
  pub sized : (m : List Col) → v ≡ accepted m → length m ≡ n
  pub perfect : (m : List Col) → v ≡ accepted m → Perfect n col (partner m)
  pub refused_exactly : ((c : Col) × (visited : List Col) × (v ≡ refused c visited)) ↔ (¬ Matchable n col)
  pub deficient : (c : Col) (visited : List Col) → v ≡ refused c visited → Deficient n col c visited

-- accepted with a perfect matching of n rows, or refused with a Hall set
abbrev Right : ℕ → Pattern → Verdict → Type 0
Right n col (accepted m) = (length m ≡ n) × Perfect n col (partner m)
Right n col (refused c visited) = Deficient n col c visited

-- the searches from column c on end so
from_right : (n : ℕ) (col : Pattern) (k : ℕ) (c : Col) (m : List Col) → Inside n col → c + k ≡ n → Begun n col c m
    → Right n col (match_from n col k c m)
unfolding match_from
from_right n col zero c m I s B = let z : c ≡ n = omega arith in (B.sized, begun_end n col m (rw z at B))
from_right n col (suc k) c m I s B =
    go (λ p e. from_right n col k (suc c) (augment m c p e) I (omega arith)) (search n col m n [] c).ending refl
  where
    l : c < n
    l = omega arith

    go : ((p : List Row) (e : Row) → Begun n col (suc c) (augment m c p e) → Right n col (match_from n col k (suc c) (augment m c p e)))
        → (o : Ending) → (search n col m n [] c).ending ≡ o → Right n col (match_from n col (suc k) c m)
    go ih (found p e) f = rw (match_found n col k c m p e f) (ih p e (begun_next n col c m p e I l B f))
    go ih failed f = rw (match_failed n col k c m f) (begun_refused n col c m I l B f)

-- so it decides, since a Hall set leaves no perfect matching
right_decides : (n : ℕ) (col : Pattern) (v : Verdict) → Right n col v → Decides n col v
right_decides n col (accepted m) R =
    record {
      accepted_exactly = (λ t. (partner m, R.1), λ t. (m, refl));
      sized = λ g e. let z : m ≡ g = cc in rw z at R.0;
      perfect = λ g e. let z : m ≡ g = cc in rw z at R.1;
      refused_exactly = (λ t. absurd (other t.0 t.1 t.2), λ h. absurd (h (partner m, R.1)));
      deficient = λ c visited e. absurd (other c visited e);
    }
  where
    other : (c : Col) (visited : List Col) → accepted m ≡ refused c visited → ⊥
    other c visited e = let z : ◌≡◌ {A = ℕ} 0 1 = cc in omega arith
right_decides n col (refused c visited) D =
    record {
      accepted_exactly = (λ t. absurd (other t.0 t.1), λ t. absurd (hall_set_refuses D.hall_set t.0 t.1));
      sized = λ m e. absurd (other m e);
      perfect = λ m e. absurd (other m e);
      refused_exactly = (λ t f. hall_set_refuses D.hall_set f.0 f.1, λ h. (c, visited, refl));
      deficient = λ d seen e. let y : c ≡ d = cc in let z : visited ≡ seen = cc in rw (y, z) at D;
    }
  where
    other : (m : List Col) → refused c visited ≡ accepted m → ⊥
    other m e = let z : ◌≡◌ {A = ℕ} 0 1 = cc in omega arith

-- the rule accepts exactly where a perfect matching exists, with one, and refuses exactly where none exists, with a Hall set
pub matching_decides : (n : ℕ) (col : Pattern) → Inside n col → n ≤ none → Decides n col (matching n col)
unfolding matching
matching_decides n col I h =
    right_decides n col (matching n col) (from_right n col n 0 (replicate n none) I (omega arith) (begun_start n col h))
