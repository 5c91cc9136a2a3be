-- The matching of rows to columns: whether there is one, and the rule that finds one.
use Rattle.std.specs.Prelude.{ℕ, zero, suc, true, false, List, [], ◌∷◌, leb, replicate}
use Rattle.graph.specs.Lists.{elem, keep}
use Rattle.graph.specs.Matchings.{Row, Col, Pattern, Perfect, partner}
use Rattle.graph.specs.Paths.{Ending, failed, found, augment}
use Rattle.sparse.specs.Limits.{none}

-- a perfect matching exists
abbrev pub Matchable : ℕ → Pattern → Type 0
Matchable n col = (f : Row → Col) × Perfect n col f

-- the free rows of a list, in order: a row is free where the matching m, a list by row, holds n or more
abbrev pub free_rows : ℕ → List Col → List Row → List Row
free_rows n m rs = keep (λ r. leb n (partner m r)) rs

-- how a search ended, and the columns visited, latest first
pub record Searched : Type 0 where
  pub ending : Ending
  pub visited : List Col

-- a column's rows in list order: past those whose column was visited, into the first other, and where that visit fails, on from there
unfoldable pub scan : (List Col → Col → Searched) → List Col → List Col → List Row → Searched
scan visit m visited [] = record { ending = failed; visited = visited }
scan visit m visited (r ∷ rs) = elim (elem (partner m r) visited) [
  | true ↦ scan visit m visited rs
  | false ↦ let t = visit visited (partner m r) in elim t.ending [
    | found p e ↦ record { ending = found (r ∷ p) e; visited = t.visited }
    | failed ↦ scan visit m t.visited rs
  ]
]

-- at a column's first visit its first free row ends the search; with none its rows are scanned; depth bounds how deep that goes
unfoldable pub search : ℕ → Pattern → List Col → ℕ → List Col → Col → Searched
search n col m zero visited c = record { ending = failed; visited = visited }
search n col m (suc depth) visited c = elim (free_rows n m (col c)) [
  | e ∷ es ↦ record { ending = found [] e; visited = c ∷ visited }
  | [] ↦ scan (search n col m depth) m (c ∷ visited) (col c)
]

-- accepted with the matching, or refused with the column whose search failed and the columns it visited
pub data Verdict : Type 0 where
  accepted : List Col → Verdict
  refused : Col → List Col → Verdict

-- a search from each of the k columns from c on, and the matching moved along each path found
unfoldable pub match_from : ℕ → Pattern → ℕ → Col → List Col → Verdict
match_from n col zero c m = accepted m
match_from n col (suc k) c m = let t = search n col m n [] c in elim t.ending [
  | found p e ↦ match_from n col k (suc c) (augment m c p e)
  | failed ↦ refused c t.visited
]

-- searches from columns 0 to n - 1, starting with every row free
unfoldable pub matching : ℕ → Pattern → Verdict
matching n col = match_from n col n 0 (replicate n none)
