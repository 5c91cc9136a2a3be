-- The lent slices over several calls: as long as they were, and as they were beyond the needs.
use Rattle.std.proofs.Common.{ℕ, List, ◌≡◌, refl, ap, ◌∙◌, subst, length, drop, ◌≤◌}
use Rattle.std.specs.Borrow.{MutBor}
use Rattle.graph.specs.Permutations.{inverse}
use Rattle.graph.proofs.Permutations.{length-inverse}
use Rattle.sparse.specs.Buffers.{zeroed, filled}
use Rattle.sparse.proofs.Buffers.{drop-zeroed, drop-filled}
use Rattle.matching.specs.Work as searches
use Rattle.matching.specs.Work.{Stays}
use Rattle.matching.specs.declared.search.SearchWork.{SearchWork}
use Rattle.matching.proofs.Work.{stays_then}
use Rattle.blocks.specs.Walk.{SliceFrom}
use Rattle.triangular.specs.Outcome.{Work, work, cleared}
use Rattle.triangular.specs.Parts.{SameWork}

unchanged : {n : ℕ} (xs : List ℕ) → Stays n xs xs
unchanged xs = record { same_length = refl; beyond = refl }

-- a slice that is cleared below n
pub zeroed_stays : {n : ℕ} {xs ys : List ℕ} → ys ≡ zeroed n xs → length ys ≡ length xs → Stays n xs ys
zeroed_stays {n} {xs} e l = record { same_length = l; beyond = ap (drop n) e ∙ drop-zeroed n xs }

-- a slice that a walk wrote, and one that a second walk wrote after it
pub walk_stays : {n : ℕ} {s t : MutBor (List ℕ)} {xs : List ℕ} → SliceFrom n s t → xs ≡ t.now → Stays n s.now xs
walk_stays S e = rw e (record { same_length = S.same_length; beyond = S.beyond })

pub walks_stay : {n : ℕ} {s t u v : MutBor (List ℕ)} {xs : List ℕ} → SliceFrom n s t → SliceFrom n u v → u.now ≡ t.now → xs ≡ v.now
    → Stays n s.now xs
walks_stay S T e f = stays_then (walk_stays S e) (walk_stays T f)

-- a slice that a walk wrote has its room
pub walk_long : {n : ℕ} {s t : MutBor (List ℕ)} {xs : List ℕ} → SliceFrom n s t → n ≤ length s.now → xs ≡ t.now → n ≤ length xs
walk_long S l e = rw (e, S.same_length) l

-- a slice that was filled with the inverse
pub inverse_stays : {n : ℕ} (m : List ℕ) {xs ys : List ℕ} → ys ≡ filled (inverse n m) xs → length ys ≡ length xs → Stays n xs ys
inverse_stays {n} m {xs} e l = record {
  same_length = l;
  beyond = ap (drop n) e ∙ subst (λ k. drop k (filled (inverse n m) xs) ≡ drop k xs) (length-inverse n m) (drop-filled (inverse n m) xs);
}

-- what stays twice stays
pub same_then : {n k : ℕ} {u v w : Work} → SameWork n k u v → SameWork n k v w → SameWork n k u w
same_then S T = record {
  visited = stays_then S.visited T.visited;
  cheap = stays_then S.cheap T.cheap;
  finished = stays_then S.finished T.finished;
  col2row = stays_then S.col2row T.col2row;
  backstarts = stays_then S.backstarts T.backstarts;
  backrows = stays_then S.backrows T.backrows;
  cols = stays_then S.cols T.cols;
  places = stays_then S.places T.places;
}

-- the matching changes four slices of the workspace, below the need
pub matching_same : {n k : ℕ} (f r b q : List ℕ) {s t : SearchWork} {x : Work} → searches.SameWork n s t
    → x ≡ work t.visited.now t.cheap.now f r b q t.scol.now t.sat.now
    → SameWork n k (work s.visited.now s.cheap.now f r b q s.scol.now s.sat.now) x
matching_same f r b q S e = rw e (record {
  visited = S.visited;
  cheap = S.cheap;
  finished = unchanged f;
  col2row = unchanged r;
  backstarts = unchanged b;
  backrows = unchanged q;
  cols = S.cols;
  places = S.places;
})

-- workspaces that are the same beyond the needs are cleared to the same
pub same_cleared : (size k : ℕ) (w w' : Work) → SameWork size k w w' → cleared size k w' ≡ cleared size k w
same_cleared size k w w' S =
    rw (
      S.visited.beyond,
      S.cheap.beyond,
      S.finished.beyond,
      S.col2row.beyond,
      S.backstarts.beyond,
      S.backrows.beyond,
      S.cols.beyond,
      S.places.beyond,
    )
