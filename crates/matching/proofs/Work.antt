-- Slices that stay, and a search's slices over two calls.
use Rattle.std.proofs.Common.{ℕ, List, ap, ◌∙◌}
use Rattle.matching.specs.Work.{holding, SameSlices, Stays, SameWork}
use Rattle.matching.specs.declared.search.SearchWork.{SearchWork}

-- what stays twice stays
pub stays_then : {n : ℕ} {a b c : List ℕ} → Stays n a b → Stays n b c → Stays n a c
stays_then S T = record { same_length = T.same_length ∙ S.same_length; beyond = T.beyond ∙ S.beyond }

-- slices that are the same twice are the same
pub slices_then : (u v w : SearchWork) → SameSlices u v → SameSlices v w → SameSlices u w
slices_then u v w e f = f ∙ ap (λ x. holding x w.visited.now w.cheap.now w.scol.now w.sat.now) e

pub work_then : {n : ℕ} {u v w : SearchWork} → SameWork n u v → SameWork n v w → SameWork n u w
work_then {u = u} {v = v} {w = w} S T = record {
  slices = slices_then u v w S.slices T.slices;
  visited = stays_then S.visited T.visited;
  cheap = stays_then S.cheap T.cheap;
  cols = stays_then S.cols T.cols;
  places = stays_then S.places T.places;
}
