-- `find_diag_matching` meets its contract: each exit is a law of the outcome, which has the meaning.
use Rattle.std.proofs.Common.{arith, Err, sym, ap, refl, ◌∙◌}
use Rattle.std.proofs.lemmas.Result.{err_from_is_err_and}
use Rattle.sparse.specs.Refusals.{Checked, checked}
use Rattle.sparse.proofs.Early.{early_passed}
use Rattle.matching.specs.declared.search.SearchWork.{SearchWork}
use Rattle.matching.specs.Outcome.{lent_by, ended}
use Rattle.matching.proofs.Outcome.{early_outcome, tested_outcome, outcome_means, cleared_same, filled_beyond}
use Rattle.matching.proofs.Work.{slices_then}
use Rattle.matching.proofs.diagonal.find_diag_matching.Goals as goal

pub returns-in_err-mat : goal.returns-in_err-mat
returns-in_err-mat c =
    let p = err_from_is_err_and c.from_residual.result c.from_residual.ensures.1 in
    let l = lent_by c.args.work.now c.args.row2col.now c.args.hall.now in
    let o = ap (λ (a : Checked). ended a l) (p.1 ∙ ap (λ r. Err r) p.2)
    ∙ early_outcome _ _ _ l _ (sym (c.check_early.ensures.value _ c.lacks_room-short.ensures) ∙ ap checked c.in_err-mat.was) in
    record { outcome = o; meaning = outcome_means _ _ _ _ _ _ o; same_slices = refl }

pub clear-requires : goal.clear-requires
clear-requires c =
    (early_passed _ _ _ _ (sym (c.check_early.ensures.value _ c.lacks_room-short.ensures) ∙ ap checked c.in_ok-mat.was)).room.0

pub match_tested-answer-requires-clause-roomy : goal.match_tested-answer-requires-clause-roomy
match_tested-answer-requires-clause-roomy c =
    let early = early_passed _ _ _ _ (sym (c.check_early.ensures.value _ c.lacks_room-short.ensures) ∙ ap checked c.in_ok-mat.was) in
    rw c.in_ok-mat.ensures.size (omega (arith, early.room.0, c.clear.auto), early.room.1)

pub clear_work-requires : goal.clear_work-requires
clear_work-requires c =
    let early = early_passed _ _ _ _ (sym (c.check_early.ensures.value _ c.lacks_room-short.ensures) ∙ ap checked c.in_ok-mat.was) in
    let W = c.match_tested-answer.ensures.same_work in (
      omega (arith, early.room.0, c.clear.auto, W.visited.same_length),
      omega (arith, early.room.1.0, W.cheap.same_length),
      omega (arith, early.room.1.1.0, W.cols.same_length),
      omega (arith, early.room.1.1.1.0, W.places.same_length),
    )

pub returns : goal.returns
returns c =
    let l = lent_by c.args.work.now c.args.row2col.now c.args.hall.now in
    let new = c.match_tested-answer.new in
    let W = rw c.in_ok-mat.ensures.size at c.match_tested-answer.ensures.same_work in
    let gives = rw (c.in_ok-mat.ensures.size, c.in_ok-mat.ensures.starts, c.in_ok-mat.ensures.rows)
    at c.match_tested-answer.ensures.hall_after l refl refl in
    let visited = W.visited.beyond ∙ filled_beyond c.args.size 0 c.args.work.now.visited.now c.clear.ensures in
    let o = ap (λ (w : SearchWork). ended c.match_tested-answer.result (lent_by w new.row2col new.hall)) c.clear_work.ensures
    ∙ ap (ended c.match_tested-answer.result) (cleared_same c.args.size l (lent_by new.work new.row2col new.hall) new.row2col new.hall
    visited W.cheap.beyond W.cols.beyond W.places.beyond)
    ∙ gives ∙ tested_outcome _ _ _ _ (sym (c.check_early.ensures.value _ c.lacks_room-short.ensures) ∙ ap checked c.in_ok-mat.was) in
    record {
      outcome = o;
      meaning = outcome_means _ _ _ _ _ _ o;
      same_slices = slices_then c.args.work.now new.work _ W.slices (rw c.clear_work.ensures refl);
    }
