-- The outcome of each sample is the one expected, by computing it.
use Rattle.std.proofs.Common.{◌≡◌, refl, map}
use mathlib.Core.List.{flatten}
use Rattle.graph.specs.Counting.{first, some}
use Rattle.graph.specs.Lists.{keep, table, range}
use Rattle.graph.specs.Blocks.{finishing, cut, blocks}
use Rattle.sparse.specs.Refusals.{first_refusal, refused_if, refused_at, too_large, misshapen, one_short, no_room, row_outside, early}
use Rattle.sparse.specs.Refusals.{together, repeats_at, repeated_row, number_of, place_of}
use Rattle.matching.specs.Matching.{scan, search}
use Rattle.matching.specs.Outcome.{marks_of}
use Rattle.rematching.specs.Checks.{column_outside, unfit_row, mismatched_row, grown_too_large, late}
use Rattle.rematching.specs.Rematching.{rematching}
use Rattle.edit.specs.Outcome.{replaced, outcome}
use Rattle.edit.specs.EditSamples.{EditSample, edit_samples, edit_answers}

-- each sample gives what it should
pub samples_hold : map (λ (s : EditSample). outcome s.size s.starts s.rows s.edited s.new s.before) edit_samples
    ≡ map (λ (s : EditSample). s.gives) edit_samples
unfolding flatten first some keep table range finishing cut blocks first_refusal refused_if refused_at too_large misshapen one_short no_room
    row_outside early together repeats_at repeated_row scan search marks_of column_outside unfit_row mismatched_row grown_too_large late
    rematching replaced outcome
samples_hold = refl

-- and its answer crosses to C with the number and the place that the table gives
pub answers_hold : map (λ (s : EditSample). (number_of s.gives.answer, place_of s.gives.answer)) edit_samples ≡ edit_answers
answers_hold = refl
