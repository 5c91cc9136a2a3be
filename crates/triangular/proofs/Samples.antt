-- The outcome of each sample is the one expected, by computing it.
use Rattle.std.proofs.Common.{◌≡◌, refl, map}
use mathlib.Core.List.{flatten}
use Rattle.graph.specs.Counting.{first, some}
use Rattle.graph.specs.Lists.{keep, table, range}
use Rattle.graph.specs.Blocks.{finishing, cut, blocks}
use Rattle.sparse.specs.Refusals.{first_refusal, refused_if, refused_at, too_large, misshapen, one_short, no_room, row_outside, early}
use Rattle.sparse.specs.Refusals.{together, repeats_at, repeated_row, number_of, place_of}
use Rattle.matching.specs.Matching.{scan, search, match_from, matching}
use Rattle.matching.specs.Outcome.{marks_of}
use Rattle.triangular.specs.Outcome.{formed, outcome}
use Rattle.triangular.specs.Samples.{FormSample, form_samples, form_answers}

pub samples_hold : map (λ (s : FormSample). outcome s.size s.starts s.rows s.before) form_samples
    ≡ map (λ (s : FormSample). s.gives) form_samples
unfolding flatten first some keep table range finishing cut blocks first_refusal refused_if refused_at too_large misshapen one_short no_room
    row_outside early together repeats_at repeated_row scan search match_from matching marks_of formed outcome
samples_hold = refl

-- and its answer crosses to C with the number and the place that the table gives
pub answers_hold : map (λ (s : FormSample). (number_of s.gives.answer, place_of s.gives.answer)) form_samples ≡ form_answers
answers_hold = refl
