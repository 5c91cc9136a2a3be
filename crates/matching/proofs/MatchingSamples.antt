-- The contract of the matching admits one outcome; and the samples.
use Rattle.std.proofs.Common.{ℕ, ◌≡◌, refl, sym, ◌∙◌, List, map}
use Rattle.graph.specs.Counting.{first, some}
use Rattle.graph.specs.Lists.{keep, table}
use Rattle.graph.specs.Matchings.{Row}
use Rattle.sparse.specs.Refusals.{first_refusal, refused_if, refused_at, too_large, misshapen, one_short, no_room, row_outside, early}
use Rattle.sparse.specs.Refusals.{together, repeats_at, repeated_row, number_of, place_of}
use Rattle.matching.specs.Matching.{scan, search, match_from, matching}
use Rattle.matching.specs.MatchingSamples.{MatchingSample, matching_samples, matching_answers}
use Rattle.matching.specs.Outcome.{Lent, Outcome, outcome, marks_of}

-- two ends that meet the contract on the same input are one: the same answer, and the same in every buffer
pub single : (size : ℕ) (starts : List ℕ) (rows : List Row) (l : Lent) (x y : Outcome)
    → x ≡ outcome size starts rows l → y ≡ outcome size starts rows l → x ≡ y
single size starts rows l x y e f = e ∙ sym f

-- every sample comes out as it says
pub samples_hold : map (λ (s : MatchingSample). outcome s.size s.starts s.rows s.before) matching_samples
    ≡ map (λ (s : MatchingSample). s.gives) matching_samples
unfolding first some keep table first_refusal refused_if refused_at too_large misshapen one_short no_room row_outside early
    together repeats_at repeated_row scan search match_from matching marks_of outcome
samples_hold = refl

-- and its answer crosses to C with the number and the place that the table gives
pub answers_hold : map (λ (s : MatchingSample). (number_of s.gives.answer, place_of s.gives.answer)) matching_samples ≡ matching_answers
answers_hold = refl
