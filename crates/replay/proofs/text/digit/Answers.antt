-- `digit` meets its contract: what std says of a digit's value is the definition.
use Rattle.std.proofs.Common.{◌≡◌, ℕ, ◌<◌, Option, Some, None, MatchOption, SomeIff, arith, inl, inr}
use Rattle.std.proofs.lemmas.Bool.Decides.{nat_tests}
use Rattle.std.specs.Char.{NotDecimalDigitIn, IsDigitOf, digit_value}
use Rattle.replay.specs.Text.{digit_of}
use Rattle.replay.proofs.text.digit.Goals as goal

digit_is : (r : Option ℕ) (b : ℕ) → MatchOption r (NotDecimalDigitIn 10 b) (IsDigitOf b)
    → SomeIff r (digit_value b < 10) (digit_value b) → r ≡ digit_of b
unfolding digit_of
digit_is None b m v = grind (arith, nat_tests)
digit_is (Some d) b (inl m) v = grind (arith, nat_tests)
digit_is (Some d) b (inr m) v = grind (arith, nat_tests)

pub returns : goal.returns
returns c =
    let h = c.to_digit.ensures in
    rw (← c.from.ensures) (digit_is c.to_digit.result c.from.result h.cases h.value)
