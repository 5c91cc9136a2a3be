-- `skip` meets its contract: what `find` says of the places gives the place that the definition does.
use Rattle.std.proofs.Common.{◌≡◌, true, false, is_some, get_or, rules, tests}
use Rattle.std.proofs.lemmas.Iterator.{first_from_Range}
use Rattle.replay.specs.Text.{digit_of}
use Rattle.replay.proofs.Turns.{skips}
use Rattle.replay.proofs.text.skip.Goals as goal

pub returns-clause-value : goal.returns-clause-value
returns-clause-value c =
    let text = c.args.text.now in
    skips text c.args.from c.find.result (first_from_Range _ _ _ _ (λ k. is_some (digit_of (get_or text k 0)) ≡ true)
    (λ k. is_some (digit_of (get_or text k 0)) ≡ false) c.find.ensures.ran (λ x q k. search (rules, tests))
    (λ x q k. search (rules, tests)))
