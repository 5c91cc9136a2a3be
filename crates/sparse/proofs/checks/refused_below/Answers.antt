use Rattle.std.proofs.Common.{sym, ◌∙◌}
use Rattle.sparse.proofs.Refusals.{some_passed, refused_found, passed_found}
use Rattle.sparse.proofs.checks.refused_below.Goals as goal

pub returns-then-not-some_below : goal.returns-then-not-some_below
returns-then-not-some_below g c = λ p at h r. sym (some_passed at p c.args.n (sym (c.some_below.ensures p h) ∙ c.if-not-some_below.true))

pub returns-in-Some : goal.returns-in-Some
returns-in-Some g c =
    λ p at h r. rw (r c.in-Some.k _ c.in-Some.ensures.below c.refusal.ensures)
    (sym (refused_found at p c.args.n c.in-Some.k (sym (c.first_below.ensures.found p h) ∙ c.in-Some.is)))

pub returns : goal.returns
returns g c = λ p at h r. sym (passed_found at p c.args.n (sym (c.first_below.ensures.found p h) ∙ c.in-None.is))
