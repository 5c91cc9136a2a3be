-- `any_short` meets its contract: the test of each length against its need is the test of the buffers.
use Rattle.std.proofs.Common.{◌∙◌, ltb, rules, tests}
use Rattle.std.proofs.lemmas.Iterator.{YieldsList-from_slice}
use Rattle.std.proofs.lemmas.Iterator.Search.{any_from_yields_List}
use Rattle.sparse.proofs.Room.{short_pairs}
use Rattle.sparse.proofs.checks.any_short.Goals as goal

pub returns : goal.returns
returns c =
    any_from_yields_List (λ b. ltb b.0 b.1) _ _ _ c.any.ensures.ran (YieldsList-from_slice _ c.iter.ensures.rest)
    (λ x b q k. search (rules, tests))
    ∙ short_pairs _
