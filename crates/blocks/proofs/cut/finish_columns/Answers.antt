use Rattle.blocks.proofs.Passes.{firsts_more, firsts_end}
use Rattle.blocks.proofs.cut.finish_columns.Goals as goal

pub loop-c-preserved : goal.loop-c-preserved
loop-c-preserved c =
    rw c.unwrap_or-count.ensures
    (firsts_more c.loop-c.invariant c.loop-c-test.true c.walk_new.ensures.walk_ends c.walk_new.ensures.same_from)

pub returns-clause-finished : goal.returns-clause-finished
returns-clause-finished c =
    firsts_end c.loop-c.invariant c.loop-c-test.false
