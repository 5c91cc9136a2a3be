use Rattle.std.proofs.Common.{sym, ◌∙◌}
use Rattle.sparse.proofs.Marks.{mark_more, mark_none}
use Rattle.sparse.proofs.checks.unmark.Goals as goal

pub loop-row-init : goal.loop-row-init
loop-row-init c = sym (mark_none _ _ _)

pub loop-row-preserved : goal.loop-row-preserved
loop-row-preserved c = c.put.ensures ∙ rw c.loop-row.invariant (mark_more _ _ _ _)
