use Rattle.std.proofs.Common.{arith, sym, ◌∙◌}
use Rattle.sparse.proofs.Marks.{mark_more, mark_none}
use Rattle.sparse.proofs.Tallies.{tally_none, tally_read}
use Rattle.sparse.proofs.checks.tally.Goals as goal

pub loop-row-init : goal.loop-row-init
loop-row-init c = (sym (mark_none _ _ _), tally_none _)

pub overflow_add-seen : goal.overflow_add-seen
overflow_add-seen c =
    let counted = tally_read c.args.marks.now c.loop-row.marks c.loop-row.invariant.1 c.loop-row.invariant.0 c.get-seen.ensures
    (c.requires.unmarked.0 c.loop-row.row-index (omega arith)) (c.requires.unmarked.1 c.loop-row.row-index (omega arith)) in
    omega (arith, counted.few)

pub loop-row-preserved : goal.loop-row-preserved
loop-row-preserved c = (
  c.put.ensures ∙ rw c.loop-row.invariant.0 (mark_more _ _ _ _),
  tally_read c.args.marks.now c.loop-row.marks c.loop-row.invariant.1 c.loop-row.invariant.0 c.get-seen.ensures
      (c.requires.unmarked.0 c.loop-row.row-index (omega arith)) (c.requires.unmarked.1 c.loop-row.row-index (omega arith)),
)
