use Rattle.std.proofs.Common.{arith, sym, ◌∙◌}
use Rattle.sparse.proofs.Marks.{mark_more, mark_none}
use Rattle.sparse.proofs.Scans.{scan_found, scan_more}
use Rattle.sparse.proofs.checks.mark.Goals as goal

pub loop-k-init : goal.loop-k-init
loop-k-init c = (sym (mark_none _ _ _), λ i j a b e. omega arith)

pub returns-then-get-ne0-clause-again : goal.returns-then-get-ne0-clause-again
returns-then-get-ne0-clause-again c = (
  omega arith,
  c.loop-k.invariant.1,
  scan_found c.args.col.now c.loop-k.k c.args.marks.now (c.requires.1 c.loop-k.k (omega arith))
      (λ e. c.if-get-ne0.true (c.get.ensures ∙ rw c.loop-k.invariant.0 e)),
)

pub loop-k-preserved : goal.loop-k-preserved
loop-k-preserved c = (
  c.put.ensures ∙ rw c.loop-k.invariant.0 (mark_more _ _ _ _),
  scan_more c.args.col.now c.loop-k.k c.loop-k.invariant.1 c.args.marks.now (c.requires.0 c.loop-k.k (omega arith))
      (rw c.loop-k.invariant.0 at (sym c.get.ensures ∙ c.if-get-ne0.false)),
)
