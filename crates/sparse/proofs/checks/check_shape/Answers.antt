use Rattle.std.proofs.Common.{◌∙◌, eq-eqb, ne_eqb}
use Rattle.sparse.specs.Refusals.{misshapen, refused_if}
use Rattle.sparse.proofs.checks.check_shape.Goals as goal

pub returns-then-starts-size : goal.returns-then-starts-size
unfolding misshapen refused_if
returns-then-starts-size c = simp (ne_eqb _ _ c.if-starts-size.true)

pub returns : goal.returns
unfolding misshapen
returns c = c.when.ensures ∙ rw (c.any_falls.ensures, eq-eqb _ _ c.if-starts-size.false)
