-- `check_growth` meets its contract: a column lies within the entries.
use Rattle.std.proofs.Common.{arith, ◌∙◌}
use Rattle.sparse.proofs.Matrix.{column_end}
use Rattle.rematching.specs.Checks.{grown_too_large}
use Rattle.rematching.proofs.checks.check_growth.Goals as goal

pub overflow_sub-kept : goal.overflow_sub-kept
overflow_sub-kept c =
    omega (arith, c.col_len.ensures, column_end c.args.mat.now.shaped c.args.edit.now.column.0 c.requires.0)

pub returns : goal.returns
unfolding grown_too_large
returns c =
    c.when.ensures ∙ rw c.col_len.ensures
