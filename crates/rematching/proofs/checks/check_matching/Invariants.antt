-- `check_matching` meets its contract. The invariant: no row before r is mismatched, and each of them stands at its column.
use Rattle.sparse.specs.Columns.{columns}
use Rattle.rematching.proofs.Mismatches.{Recording}
use Rattle.rematching.proofs.checks.check_matching.Given as goal

abbrev pub invariant-loop-r : goal.invariant-loop-r
invariant-loop-r l = Recording l.mat.size (columns l.mat) l.row2col l.initial.col2row l.col2row l.r
