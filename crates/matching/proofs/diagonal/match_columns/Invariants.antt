-- `match_columns` meets its contract. The invariant: the searches from column c on lead to the rule's verdict.
use Rattle.matching.proofs.Columns.{Going}
use Rattle.sparse.specs.Columns.{columns}
use Rattle.matching.proofs.diagonal.match_columns.Given as goal

abbrev pub invariant-loop-c : goal.invariant-loop-c
invariant-loop-c l = Going l.mat.mat.size (columns l.mat.mat) l.c l.initial.work l.initial.row2col l.work l.row2col
