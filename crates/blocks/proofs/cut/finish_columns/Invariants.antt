-- `finish_columns` meets its contract. The invariant: the walks from column c on lead to what the rule makes of all.
use Rattle.sparse.specs.Columns.{edited_columns}
use Rattle.blocks.proofs.Passes.{Firsts}
use Rattle.blocks.proofs.cut.finish_columns.Given as goal

abbrev pub invariant-loop-c : goal.invariant-loop-c
invariant-loop-c l =
    Firsts l.mat.mat.size (edited_columns l.mat) l.row2col l.initial.work l.work l.count l.c
