-- `cut_blocks` meets its contract. The invariant: the blocks of the columns listed from i on stand in the slices.
use Rattle.sparse.specs.Columns.{edited_columns}
use Rattle.blocks.proofs.Cutting.{Seconds}
use Rattle.blocks.proofs.cut.cut_blocks.Given as goal

abbrev pub invariant-loop-i : goal.invariant-loop-i
invariant-loop-i l =
    Seconds l.mat.mat.size (edited_columns l.mat) l.row2col l.finished l.initial.work l.initial.blockstarts
    l.work l.blockstarts l.blocks l.count l.i
