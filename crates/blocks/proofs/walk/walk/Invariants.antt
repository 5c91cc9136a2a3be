-- `walk` meets its contract. The invariant: what stands on the stack leads to the rule's walk; each arm keeps it by a law of its own.
use Rattle.blocks.proofs.Arms.{weight}
use Rattle.blocks.proofs.Whole.{goal_of}
use Rattle.blocks.proofs.Walking.{Walk}
use Rattle.sparse.specs.Columns.{edited_columns}
use Rattle.std.proofs.Common.{get_or}
use Rattle.blocks.proofs.walk.walk.Given as goal

abbrev pub invariant-loop-depth : goal.invariant-loop-depth
invariant-loop-depth l =
    Walk (goal_of l.mat.mat.size (edited_columns l.mat) l.row2col (get_or l.initial.scol 0 0)
    l.initial.entered l.initial.finished l.initial.e l.initial.f) l.mark
    (record {
      stamps = l.initial.visited;
      cols = l.initial.scol;
      places = l.initial.sat;
      entered = l.initial.entered;
      finished = l.initial.finished;
    })
    (record { stamps = l.visited; cols = l.scol; places = l.sat; entered = l.entered; finished = l.finished }) l.e l.f l.depth

abbrev pub decreases-loop-depth : goal.decreases-loop-depth
decreases-loop-depth l =
    weight l.mat.mat.size l.e l.f l.depth
