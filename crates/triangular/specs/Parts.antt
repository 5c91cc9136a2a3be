-- What the parts of the block form say to one another: what they leave of what is lent.
use Rattle.std.specs.Prelude.{ℕ, ◌+◌, ◌≡◌}
use Rattle.matching.specs.Work.{Stays}
use Rattle.triangular.specs.declared.form.FormWork.{FormWork}
use Rattle.triangular.specs.declared.form.FormOutputs.{FormOutputs}
use Rattle.triangular.specs.Outcome.{Work, held_work, holding_work, held_outputs, holding_outputs}

-- the same slices of the workspace and the stack, whatever they hold
abbrev pub SameSlices : FormWork → FormWork → Type 0
SameSlices before after = after ≡ holding_work before (held_work after)

-- the same slices of the outputs, whatever they hold
abbrev pub SameOutputs : FormOutputs → FormOutputs → Type 0
SameOutputs before after = after ≡ holding_outputs before (held_outputs after)

-- workspace and stack are as long as they were, and the same beyond what a block form of n columns and k entries needs
pub record SameWork (n k : ℕ) (before after : Work) : Type 0 where
  pub visited : Stays n before.visited after.visited
  pub cheap : Stays n before.cheap after.cheap
  pub finished : Stays n before.finished after.finished
  pub col2row : Stays n before.col2row after.col2row
  pub backstarts : Stays (n + 1) before.backstarts after.backstarts
  pub backrows : Stays k before.backrows after.backrows
  pub cols : Stays n before.scol after.scol
  pub places : Stays n before.sat after.sat
