-- `number_at` meets its contract: what `skip` and `spell` ensure are the parts of its definition.
use Rattle.std.proofs.Common.{Some, sym, ap, ◌∙◌}
use Rattle.replay.specs.Text.{number_at}
use Rattle.replay.proofs.text.number_at.Goals as goal

pub returns-in_err-start : goal.returns-in_err-start
unfolding number_at
returns-in_err-start c =
    c.from_residual.ensures ∙ rw (sym c.skip.ensures.value, c.in_err-start.was)

pub returns : goal.returns
unfolding number_at
returns c =
    rw (sym c.skip.ensures.value, c.in_ok-start.was) (ap Some c.spell.ensures)
