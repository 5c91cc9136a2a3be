use Rattle.std.proofs.Common.{sym, ◌∙◌, eqb-true}
use Rattle.sparse.proofs.Rises.{rise_apart}
use Rattle.sparse.proofs.checks.all_rise.Goals as goal

pub returns : goal.returns
returns c =
    λ e. rise_apart c.args.mat.now.shaped (sym c.count_row_falls.ensures ∙ eqb-true _ _ e ∙ c.count_falls_between.ensures)
