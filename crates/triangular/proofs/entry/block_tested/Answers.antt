-- `block_tested` meets its contract: a repeated row refuses, and else the valid matrix is formed.
use Rattle.std.proofs.Common.{sym, ◌∙◌}
use Rattle.std.proofs.lemmas.Result.{err_from_is_err_and}
use Rattle.sparse.proofs.Matrix.{column_once}
use Rattle.triangular.specs.Outcome.{held_outputs}
use Rattle.triangular.proofs.Outcome.{repeat_formed, verdict_formed}
use Rattle.triangular.proofs.entry.block_tested.Goals as goal

pub returns-in_err-check_repeats-clause-outputs_after : goal.returns-in_err-check_repeats-clause-outputs_after
returns-in_err-check_repeats-clause-outputs_after c =
    let p = err_from_is_err_and c.from_residual.result c.from_residual.ensures.1 in
    λ w. rw (p.1, p.2)
    (repeat_formed _ _ _ w (held_outputs c.args.outputs.now) _ (sym c.check_repeats.ensures.value ∙ c.in_err-check_repeats.was))

pub block_valid-requires-clause-once : goal.block_valid-requires-clause-once
block_valid-requires-clause-once c =
    λ d l. column_once c.args.mat.now.mat.shaped (sym c.check_repeats.ensures.value ∙ c.in_ok-check_repeats.was) d

pub returns-clause-outputs_after : goal.returns-clause-outputs_after
returns-clause-outputs_after c w =
    c.block_valid.ensures.outputs_after w
    ∙ verdict_formed _ _ _ w (held_outputs c.args.outputs.now)
    (sym c.check_repeats.ensures.value ∙ c.in_ok-check_repeats.was)
