use Rattle.std.proofs.Common.{◌≡◌, false, length, take, Some, sym, ap, ◌∙◌, arith}
use Rattle.std.proofs.lemmas.List.{set-get_or}
use Rattle.replay.specs.Text.{stored}
use Rattle.replay.proofs.Stores.{store_full, store_large, store_end, store_number}
use Rattle.replay.proofs.text.read_numbers.Goals as goal

pub returns-in-Some-Err-clause-whole_after : goal.returns-in-Some-Err-clause-whole_after
returns-in-Some-Err-clause-whole_after c =
    rw (set-get_or c.loop-count.numbers c.loop-count.count 0)
    (sym (store_large c.loop-count.numbers c.loop-count.count c.args.text.now c.loop-count.at (omega arith)
    (sym c.number_at.ensures ∙ c.in-Some-Err.is ∙ ap Some c.in-Some-Err.field-0-is)) ∙ c.loop-count.invariant)

pub returns-in-None-clause-whole_after : goal.returns-in-None-clause-whole_after
returns-in-None-clause-whole_after c =
    rw (set-get_or c.loop-count.numbers c.loop-count.count 0)
    (sym (store_end c.loop-count.numbers c.loop-count.count c.args.text.now c.loop-count.at (omega arith)
    (sym c.number_at.ensures ∙ c.in-None.is)) ∙ c.loop-count.invariant)

pub loop-count-preserved : goal.loop-count-preserved
loop-count-preserved c =
    store_number c.loop-count.numbers c.loop-count.count c.args.text.now c.loop-count.at (omega arith)
    (sym c.number_at.ensures ∙ c.in-Some-Ok.is ∙ ap Some c.in-Some-Ok.field-0-is) ∙ c.loop-count.invariant

pub returns-clause-whole_after : goal.returns-clause-whole_after
returns-clause-whole_after c =
    let e : length c.loop-count.numbers ≡ c.loop-count.count = omega arith in
    ap (λ n. stored (take n c.loop-count.numbers) false) e
    ∙ sym (store_full c.loop-count.numbers c.loop-count.count c.args.text.now c.loop-count.at (omega arith)) ∙ c.loop-count.invariant
