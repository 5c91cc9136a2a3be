-- `holding` meets its contract: each call gives what the list has, or junk.
use Rattle.std.proofs.Common.{ℕ, get_or, zero-add, arith, rules}
use Rattle.replay.specs.declared.lists.TheConstants.{LENT, JUNK}
use Rattle.replay.proofs.Elements.{from_fn_at}
use Rattle.replay.proofs.lists.holding.Goals as goal

pub returns : goal.returns
returns c =
    let has = λ (k : ℕ). get_or c.args.list.now k JUNK in
    λ i l.
    from_fn_at _ _ has (λ k y q call. search rules) c.from_fn.result 0 LENT c.from_fn.ensures.items.each i i (omega (arith, l)) (zero-add i)
