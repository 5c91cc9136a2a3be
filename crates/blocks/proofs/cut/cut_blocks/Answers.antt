use Rattle.std.proofs.Common.{arith}
use Rattle.blocks.proofs.Cutting.{seconds_start, seconds_column, seconds_room, seconds_old, seconds_new, seconds_end}
use Rattle.blocks.proofs.Passes.{pass_ready}
use Rattle.blocks.proofs.cut.cut_blocks.Goals as goal

pub loop-i-init : goal.loop-i-init
loop-i-init c =
    seconds_start c.requires.pass_ready c.requires.cut_ready c.clear.ensures c.clear.auto.s

pub walk_new-requires : goal.walk_new-requires
walk_new-requires c =
    let ready = pass_ready c.loop-i.invariant.pass c.get-c.result.0
    (seconds_column c.loop-i.invariant c.loop-i-test.true c.get-c.ensures) in
    record { start_lt_size = ready.0; walk_ready = ready.1 }

pub loop-i-preserved-in_default : goal.loop-i-preserved-in_default
loop-i-preserved-in_default c =
    seconds_old c.loop-i.invariant c.loop-i-test.true c.get-c.ensures c.in_default.ensures.walked c.in_default.ensures.walk_ends
    c.in_default.ensures.same_from

pub overflow_add-blocks : goal.overflow_add-blocks
overflow_add-blocks c =
    omega (
      arith,
      c.args.mat.now.shaped.small,
      seconds_room c.loop-i.invariant c.loop-i-test.true c.get-c.ensures c.in-Some.ensures.walked c.in-Some.ensures.walk_ends,
    )

pub put-requires : goal.put-requires
put-requires c =
    omega (
      arith,
      c.loop-i.invariant.starts_long,
      seconds_room c.loop-i.invariant c.loop-i-test.true c.get-c.ensures c.in-Some.ensures.walked c.in-Some.ensures.walk_ends,
    )

pub overflow_add-blocks-in-loop-i : goal.overflow_add-blocks-in-loop-i
overflow_add-blocks-in-loop-i c =
    omega (
      arith,
      c.args.mat.now.shaped.small,
      seconds_room c.loop-i.invariant c.loop-i-test.true c.get-c.ensures c.in-Some.ensures.walked c.in-Some.ensures.walk_ends,
    )

pub loop-i-preserved : goal.loop-i-preserved
loop-i-preserved c =
    seconds_new c.loop-i.invariant c.loop-i-test.true c.get-c.ensures c.in-Some.ensures.walked c.in-Some.ensures.walk_ends
    c.in-Some.ensures.same_from c.put.ensures c.put.auto.s

pub returns-clause-holds_blocks : goal.returns-clause-holds_blocks
returns-clause-holds_blocks c =
    seconds_end c.loop-i.invariant (omega (arith, c.loop-i-test.false)) c.clear.ensures
