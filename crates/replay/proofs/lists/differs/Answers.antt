-- `differs` meets its contract: below the list's end the buffer is held against the list, behind it against junk.
use Rattle.std.proofs.Common.{ℕ, ◌+◌, ◌≡◌, ◌≤◌, ◌<◌, min, sym, length, ⊎_elim, arith}
use Rattle.std.proofs.Math.Nat.{min-le_right, le-min}
use Rattle.std.proofs.lemmas.Bool.{cases_lt}
use Rattle.std.proofs.lemmas.List.{get_or_default, get_or_past}
use Rattle.sparse.proofs.Search.{some_zero, some_next}
use Rattle.replay.specs.Lists.{junk, differs_at}
use Rattle.replay.proofs.lists.differs.Goals as goal

-- a place of the buffer that is not in the part it shares with the list is behind the list
past_shared : (long short shared i : ℕ) → shared ≡ min long short → shared ≤ i → i < long → short ≤ i
past_shared long short shared i e l h =
    ⊎_elim (λ k. absurd (omega (arith, le-min {k = i + 1} {a = long} {b = short} (omega (arith, h)) (omega (arith, k)), e, l))) (λ k. k)
    (cases_lt i short)

pub loop-i-init : goal.loop-i-init
loop-i-init c = sym (some_zero (differs_at c.args.buffer.now c.args.list.now))

pub loop-i-preserved : goal.loop-i-preserved
loop-i-preserved c =
    let buffer = c.args.buffer.now in
    let list = c.args.list.now in
    let i = c.loop-i.i in
    let low : i < length list = omega (arith, c.loop-i-test.true, c.min-shared.ensures, min-le_right (length buffer) (length list)) in
    rw (get_or_default list i 0 junk low, c.loop-i.invariant) (some_next (differs_at buffer list) i)

pub loop-i-2-init : goal.loop-i-2-init
loop-i-2-init c =
    let end : c.loop-i.i ≡ c.min-shared.result = omega (arith, c.loop-i-test.false, c.loop-i.auto.i-end) in
    rw (sym end) c.loop-i.invariant

pub loop-i-2-preserved : goal.loop-i-2-preserved
loop-i-2-preserved c =
    let buffer = c.args.buffer.now in
    let list = c.args.list.now in
    let i = c.loop-i-2.i in
    let past = past_shared (length buffer) (length list) c.min-shared.result i c.min-shared.ensures (omega arith) (omega arith) in
    rw c.loop-i-2.invariant (rw (get_or_past list i junk past) at (some_next (differs_at buffer list) i))
