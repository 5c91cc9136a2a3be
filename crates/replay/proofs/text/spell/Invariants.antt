-- `spell` meets its contract. The invariant: going on from value and end gives the number that the whole does.
use Rattle.std.proofs.Common.{◌≡◌, ◌≤◌, drop}
use Rattle.replay.specs.Text.{spelled}
use Rattle.replay.proofs.text.spell.Given as goal

abbrev pub invariant-loop-end : goal.invariant-loop-end
invariant-loop-end l =
    (l.value ≤ 4294967295) × (spelled l.value l.end (drop l.end l.text) ≡ spelled 0 l.from (drop l.from l.text))
