-- `read_numbers` meets its contract. The invariant: storing on after the numbers so far gives what the whole text does.
use Rattle.std.proofs.Common.{◌≡◌, [], length}
use Rattle.replay.specs.Text.{stored_from}
use Rattle.replay.proofs.Stores.{onward}
use Rattle.replay.proofs.text.read_numbers.Given as goal

abbrev pub invariant-loop-count : goal.invariant-loop-count
invariant-loop-count l =
    onward l.numbers l.count l.text l.at ≡ stored_from [] (length l.initial.numbers) l.text 0
