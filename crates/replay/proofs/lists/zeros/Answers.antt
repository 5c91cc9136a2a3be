-- `zeros` meets its contract.
use Rattle.std.proofs.lemmas.List.{take-replicate}
use Rattle.replay.specs.declared.lists.TheConstants.{LENT_ENTRIES}
use Rattle.replay.proofs.lists.zeros.Goals as goal

pub returns : goal.returns
returns c = take-replicate c.args.count LENT_ENTRIES 0 c.requires
