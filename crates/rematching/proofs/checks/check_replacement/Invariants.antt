-- `check_replacement` meets its contract. The invariant: the rows before place k are fit and marked, so they are at most n.
use Rattle.rematching.proofs.Replacements.{Marking}
use Rattle.rematching.proofs.checks.check_replacement.Given as goal

abbrev pub invariant-loop-k : goal.invariant-loop-k
invariant-loop-k l = Marking l.size l.replacement l.initial.marks l.marks l.k
