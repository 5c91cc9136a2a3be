-- The blocks of two perfect matchings of one matrix are the same sets of columns, with the same rows.
use Rattle.std.proofs.Common.{ℕ, List}
use mathlib.Core.Logic.Iff
use Rattle.graph.specs.Matchings.{Row, Col, Pattern, Perfect, Points}
use Rattle.graph.specs.Blocks.{BlockForm, SameBlocks}
use Rattle.graph.proofs.Matchings.{same_blocks, same_rows}

pub same_sets : {n : ℕ} {col : Pattern} {f g : Row → Col} {bs bs' : List (List Col)} → Perfect n col f → Perfect n col g
    → BlockForm n (Points n col f) bs → BlockForm n (Points n col g) bs' → SameBlocks n f g bs bs'
same_sets {f = f} {g = g} P Q B B' c i j k l = (
  λ d. Iff.trans (B.same i c d k) (Iff.trans (same_blocks P Q c d) (Iff.symm (B'.same j c d l))),
  λ r q. Iff.trans (B.same i c (f r) k) (Iff.trans (same_rows P Q c r q) (Iff.symm (B'.same j c (g r) l))),
)
