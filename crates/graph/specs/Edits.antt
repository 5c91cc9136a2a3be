-- One column of a pattern replaced, and its row freed.
use Rattle.std.specs.Prelude.{ℕ, cond, List, eqb, set}
use Rattle.graph.specs.Counting.{preimage}
use Rattle.graph.specs.Matchings.{Row, Col, Pattern, partner}

-- the pattern with column c₀ replaced
abbrev pub edited : Pattern → Col → List Row → Pattern
edited col c₀ new c = cond (eqb c c₀) new (col c)

-- the row that matching m gives to column c₀
abbrev pub former : ℕ → List Col → Col → Row
former n m c₀ = preimage (partner m) n c₀

-- the matching with that row free: it gets the number x, which is n or more
abbrev pub freed : ℕ → List Col → Col → Col → List Col
freed n m c₀ x = set m (former n m c₀) x
