-- Reachability in a directed graph on numbers, given by its edges.
use Rattle.std.specs.Prelude.{ℕ}

-- b is reached from a along edges
pub data Reach (Edge : ℕ → ℕ → Type 0) : ℕ → ℕ → Type 0 where
  here : {a : ℕ} → Reach Edge a a
  step : {a b c : ℕ} → Edge a b → Reach Edge b c → Reach Edge a c

-- each reaches the other: they are strongly connected
abbrev pub Both : (ℕ → ℕ → Type 0) → ℕ → ℕ → Type 0
Both Edge a b = Reach Edge a b × Reach Edge b a
