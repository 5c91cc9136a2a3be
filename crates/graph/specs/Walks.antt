-- Depth-first walks over any graph that lists the children of each number: the blocks' two walks and the factors' reach.
use Rattle.std.specs.Prelude.{ℕ, zero, suc, cond, List, [], ◌∷◌}
use Rattle.graph.specs.Lists.{elem}

-- a walk so far: what was entered and what was finished, each latest first
pub record Walked : Type 0 where
  pub entered : List ℕ
  pub finished : List ℕ

abbrev pub unwalked : Walked
unwalked = record { entered = []; finished = [] }

abbrev pub enter : ℕ → Walked → Walked
enter c w = record { entered = c ∷ w.entered; finished = w.finished }

abbrev pub finish : ℕ → Walked → Walked
finish c w = record { entered = w.entered; finished = c ∷ w.finished }

-- each listed number in turn
abbrev pub each : (ℕ → Walked → Walked) → List ℕ → Walked → Walked
each go [] w = w
each go (c ∷ cs) w = each go cs (go c w)

-- c is entered unless it was, then its children in list order, then it is finished; the first number bounds the depth
abbrev pub visit : (ℕ → List ℕ) → ℕ → ℕ → Walked → Walked
visit kids zero c w = w
visit kids (suc depth) c w = cond (elem c w.entered) w (finish c (each (visit kids depth) (kids c) (enter c w)))
