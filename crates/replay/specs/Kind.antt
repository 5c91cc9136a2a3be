-- The kinds of cases, and the numbers that stand for them in a text.
use Rattle.std.specs.Prelude.{◌≡◌, ℕ, Result, MatchResult}
use Rattle.replay.specs.declared.kind.Kind.{Kind}
use Rattle.replay.specs.declared.kind.Kind.TheVariants.{Order, Diagonal, Form, Edit}
use Rattle.replay.specs.declared.kind.UnknownKind.{UnknownKind}

-- the number that stands for a kind
abbrev pub code_of : Kind → ℕ
code_of Order = 1
code_of Diagonal = 2
code_of Form = 3
code_of Edit = 4

-- the result is the kind with this number, or an error with a number that no kind has
abbrev pub Decodes : ℕ → Result Kind UnknownKind → Type 0
Decodes code r =
    MatchResult r (λ kind. code_of kind ≡ code) (λ e. (e.0 ≡ code) × ((kind : Kind) → code_of kind ≡ code → ⊥))
