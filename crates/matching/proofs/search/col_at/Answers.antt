-- `col_at` meets its contract.
use Rattle.std.proofs.Common.{ℕ, get_or, ◌∙◌, ap, arith}
use Rattle.matching.proofs.search.col_at.Goals as goal

pub get-requires : goal.get-requires
get-requires c = omega (arith, c.get-r.ensures, c.requires.1 c.args.k c.requires.0)

pub returns : goal.returns
returns c = c.get.ensures ∙ ap (λ (r : ℕ). get_or c.args.row2col.now r 0) c.get-r.ensures
