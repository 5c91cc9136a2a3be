-- `has_row` meets its contract: the part is the column.
use Rattle.std.proofs.Common.{◌∙◌, eqb, rules, tests}
use Rattle.std.proofs.lemmas.Iterator.{YieldsList-from_slice}
use Rattle.std.proofs.lemmas.Iterator.Search.{any_from_yields_List}
use Rattle.rematching.proofs.Scans.{elem_any}
use Rattle.rematching.proofs.checks.has_row.Goals as goal

pub returns : goal.returns
returns c =
    any_from_yields_List (λ s. eqb s c.args.row.0) _ _ _ c.any.ensures.ran (YieldsList-from_slice _ c.iter.ensures.rest)
    (λ x b q k. search (rules, tests))
    ∙ elem_any c.args.row.0 _ ∙ rw c.col_rows.ensures
