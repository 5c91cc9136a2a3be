-- `find_repeat` meets its contract: the marks that are set, and no others, are taken away again.
use Rattle.std.proofs.Common.{ap, ◌∙◌, length, take}
use Rattle.sparse.specs.Parts.{marked}
use Rattle.sparse.proofs.Marks.{unmark_taken}
use Rattle.sparse.proofs.Scans.{first_again_le}
use Rattle.sparse.proofs.checks.find_repeat.Goals as goal

pub returns-clause-marks_unchanged : goal.returns-clause-marks_unchanged
returns-clause-marks_unchanged c =
    let col = c.args.col.now in
    let again = c.mark-place.ensures.again in
    c.unmark.ensures
    ∙ rw (c.mark-place.ensures.marks_after, c.unwrap_or.ensures)
    (unmark_taken col _ c.args.marks.now (first_again_le col _ again) c.requires.1)
