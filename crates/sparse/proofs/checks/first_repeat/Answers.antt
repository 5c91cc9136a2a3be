use Rattle.std.proofs.Common.{arith, sym, ◌∙◌, ◌≡◌, length, get_or, ◌+◌}
use Rattle.sparse.proofs.Matrix.{column_end, column_length}
use Rattle.sparse.proofs.Refusals.{found_at, found_none}
use Rattle.sparse.proofs.Scans.{none_scanned, one_scanned}
use Rattle.sparse.proofs.checks.first_repeat.Goals as goal

pub returns-in-Some-clause-value : goal.returns-in-Some-clause-value
returns-in-Some-clause-value c =
    let mat = c.args.mat.now.mat in
    let i = c.loop-c.c in
    let k = c.in-Some.k in
    let told = rw c.col_rows.ensures at c.in-Some.ensures.again in
    let long = column_length mat.shaped i (omega arith) in
    rw c.get-lo.ensures
    (sym (found_at _ _ (get_or mat.starts.now i 0 + k) (omega (arith, told.0, long, column_end mat.shaped i (omega arith)))
    (none_scanned mat.shaped i k (omega arith) (omega (arith, told.0)) told.1 c.loop-c.invariant.1)
    (one_scanned mat.shaped i k (omega arith) told.0 told.2)))

pub loop-c-preserved : goal.loop-c-preserved
loop-c-preserved c =
    let mat = c.args.mat.now.mat in
    let i = c.loop-c.c in
    let apart = rw c.col_rows.ensures at c.in_default.ensures.again in
    let long = column_length mat.shaped i (omega arith) in (
      c.find_repeat.ensures.marks_unchanged ∙ c.loop-c.invariant.0,
      λ k l. none_scanned mat.shaped i _ (omega arith) (omega arith) apart c.loop-c.invariant.1 k
          (omega (arith, l, long, mat.shaped.rising i (omega arith))),
    )

pub returns-clause-value : goal.returns-clause-value
returns-clause-value c =
    let mat = c.args.mat.now.mat in
    let e : c.loop-c.c ≡ mat.size = omega arith in
    let end : get_or mat.starts.now c.loop-c.c 0 ≡ length mat.rows.now = rw e mat.shaped.to_end in
    sym (found_none _ _ (λ k l. c.loop-c.invariant.1 k (rw end l)))
