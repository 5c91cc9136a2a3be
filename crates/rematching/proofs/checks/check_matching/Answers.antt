use Rattle.std.proofs.Common.{arith, sym, ◌∙◌}
use Rattle.sparse.proofs.Buffers.{front_filled}
use Rattle.sparse.specs.Limits.{none}
use Rattle.sparse.specs.Refusals.{as_row}
use Rattle.sparse.specs.declared.refusal.Refusal.TheVariants.{MismatchedRow}
use Rattle.sparse.proofs.Refusals.{refused_at_lem, refused_none}
use Rattle.matching.proofs.Outcome.{filled_beyond}
use Rattle.rematching.specs.Checks.{mismatched_row}
use Rattle.rematching.proofs.Mismatches.{record_start, record_more, record_end, mismatch_test}
use Rattle.rematching.proofs.checks.check_matching.Goals as goal

pub loop-r-init : goal.loop-r-init
loop-r-init c = record_start _ _ c.args.col2row.now (omega (arith, c.fill.auto, c.requires.1)) c.fill.ensures

pub returns-then-is_mismatched-clause-value : goal.returns-then-is_mismatched-clause-value
unfolding mismatched_row
returns-then-is_mismatched-clause-value c =
    let inv = c.loop-r.invariant in
    let test = mismatch_test inv c.args.mat.now.shaped.small c.requires.0 c.loop-r-test.true c.get-c.ensures
    c.if-is_mismatched.ensures in
    sym (refused_at_lem (λ r. MismatchedRow (as_row r)) _ _ _ c.loop-r-test.true inv.suits test)

pub returns-then-is_mismatched-clause-same_beyond : goal.returns-then-is_mismatched-clause-same_beyond
returns-then-is_mismatched-clause-same_beyond c =
    c.loop-r.invariant.kept.beyond ∙ filled_beyond c.args.mat.now.size none c.args.col2row.now c.fill.ensures

pub loop-r-preserved : goal.loop-r-preserved
loop-r-preserved c =
    let inv = c.loop-r.invariant in
    let test = mismatch_test inv c.args.mat.now.shaped.small c.requires.0 c.loop-r-test.true c.get-c.ensures
    c.if-is_mismatched.ensures in
    record_more inv c.requires.0 c.loop-r-test.true c.get-c.ensures test c.put.ensures

pub returns : goal.returns
unfolding mismatched_row
returns c =
    let inv = c.loop-r.invariant in
    let size = c.args.mat.now.size in
    let beyond = inv.kept.beyond ∙ filled_beyond size none c.args.col2row.now c.fill.ensures in record {
      value = sym (refused_none (λ r. MismatchedRow (as_row r)) _ _ (λ j l. inv.suits j (omega arith)));
      same_beyond = beyond;
      col2row_after = λ f. front_filled size _ _ _ (omega arith) (record_end inv c.loop-r-test.false c.requires.0) beyond;
    }
