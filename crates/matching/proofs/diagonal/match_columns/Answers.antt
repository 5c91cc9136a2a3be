use Rattle.matching.proofs.Columns.{searches_start, going_ready, going_kept, going_more, going_failed, going_end}
use Rattle.matching.proofs.diagonal.match_columns.Goals as goal

pub loop-c-init : goal.loop-c-init
loop-c-init c = searches_start _ c.args.mat.now.mat.shaped c.args.mat.now.below c.requires

pub search-requires : goal.search-requires
search-requires c = going_ready c.loop-c.invariant c.loop-c-test.true

pub returns-then-not-search : goal.returns-then-not-search
returns-then-not-search c =
    let E = c.if-not-search.ensures in
    let kept = going_kept c.loop-c.invariant c.loop-c-test.true E.search_ends E.same_work c.search.auto.row2col in record {
      ends_at = going_failed c.loop-c.invariant c.loop-c-test.true E.search_ends;
      same_beyond = kept.1.beyond;
      same_work = kept.0;
    }

pub loop-c-preserved : goal.loop-c-preserved
loop-c-preserved c =
    let E = c.if-not-search.ensures in
    going_more c.loop-c.invariant c.loop-c-test.true E.search_ends E.same_work c.search.auto.row2col

pub returns : goal.returns
returns c = record {
  ends_at = going_end c.loop-c.invariant c.loop-c-test.false;
  same_beyond = c.loop-c.invariant.matching.beyond;
  same_work = c.loop-c.invariant.same_work;
}
