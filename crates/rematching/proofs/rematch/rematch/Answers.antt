-- `rematch` meets its contract: its search is the rule's, made with the former row free, and one that fails leaves that matching.
use Rattle.std.proofs.Common.{◌≡◌, arith, length}
use Rattle.rematching.proofs.Ends.{edit_row, edit_ready, leaves_found, leaves_failed}
use Rattle.rematching.proofs.rematch.rematch.Goals as goal

pub put-requires : goal.put-requires
put-requires c =
    edit_row _ c.requires.editable c.requires.unused c.requires.row_value

pub search-requires : goal.search-requires
search-requires c =
    let mat = c.args.mat.now in
    let room : length c.put.new.s ≡ length c.args.row2col.now = omega (arith, c.put.auto) in
    edit_ready c.put.new.s mat.mat.shaped mat.below c.requires.editable c.requires.unused room

pub returns-then-search : goal.returns-then-search
returns-then-search c =
    let mat = c.args.mat.now in
    let X = leaves_found _ mat.mat.shaped mat.below c.requires.editable c.requires.row_value
    c.put.ensures c.search.ensures.search_ends c.if-search.true in
    record {
      ends_at = X.ends;
      row2col_unchanged = X.kept;
      same_beyond = X.matching;
      same_work = c.search.ensures.same_work;
    }

pub put-requires-2 : goal.put-requires-2
put-requires-2 c =
    let low = edit_row _ c.requires.editable c.requires.unused c.requires.row_value in
    omega (arith, c.put.auto, c.search.auto, low)

pub returns : goal.returns
returns c =
    let mat = c.args.mat.now in
    let X = leaves_failed _ mat.mat.shaped mat.below c.requires.editable c.requires.unused
    c.requires.row_value c.put.ensures c.search.ensures.search_ends
    c.if-search.false c.put-2.ensures in
    record {
      ends_at = X.ends;
      row2col_unchanged = X.kept;
      same_beyond = X.matching;
      same_work = c.search.ensures.same_work;
    }
