-- `match_valid` meets its contract: the searches start fresh, and what they end with is handed out.
use Rattle.matching.specs.Matching.{matching}
use Rattle.sparse.specs.Columns.{columns}
use Rattle.sparse.specs.Limits.{none}
use Rattle.std.proofs.Common.{drop, arith, ◌∙◌, ap, sym}
use Rattle.matching.proofs.Outcome.{fresh, filled_beyond, failed_below}
use Rattle.matching.proofs.Work.{stays_then}
use Rattle.matching.proofs.diagonal.match_valid.Goals as goal

pub match_columns-failed-requires : goal.match_columns-failed-requires
match_columns-failed-requires c =
    fresh c.args.mat.now.mat.size c.args.work.now c.args.row2col.now c.args.hall.now
    c.requires.roomy c.requires.unmarked c.clear.ensures c.fill.ensures (omega (arith, c.clear.auto)) (omega (arith, c.fill.auto))

pub hand_out-requires : goal.hand_out-requires
hand_out-requires c = record {
  below = failed_below _ _ _ c.match_columns-failed.result (matching c.args.mat.now.mat.size (columns c.args.mat.now.mat))
      c.match_columns-failed.ensures.ends_at;
  roomy = (
    omega (arith, c.requires.roomy.0, c.match_columns-failed.ensures.same_work.visited.same_length),
    omega (arith, c.requires.roomy.1.1.1.1.0, c.match_columns-failed.auto, c.fill.auto),
    c.requires.roomy.1.1.1.1.1.0,
  );
}

pub returns : goal.returns
returns c =
    let M = c.match_columns-failed.ensures in
    let W = M.same_work in record {
      hall_after = λ l e f. c.hand_out.ensures l (matching c.args.mat.now.mat.size (columns c.args.mat.now.mat)) M.ends_at
          (M.same_beyond ∙ filled_beyond c.args.mat.now.mat.size none c.args.row2col.now c.fill.ensures
          ∙ ap (drop c.args.mat.now.mat.size) (sym e)) (sym f);
      same_work = record {
        slices = W.slices;
        visited = W.visited;
        cheap = stays_then (record {
          same_length = c.clear.auto.s;
          beyond = filled_beyond c.args.mat.now.mat.size 0 c.args.work.now.cheap.now c.clear.ensures;
        }) W.cheap;
        cols = W.cols;
        places = W.places;
      };
    }
