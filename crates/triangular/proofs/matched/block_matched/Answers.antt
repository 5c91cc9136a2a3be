-- `block_matched` meets its contract: what each part leaves is what the next needs.
use Rattle.std.proofs.Common.{arith, rules, subst}
use Rattle.blocks.specs.Cut.{CutReady}
use Rattle.blocks.proofs.Joined.{finished_ready}
use Rattle.matching.proofs.Work.{stays_then}
use Rattle.triangular.specs.Outcome.{held_work}
use Rattle.triangular.proofs.Room.{work_room}
use Rattle.triangular.proofs.UnderMatching.{inverse-filled, back, second_shaped, second_ready, matched_holds}
use Rattle.triangular.proofs.Work.{zeroed_stays, walk_stays, walks_stay, walk_long, inverse_stays}
use Rattle.triangular.proofs.matched.block_matched.Goals as goal

pub reverse_graph-requires-clause-inverse : goal.reverse_graph-requires-clause-inverse
reverse_graph-requires-clause-inverse c =
    let room = work_room _ _ (held_work c.args.work.now) c.requires.roomy in (
      inverse-filled _ c.args.work.now.col2row.now c.requires.reversible.0.permutes c.invert.ensures,
      omega (arith, room.col2row, c.invert.auto),
    )

pub cut_matched-requires-clause-size_in_bounds : goal.cut_matched-requires-clause-size_in_bounds
cut_matched-requires-clause-size_in_bounds c =
    let kept = c.reverse_graph.auto in
    second_shaped (back (held_work c.args.work.now) c.args.mat.now.mat.shaped.small c.requires.reversible c.requires.roomy
    c.invert.ensures kept.backstarts kept.backrows c.reverse_graph.ensures)

pub cut_matched-requires-clause-pass_ready : goal.cut_matched-requires-clause-pass_ready
cut_matched-requires-clause-pass_ready c =
    let room = work_room _ _ (held_work c.args.work.now) c.requires.roomy in
    let kept = c.reverse_graph.auto in
    let walked = c.finish_columns.ensures.same_from in
    second_ready _ (back (held_work c.args.work.now) c.args.mat.now.mat.shaped.small c.requires.reversible c.requires.roomy
    c.invert.ensures kept.backstarts kept.backrows c.reverse_graph.ensures)
    c.finish_columns.ensures.finished (search (rules, walked.visited.itself)) (record {
      visited = walk_long walked.visited (omega (arith, room.visited, c.clear.auto)) (search (rules, walked.visited.itself));
      scol = walk_long walked.scol room.scol (search (rules, walked.scol.itself));
      sat = walk_long walked.sat room.sat (search (rules, walked.sat.itself));
      entered = walk_long walked.entered c.requires.size_in_bounds.0 (search (rules, walked.entered.itself));
      finished = room.cheap;
    })

pub cut_matched-requires-clause-cut_ready : goal.cut_matched-requires-clause-cut_ready
cut_matched-requires-clause-cut_ready c =
    subst (λ x. CutReady c.args.mat.now.mat.size x c.args.blockstarts.now)
    (search (rules, c.finish_columns.ensures.same_from.finished.itself))
    (finished_ready c.requires.reversible.0.inside c.requires.reversible.0.permutes.below c.finish_columns.ensures.finished
    (omega (
      arith,
      (work_room _ _ (held_work c.args.work.now) c.requires.roomy).finished,
      c.finish_columns.ensures.same_from.finished.same_length,
    ))
    (omega (arith, c.requires.size_in_bounds.1)))

pub returns-clause-holds_blocks : goal.returns-clause-holds_blocks
returns-clause-holds_blocks c =
    let kept = c.reverse_graph.auto in
    let first = c.finish_columns.ensures.same_from in
    let second = c.cut_matched.ensures.same_from in
    matched_holds (back (held_work c.args.work.now) c.args.mat.now.mat.shaped.small c.requires.reversible c.requires.roomy
    c.invert.ensures kept.backstarts kept.backrows c.reverse_graph.ensures)
    c.finish_columns.ensures.finished first.entered.beyond c.cut_matched.ensures.holds_blocks
    (search (rules, first.finished.itself)) (search (rules, first.entered.itself)) (search (rules, second.entered.itself))

pub returns-clause-same_work : goal.returns-clause-same_work
returns-clause-same_work c =
    let first = c.finish_columns.ensures.same_from in
    let second = c.cut_matched.ensures.same_from in
    let kept = c.reverse_graph.auto in record {
      visited = stays_then (zeroed_stays c.clear.ensures c.clear.auto.s) (walks_stay first.visited second.visited
          (search (rules, first.visited.itself)) (search (rules, second.visited.itself)));
      cheap = walk_stays second.finished (search (rules, second.finished.itself));
      finished = walk_stays first.finished (search (rules, first.finished.itself));
      col2row = inverse_stays c.args.row2col.now c.invert.ensures c.invert.auto.back;
      backstarts = record { same_length = kept.backstarts; beyond = c.reverse_graph.ensures.starts_beyond };
      backrows = record { same_length = kept.backrows; beyond = c.reverse_graph.ensures.rows_beyond };
      cols = walks_stay first.scol second.scol (search (rules, first.scol.itself)) (search (rules, second.scol.itself));
      places = walks_stay first.sat second.sat (search (rules, first.sat.itself)) (search (rules, second.sat.itself));
    }
