-- `block_valid` meets its contract: a refusal of the matching is passed on, and an acceptance is cut into blocks.
use Rattle.std.proofs.Common.{arith, rules, ◌≡◌, refl, length}
use Rattle.std.proofs.lemmas.Result.{MatchResult-at_err}
use Rattle.sparse.specs.Columns.{columns}
use Rattle.matching.specs.Matching.{matching}
use Rattle.matching.specs.Outcome as m
use Rattle.blocks.proofs.Entries.{entries_plain}
use Rattle.triangular.specs.Outcome.{held_work, held_outputs, held, passed_on}
use Rattle.triangular.proofs.Room.{lent_room, kept_room}
use Rattle.triangular.proofs.Outcome.{handed_on, hand_passed}
use Rattle.triangular.proofs.Valid.{given_square, handed_reversible, valid_accepted}
use Rattle.triangular.proofs.Work.{same_then, matching_same}
use Rattle.triangular.proofs.entry.block_valid.Goals as goal

pub returns-in_default-clause-outputs_after : goal.returns-in_default-clause-outputs_after
returns-in_default-clause-outputs_after c =
    let work = c.args.work.now in
    let o = held_outputs c.args.outputs.now in
    let l = m.lent work.visited.now work.cheap.now work.scol.now work.sat.now o.row2col o.hall in
    let passed : c.map.result ≡ passed_on c.match_valid-matched.result =
    rw c.in_default.is (MatchResult-at_err _ _ _ c.in_default.is c.map.ensures.cases) in
    λ w. rw passed
    (hand_passed _ (columns c.args.mat.now.mat) w l o _ _ (matching c.args.mat.now.mat.size (columns c.args.mat.now.mat)) _ _ _ _
    c.in_default.is refl refl (c.match_valid-matched.ensures.hall_after l refl refl)
    c.clear_blocks.ensures.blockcols_after c.clear_blocks.ensures.blockstarts_after)

pub block_matched-count-requires-clause-reversible : goal.block_matched-count-requires-clause-reversible
block_matched-count-requires-clause-reversible c =
    let work = c.args.work.now in
    let o = held_outputs c.args.outputs.now in
    let l = m.lent work.visited.now work.cheap.now work.scol.now work.sat.now o.row2col o.hall in
    let shaped = c.args.mat.now.mat.shaped in rw (c.unedited.ensures.0, c.unedited.ensures.1) (
      handed_reversible (given_square c.args.mat.now (held work c.args.outputs.now) c.requires.once c.requires.roomy)
          (handed_on _ l o _ _ _ _ refl refl (c.match_valid-matched.ensures.hall_after l refl refl) c.in-Ok.is)
          (omega (arith, (lent_room _ _ (held work c.args.outputs.now) c.requires.roomy).1, c.match_valid-matched.auto)),
      omega (arith, entries_plain shaped, shaped.few),
    )

pub block_matched-count-requires-clause-roomy : goal.block_matched-count-requires-clause-roomy
block_matched-count-requires-clause-roomy c =
    let entries = length c.args.mat.now.mat.rows.now in
    let w = held_work c.args.work.now in
    let same = c.match_valid-matched.ensures.same_work in
    rw (c.unedited.ensures.0, c.unedited.ensures.1, entries_plain c.args.mat.now.mat.shaped)
    (kept_room c.args.mat.now.mat.size entries (held c.args.work.now c.args.outputs.now)
    (matching_same {k = entries} w.finished w.col2row w.backstarts w.backrows same (search (rules, same.slices))) c.requires.roomy)

pub returns-clause-outputs_after : goal.returns-clause-outputs_after
returns-clause-outputs_after c =
    let work = c.args.work.now in
    let o = held_outputs c.args.outputs.now in
    let l = m.lent work.visited.now work.cheap.now work.scol.now work.sat.now o.row2col o.hall in
    λ v. valid_accepted _ _ _ (held work c.args.outputs.now) v _ _ _ _ _
    (given_square c.args.mat.now (held work c.args.outputs.now) c.requires.once c.requires.roomy)
    (handed_on _ l o _ _ _ _ refl refl (c.match_valid-matched.ensures.hall_after l refl refl) c.in-Ok.is)
    (rw (c.unedited.ensures.0, c.unedited.ensures.1) at c.block_matched-count.ensures.holds_blocks)

pub returns-clause-same_work : goal.returns-clause-same_work
returns-clause-same_work c =
    let w = held_work c.args.work.now in
    let same = c.match_valid-matched.ensures.same_work in
    let plain = c.unedited.ensures in
    let matched = rw (plain.0, plain.1, entries_plain c.args.mat.now.mat.shaped) at c.block_matched-count.ensures.same_work in
    same_then (matching_same w.finished w.col2row w.backstarts w.backrows same (search (rules, same.slices))) matched
