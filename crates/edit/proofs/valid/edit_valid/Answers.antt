-- `edit_valid` meets its contract: a search that failed is refused with its stamps as marks, and a path found is cut into blocks.
use Rattle.std.proofs.Common.{rules, refl}
use Rattle.triangular.specs.Outcome.{held_work, held}
use Rattle.edit.proofs.EditedEntries.{entries_few}
use Rattle.edit.proofs.ValidEdit.{search_same, edited_room, passed_same}
use Rattle.edit.proofs.ValidEdit.{searched, searched_reversible, searched_accepted, searched_refused}
use Rattle.edit.proofs.valid.edit_valid.Goals as goal

pub returns-in-Some-clause-outputs_after : goal.returns-in-Some-clause-outputs_after
returns-in-Some-clause-outputs_after c =
    let l = held c.args.work.now c.args.outputs.now in
    let found = c.rematch-failed.ensures in
    let S = searched c.args.mat.now c.args.edit.now l c.requires.once c.requires.editable c.requires.roomy found.ends_at
    found.row2col_unchanged found.same_beyond c.rematch-failed.auto.row2col in
    λ u. rw (c.refuse_edit.ensures.value, c.refuse_edit.ensures.outputs_after)
    (searched_refused S c.in-Some.is (search (rules, found.same_work.slices)) u)

pub returns-in-Some-clause-same_work : goal.returns-in-Some-clause-same_work
returns-in-Some-clause-same_work c =
    let found = c.rematch-failed.ensures in
    search_same (held_work c.args.work.now) found.same_work c.clear.ensures c.clear.auto.s c.clear-2.ensures c.clear-2.auto.s refl
    refl (search (rules, found.same_work.slices))

pub block_matched-count-requires-clause-reversible : goal.block_matched-count-requires-clause-reversible
block_matched-count-requires-clause-reversible c =
    let l = held c.args.work.now c.args.outputs.now in
    let found = c.rematch-failed.ensures in
    let S = searched c.args.mat.now c.args.edit.now l c.requires.once c.requires.editable c.requires.roomy found.ends_at
    found.row2col_unchanged found.same_beyond c.rematch-failed.auto.row2col in
    (searched_reversible S c.in_default.is, entries_few c.args.mat.now.mat.shaped c.requires.editable)

pub block_matched-count-requires-clause-roomy : goal.block_matched-count-requires-clause-roomy
block_matched-count-requires-clause-roomy c =
    let l = held c.args.work.now c.args.outputs.now in
    let found = c.rematch-failed.ensures in
    edited_room l c.args.mat.now.mat.shaped c.requires.editable c.requires.roomy (search_same l.inner found.same_work c.clear.ensures
    c.clear.auto.s c.clear-2.ensures c.clear-2.auto.s refl refl (search (rules, found.same_work.slices)))

pub returns-clause-outputs_after : goal.returns-clause-outputs_after
returns-clause-outputs_after c =
    let l = held c.args.work.now c.args.outputs.now in
    let found = c.rematch-failed.ensures in
    let S = searched c.args.mat.now c.args.edit.now l c.requires.once c.requires.editable c.requires.roomy found.ends_at
    found.row2col_unchanged found.same_beyond c.rematch-failed.auto.row2col in
    λ u. searched_accepted S c.in_default.is c.clear-3.ensures c.block_matched-count.ensures.holds_blocks u

pub returns-clause-same_work : goal.returns-clause-same_work
returns-clause-same_work c =
    let l = held c.args.work.now c.args.outputs.now in
    let found = c.rematch-failed.ensures in
    passed_same l c.args.mat.now.mat.shaped c.requires.editable c.requires.roomy (search_same l.inner found.same_work c.clear.ensures
    c.clear.auto.s c.clear-2.ensures c.clear-2.auto.s refl refl (search (rules, found.same_work.slices)))
    c.block_matched-count.ensures.same_work
