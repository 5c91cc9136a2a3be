use Rattle.matching.proofs.Arms.{depth_below, column_below, rows_below, place_below, place_short, stamps_reach, scan_ready}
use Rattle.matching.proofs.Arms.{arm_free, arm_behind, arm_again, arm_back, arm_on, fall_free, fall_none, fall_again}
use Rattle.matching.proofs.Places.{pass_more}
use Rattle.matching.proofs.Whole.{walk_begin, walk_done}
use Rattle.std.proofs.Common.{◌+◌, length, sym, ap, ◌∙◌, arith}
use Rattle.matching.proofs.search.search.Goals as goal

pub dfs_loop-init : goal.dfs_loop-init
dfs_loop-init c =
    walk_begin c.requires c.put.ensures

pub get-c-requires : goal.get-c-requires
get-c-requires c =
    omega (arith, depth_below c.dfs_loop.invariant c.dfs_loop-test.true, c.dfs_loop.invariant.slices.cols_kept.long)

pub col_rows-col-requires : goal.col_rows-col-requires
col_rows-col-requires c =
    column_below c.dfs_loop.invariant c.dfs_loop-test.true c.get-c.ensures

pub get-stamp-requires : goal.get-stamp-requires
get-stamp-requires c =
    omega (arith, column_below c.dfs_loop.invariant c.dfs_loop-test.true c.get-c.ensures, stamps_reach c.dfs_loop.invariant.slices)

pub put-requires-then-stamp-mark : goal.put-requires-then-stamp-mark
put-requires-then-stamp-mark c =
    omega (arith, column_below c.dfs_loop.invariant c.dfs_loop-test.true c.get-c.ensures, stamps_reach c.dfs_loop.invariant.slices)

pub get-from-requires : goal.get-from-requires
get-from-requires c =
    omega (arith, column_below c.dfs_loop.invariant c.dfs_loop-test.true c.get-c.ensures, c.dfs_loop.invariant.slices.cheap_kept.long)

pub get-owner-requires : goal.get-owner-requires
get-owner-requires c =
    omega (
      arith,
      ap length c.loop-k.invariant.matching_same,
      c.get-r.ensures,
      rows_below c.dfs_loop.invariant.slices c.col_rows-col.ensures c.loop-k.k (omega arith),
    )

pub put-requires-then-size-owner : goal.put-requires-then-size-owner
put-requires-then-size-owner c =
    omega (
      arith,
      column_below c.dfs_loop.invariant c.dfs_loop-test.true c.get-c.ensures,
      c.dfs_loop.invariant.slices.cheap_kept.long,
      ap length c.loop-k.invariant.cheap_same,
    )

pub dfs_loop-smaller-then-size-owner : goal.dfs_loop-smaller-then-size-owner
dfs_loop-smaller-then-size-owner c =
    fall_free c.dfs_loop.invariant c.dfs_loop-test.true c.get-c.ensures c.col_rows-col.ensures
    (λ e. c.if-stamp-mark.true (c.get-stamp.ensures ∙ e)) c.put-then-stamp-mark.ensures

pub dfs_loop-preserved-then-size-owner : goal.dfs_loop-preserved-then-size-owner
dfs_loop-preserved-then-size-owner c =
    arm_free c.dfs_loop.invariant c.dfs_loop-test.true c.get-c.ensures c.col_rows-col.ensures
    (λ e. c.if-stamp-mark.true (c.get-stamp.ensures ∙ e)) c.loop-k.invariant c.get-from.ensures c.loop-k-test.true
    c.get-r.ensures c.get-owner.ensures c.if-size-owner.true c.put-then-stamp-mark.ensures c.put-then-size-owner.ensures
    c.put-then-size-owner-2.ensures

pub loop-k-preserved : goal.loop-k-preserved
loop-k-preserved c =
    pass_more c.loop-k.invariant c.get-r.ensures c.get-owner.ensures c.if-size-owner.false

pub put-requires-then-stamp-mark-2 : goal.put-requires-then-stamp-mark-2
put-requires-then-stamp-mark-2 c =
    omega (
      arith,
      column_below c.dfs_loop.invariant c.dfs_loop-test.true c.get-c.ensures,
      c.dfs_loop.invariant.slices.cheap_kept.long,
      ap length c.loop-k.invariant.cheap_same,
    )

pub advance-depth-requires : goal.advance-depth-requires
advance-depth-requires c =
    let R = scan_ready (arm_behind c.dfs_loop.invariant c.dfs_loop-test.true c.get-c.ensures c.col_rows-col.ensures
    (λ e. c.if-stamp-mark.true (c.get-stamp.ensures ∙ e)) c.loop-k.invariant c.get-from.ensures c.loop-k-test.false
    c.put-then-stamp-mark.ensures (rw c.max.ensures at c.put-then-stamp-mark-2.ensures)) c.get-c.ensures c.col_rows-col.ensures
    c.args.mat.now.mat.shaped.small c.requires.short in
    record { col_len_bound = R.short; by_index = R.cols; top_lt_max_size = R.room }

pub dfs_loop-smaller-then-stamp-mark : goal.dfs_loop-smaller-then-stamp-mark
dfs_loop-smaller-then-stamp-mark c =
    fall_none c.dfs_loop.invariant c.dfs_loop-test.true c.get-c.ensures c.col_rows-col.ensures
    (λ e. c.if-stamp-mark.true (c.get-stamp.ensures ∙ e)) c.put-then-stamp-mark.ensures
    (arm_behind c.dfs_loop.invariant c.dfs_loop-test.true c.get-c.ensures c.col_rows-col.ensures
    (λ e. c.if-stamp-mark.true (c.get-stamp.ensures ∙ e)) c.loop-k.invariant c.get-from.ensures c.loop-k-test.false
    c.put-then-stamp-mark.ensures (rw c.max.ensures at c.put-then-stamp-mark-2.ensures)) c.advance-depth.ensures

pub dfs_loop-preserved-then-stamp-mark : goal.dfs_loop-preserved-then-stamp-mark
dfs_loop-preserved-then-stamp-mark c =
    arm_on (arm_behind c.dfs_loop.invariant c.dfs_loop-test.true c.get-c.ensures c.col_rows-col.ensures
    (λ e. c.if-stamp-mark.true (c.get-stamp.ensures ∙ e)) c.loop-k.invariant c.get-from.ensures c.loop-k-test.false
    c.put-then-stamp-mark.ensures (rw c.max.ensures at c.put-then-stamp-mark-2.ensures)) c.get-c.ensures c.col_rows-col.ensures
    c.advance-depth.ensures

pub get-at-requires : goal.get-at-requires
get-at-requires c =
    omega (arith, depth_below c.dfs_loop.invariant c.dfs_loop-test.true, c.dfs_loop.invariant.slices.places_kept.long)

pub get-row-requires : goal.get-row-requires
get-row-requires c =
    omega (
      arith,
      c.get-at.ensures,
      place_below c.dfs_loop.invariant c.dfs_loop-test.true
          c.get-c.ensures c.col_rows-col.ensures (sym c.get-stamp.ensures ∙ c.if-stamp-mark.false),
    )

pub put-requires-then-found : goal.put-requires-then-found
put-requires-then-found c =
    omega (
      arith,
      c.get-row.ensures,
      rows_below c.dfs_loop.invariant.slices c.col_rows-col.ensures
          c.get-at.result (omega (
            arith,
            c.get-at.ensures,
            place_below c.dfs_loop.invariant c.dfs_loop-test.true
                c.get-c.ensures c.col_rows-col.ensures (sym c.get-stamp.ensures ∙ c.if-stamp-mark.false),
          )),
    )

pub dfs_loop-preserved-then-found : goal.dfs_loop-preserved-then-found
dfs_loop-preserved-then-found c =
    arm_back c.dfs_loop.invariant c.dfs_loop-test.true c.get-c.ensures c.col_rows-col.ensures
    (sym c.get-stamp.ensures ∙ c.if-stamp-mark.false) c.if-found.true c.get-at.ensures c.get-row.ensures
    c.put-then-found.ensures

pub get-at-requires-else-found : goal.get-at-requires-else-found
get-at-requires-else-found c =
    omega (arith, depth_below c.dfs_loop.invariant c.dfs_loop-test.true, c.dfs_loop.invariant.slices.places_kept.long)

pub overflow_add-at : goal.overflow_add-at
overflow_add-at c =
    omega (
      arith,
      c.get-at-else-found.ensures,
      place_short c.dfs_loop.invariant c.dfs_loop-test.true
          c.get-c.ensures c.col_rows-col.ensures (sym c.get-stamp.ensures ∙ c.if-stamp-mark.false)
          c.requires.short,
    )

pub advance-depth-requires-else-found : goal.advance-depth-requires-else-found
advance-depth-requires-else-found c =
    let R = scan_ready (arm_again {from = c.get-at-else-found.result + 1} c.dfs_loop.invariant c.dfs_loop-test.true
    c.get-c.ensures c.col_rows-col.ensures (sym c.get-stamp.ensures ∙ c.if-stamp-mark.false) c.if-found.false
    (omega (arith, c.get-at-else-found.ensures))) c.get-c.ensures c.col_rows-col.ensures c.args.mat.now.mat.shaped.small
    c.requires.short in
    record { col_len_bound = R.short; by_index = R.cols; top_lt_max_size = R.room }

pub dfs_loop-smaller : goal.dfs_loop-smaller
dfs_loop-smaller c =
    fall_again c.dfs_loop-test.true c.get-c.ensures c.col_rows-col.ensures
    (sym c.get-stamp.ensures ∙ c.if-stamp-mark.false) (arm_again {from = c.get-at-else-found.result + 1} c.dfs_loop.invariant
    c.dfs_loop-test.true c.get-c.ensures c.col_rows-col.ensures
    (sym c.get-stamp.ensures ∙ c.if-stamp-mark.false) c.if-found.false (omega (arith, c.get-at-else-found.ensures)))
    c.advance-depth-else-found.ensures

pub dfs_loop-preserved : goal.dfs_loop-preserved
dfs_loop-preserved c =
    arm_on (arm_again {from = c.get-at-else-found.result + 1} c.dfs_loop.invariant c.dfs_loop-test.true
    c.get-c.ensures c.col_rows-col.ensures (sym c.get-stamp.ensures ∙ c.if-stamp-mark.false) c.if-found.false
    (omega (arith, c.get-at-else-found.ensures))) c.get-c.ensures c.col_rows-col.ensures c.advance-depth-else-found.ensures

pub returns : goal.returns
returns c =
    let done = walk_done c.requires c.put.ensures (omega arith) c.dfs_loop.invariant in
    record { search_ends = done.0; same_work = done.1 }
