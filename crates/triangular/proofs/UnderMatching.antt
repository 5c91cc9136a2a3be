-- The blocks under a matching, step by step: what each part leaves is what the next needs, and at the end the rule's blocks are
-- there.
use Rattle.std.proofs.Common.{ℕ, ◌+◌, ◌≤◌, ◌<◌, ◌≡◌, ap, ◌∙◌, subst, List, [], ◌++◌, arith, length, get_or, take, drop}
use mathlib.Core.List.{flatten}
use Rattle.graph.specs.Matchings.{Pattern}
use Rattle.graph.specs.Permutations.{Permutes, Inverse, inverse}
use Rattle.graph.specs.Blocks.{targets, blocks, cut}
use Rattle.graph.proofs.Blocks.{blocks_length}
use Rattle.graph.proofs.Cuts.{Within}
use Rattle.graph.proofs.Permutations.{length-inverse, inverse-inverse}
use Rattle.sparse.specs.Buffers.{filled}
use Rattle.sparse.specs.Limits.{max_size, max_entries}
use Rattle.sparse.specs.Matrix.{column, Shaped}
use Rattle.sparse.proofs.Buffers.{filled_at}
use Rattle.blocks.specs.Walk.{last_first, Room}
use Rattle.blocks.specs.declared.walk.WalkWork.{WalkWork}
use Rattle.blocks.specs.Reverse.{entries, Reversible, ReverseRoom, Reversed}
use Rattle.blocks.specs.Cut.{second_pass, PassReady, Finished, HoldsBlocks}
use Rattle.sparse.specs.Refusals.{Roomy}
use Rattle.triangular.specs.Outcome.{Work, work_buffers, starts_need, entries_need}
use Rattle.triangular.proofs.Room.{work_room}
use Rattle.blocks.proofs.Backward.{back_shaped}
use Rattle.blocks.proofs.Joined.{targets_within, finished_unwalked, back_pattern, cut_is_blocks}

-- ---- before the reversed graph

-- a slice filled with the inverse holds the inverse
pub inverse-filled : {n : ℕ} {p : List ℕ} (q q₀ : List ℕ) → Permutes n p → q ≡ filled (inverse n p) q₀ → Inverse n p q
inverse-filled {n} {p} q q₀ P e = record {
  forth_below = I.forth_below;
  back_below = λ c l. rw (at c l) (I.back_below c l);
  there_and_back = λ i l. at (get_or p i 0) (I.forth_below i l) ∙ I.there_and_back i l;
  back_and_there = λ c l. rw (at c l) (I.back_and_there c l);
}
  where
    I : Inverse n p (inverse n p)
    I = inverse-inverse P

    at : (c : ℕ) → c < n → get_or q c 0 ≡ get_or (inverse n p) c 0
    at c l = ap (λ (t : List ℕ). get_or t c 0) e ∙ filled_at (inverse n p) q₀ c (omega (arith, length-inverse n p))

pub reverse_room : {n : ℕ} {col : Pattern} {starts rows : List ℕ} → entries n col ≤ max_entries → starts_need n ≤ length starts
    → entries_need (entries n col) ≤ length rows → ReverseRoom n col starts rows
reverse_room few s r = record { starts_long = omega arith; few = few; rows_long = r }

-- ---- before the second pass

-- the graph under a matching, and its reverse in the slices of the workspace w
pub record Back (n : ℕ) (col : Pattern) (m inv : List ℕ) (w : Work) (starts rows : List ℕ) : Type 0 where
  pub small : n ≤ max_size
  pub reversible : Reversible n col m
  pub inverse : Inverse n m inv
  pub room : ReverseRoom n col starts rows
  pub reversed : Reversed n col m inv w.backstarts w.backrows starts rows

pub back : {n : ℕ} {col : Pattern} {m inv starts rows : List ℕ} (w : Work) → n ≤ max_size
    → Reversible n col m × (entries n col ≤ max_entries) → Roomy (work_buffers n (entries n col) w)
    → inv ≡ filled (inverse n m) w.col2row → length starts ≡ length w.backstarts → length rows ≡ length w.backrows
    → Reversed n col m inv w.backstarts w.backrows starts rows → Back n col m inv w starts rows
back {n} {col} w small R roomy e s r T =
    let room = work_room n (entries n col) w roomy in
    record {
      small = small;
      reversible = R.0;
      inverse = inverse-filled _ w.col2row R.0.permutes e;
      room = reverse_room R.1 (omega (arith, room.backstarts)) (omega (arith, room.backrows));
      reversed = T;
    }

-- the reversed graph in the front of its slices is a matrix
pub second_shaped : {n : ℕ} {col : Pattern} {m inv : List ℕ} {w : Work} {starts rows : List ℕ} → Back n col m inv w starts rows
    → (n < length starts) × (get_or starts n 0 ≤ length rows) × Shaped n (take (n + 1) starts) (take (get_or starts n 0) rows)
second_shaped B = (
  B.room.starts_long,
  omega (arith, B.room.rows_long, B.reversed.to_end),
  rw B.reversed.to_end (back_shaped B.small B.room B.reversed),
)

-- over it the second pass may go
pub second_ready : {n : ℕ} {col : Pattern} {m inv : List ℕ} {w : Work} {starts rows stamps order : List ℕ} (walk : WalkWork)
    → Back n col m inv w starts rows → Finished n col m stamps order → walk.visited.now ≡ stamps → Room n walk
    → PassReady n (column (take (n + 1) starts) (take (get_or starts n 0) rows)) m second_pass walk
second_ready walk B F e long =
    let P = back_pattern B.small B.reversible B.inverse B.room B.reversed in
    rw B.reversed.to_end (record {
      inside = P.0;
      short = P.1;
      matched = B.reversible.permutes.below;
      unwalked = λ c l. rw e (finished_unwalked F c l);
      matching_long = B.reversible.matching_long;
      room = long;
    })

-- ---- at the end

-- the blocks cut are the rule's, and fill their slice to the need, whatever the first pass left there
pub matched_holds : {n : ℕ} {col : Pattern} {m inv : List ℕ} {w : Work} {starts rows stamps order order' : List ℕ}
    {es₀ es es' ends₀ es₁ es₂ ends' : List ℕ} {r : ℕ} → Back n col m inv w starts rows → Finished n col m stamps order
    → drop n es ≡ drop n es₀
    → HoldsBlocks n (cut (targets (column (take (n + 1) starts) (take (get_or starts n 0) rows)) m) n [] (last_first order' n)) es'
    ends₀ es₁ ends' r → order' ≡ order → es' ≡ es → es₂ ≡ es₁
    → HoldsBlocks n (blocks n (targets col m)) es₀ ends₀ es₂ ends' r
matched_holds {n} {col} {m} {starts = starts} {rows = rows} {order = order} {es₀ = es₀} {es = es} {ends₀ = ends₀} {es₁ = es₁}
    {ends' = ends'} {r = r} X F same H e f g =
    let R = X.reversible in
    let G : HoldsBlocks n (cut (targets (column (take (n + 1) starts) (take (entries n col) rows)) m) n [] (last_first order n))
    es ends₀ es₁ ends' r = rw (X.reversed.to_end, e, f) at H in
    let B : HoldsBlocks n (blocks n (targets col m)) es ends₀ es₁ ends' r =
    subst (λ bs. HoldsBlocks n bs es ends₀ es₁ ends' r) (cut_is_blocks X.small R X.inverse X.room X.reversed F) G in
    let within : Within n (targets col m) = targets_within m R.inside R.permutes.below in
    let long : length (flatten (blocks n (targets col m))) ≡ n = blocks_length n (targets col m) within in
    record {
      counted = B.counted;
      columns = g ∙ B.columns ∙ ap (λ (t : List ℕ). flatten (blocks n (targets col m)) ++ t) (rw long same);
      starts_are = B.starts_are;
    }
