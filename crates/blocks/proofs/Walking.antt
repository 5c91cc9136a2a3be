-- The loop of a walk: what its slices hold at each turn, and what a turn may read of them.
use Rattle.std.proofs.Common.{ℕ, suc, ◌+◌, ◌≤◌, ◌<◌, ◌≡◌, ap, ◌≢◌, List, arith, length, get_or}
use Rattle.graph.specs.Lists.{Mem}
use Rattle.graph.specs.Matchings.{Row, Col, Inside, partner}
use Rattle.graph.specs.Walks.{Walked, enter}
use Rattle.matching.proofs.Stamps.{Kept}
use Rattle.blocks.specs.Walk.{last_first, Stamped}
use Rattle.blocks.proofs.Held.{length_last_first, stamped_few, stamped_room}
use Rattle.blocks.proofs.Stack.{Goal, Ret, Top}

-- ---- what the slices hold

-- the slices that a walk changes: stamps, the stack's columns and places, the columns entered and those finished
pub record Lists : Type 0 where
  pub stamps : List ℕ
  pub cols : List ℕ
  pub places : List ℕ
  pub entered : List ℕ
  pub finished : List ℕ

-- what does not change in a walk
pub record Setting (g : Goal) : Type 0 where
  pub inside : Inside g.n g.col
  pub matched : (r : Row) → r < g.n → partner g.m r < g.n
  pub long : g.n ≤ length g.m

-- the slices hold the walk w, e columns entered and f finished, and from n on they are as they were
pub record Slices (g : Goal) (mark : ℕ) (S₀ S : Lists) (w : Walked) (e f : ℕ) : Type 0 where
  pub setting : Setting g
  pub stamps : Stamped g.n mark S.stamps w.entered
  pub entered : last_first S.entered e ≡ w.entered
  pub finished : last_first S.finished f ≡ w.finished
  pub stamps_kept : Kept g.n S₀.stamps S.stamps
  pub cols_kept : Kept g.n S₀.cols S.cols
  pub places_kept : Kept g.n S₀.places S.places
  pub entered_kept : Kept g.n S₀.entered S.entered
  pub finished_kept : Kept g.n S₀.finished S.finished

-- the column on top is to be entered; the k below it were, and are not finished
pub record Entering (g : Goal) (w : Walked) (cs ps : List ℕ) (e f k : ℕ) : Type 0 where
  pub new : ¬ Mem (get_or cs k 0) w.entered
  pub low : get_or cs k 0 < g.n
  pub unfinished : f + k ≡ e
  pub on : (i : ℕ) → i < k → Mem (get_or cs i 0) w.entered
  pub rest : Top g cs ps k (get_or cs k 0) 0 (enter (get_or cs k 0) w)

-- a column was finished, and the walk goes back to the steps on the stack
pub record Returning (g : Goal) (w : Walked) (cs ps : List ℕ) (e f depth : ℕ) : Type 0 where
  pub unfinished : f + depth ≡ e
  pub on : (i : ℕ) → i < depth → Mem (get_or cs i 0) w.entered
  pub rest : Ret g cs ps depth w

-- one of these two
pub data Stage (g : Goal) (w : Walked) (cs ps : List ℕ) (e f : ℕ) : ℕ → Type 0 where
  entering : {k : ℕ} → Entering g w cs ps e f k → Stage g w cs ps e f (suc k)
  returning : {depth : ℕ} → Returning g w cs ps e f depth → Stage g w cs ps e f depth

-- the start of a turn
pub record Walk (g : Goal) (mark : ℕ) (S₀ S : Lists) (e f depth : ℕ) : Type 0 where
  pub w : Walked
  pub slices : Slices g mark S₀ S w e f
  pub stage : Stage g w S.cols S.places e f depth

-- within a turn: the rows of the column on top are to be walked over from a place on
pub record Scanning (g : Goal) (mark : ℕ) (S₀ S : Lists) (e f k from : ℕ) : Type 0 where
  pub w : Walked
  pub slices : Slices g mark S₀ S w e f
  pub unfinished : f + suc k ≡ e
  pub on : (i : ℕ) → i < suc k → Mem (get_or S.cols i 0) w.entered
  pub within : from ≤ length (g.col (get_or S.cols k 0))
  pub rest : Top g S.cols S.places k (get_or S.cols k 0) from w

-- ---- what a turn may read

-- at most n columns were entered
pub few_entered : {g : Goal} {mark : ℕ} {S₀ S : Lists} {w : Walked} {e f : ℕ} → Slices g mark S₀ S w e f → e ≤ g.n
few_entered {S = S} {e = e} H = omega (arith, ap length H.entered, length_last_first S.entered e, stamped_few H.stamps)

-- fewer where some column was not
pub entered_room : {g : Goal} {mark : ℕ} {S₀ S : Lists} {w : Walked} {e f : ℕ} → Slices g mark S₀ S w e f
    → (c : Col) → c < g.n → ¬ Mem c w.entered → e < g.n
entered_room {S = S} {e = e} H c low new =
    omega (arith, ap length H.entered, length_last_first S.entered e, stamped_room H.stamps c low new)

-- there is room on the stack for the step on top
pub top_room : {g : Goal} {mark : ℕ} {S₀ S : Lists} {e f k : ℕ} → Walk g mark S₀ S e f (suc k) → k < g.n
top_room {g} {S = S} {e = e} {f = f} {k = k} W = go W.stage
  where
    go : Stage g W.w S.cols S.places e f (suc k) → k < g.n
    go (entering E) = omega (arith, E.unfinished, entered_room W.slices (get_or S.cols k 0) E.low E.new)
    go (returning R) = omega (arith, R.unfinished, few_entered W.slices)

-- its column is below n
pub top_below : {g : Goal} {mark : ℕ} {S₀ S : Lists} {e f k : ℕ} → Walk g mark S₀ S e f (suc k) → get_or S.cols k 0 < g.n
top_below {g} {S = S} {e = e} {f = f} {k = k} W = go W.stage
  where
    go : Stage g W.w S.cols S.places e f (suc k) → get_or S.cols k 0 < g.n
    go (entering E) = E.low
    go (returning R) = W.slices.stamps.below (get_or S.cols k 0) (R.on k (omega arith))

-- without the stamp it is to be entered
pub at_new : {g : Goal} {mark : ℕ} {S₀ S : Lists} {e f k : ℕ} → (W : Walk g mark S₀ S e f (suc k))
    → get_or S.stamps (get_or S.cols k 0) 0 ≢ mark → Entering g W.w S.cols S.places e f k
at_new {g} {S = S} {e = e} {f = f} {k = k} W ne = go W.stage
  where
    go : Stage g W.w S.cols S.places e f (suc k) → Entering g W.w S.cols S.places e f k
    go (entering E) = E
    go (returning R) =
        let i = R.on k (omega arith) in
        absurd (ne ((W.slices.stamps.exactly (get_or S.cols k 0) (W.slices.stamps.below (get_or S.cols k 0) i)).1 i))

-- with it, the walk goes back to it
pub at_old : {g : Goal} {mark : ℕ} {S₀ S : Lists} {e f k : ℕ} → (W : Walk g mark S₀ S e f (suc k))
    → get_or S.stamps (get_or S.cols k 0) 0 ≡ mark → Returning g W.w S.cols S.places e f (suc k)
at_old {g} {S = S} {e = e} {f = f} {k = k} W z = go W.stage
  where
    go : Stage g W.w S.cols S.places e f (suc k) → Returning g W.w S.cols S.places e f (suc k)
    go (entering E) = absurd (E.new ((W.slices.stamps.exactly (get_or S.cols k 0) E.low).0 z))
    go (returning R) = R
