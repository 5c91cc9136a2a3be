-- The loop of a search: what its slices hold at each turn, and that each arm of a turn keeps that.
use Rattle.std.proofs.Common.{ℕ, suc, ◌≤◌, ◌<◌, ◌≡◌, sym, ◌∙◌, ◌≢◌, Bool, true, false, List, arith, length, get_or}
use mathlib.Core.Bool.{false≢true}
use Rattle.graph.specs.Lists.{Mem, Once}
use Rattle.graph.specs.Matchings.{Row, Col, Inside}
use Rattle.graph.specs.Paths.{failed, found}
use Rattle.graph.proofs.Lists.{once_left, once_room}
use Rattle.graph.proofs.Paths.{unwind}
use Rattle.graph.proofs.Search.{NoneFree, AllBelow}
use Rattle.matching.specs.Search.{Unstamped, stamped, Cheap}
use Rattle.matching.proofs.Stamps.{stamped_in, stamped_is, Kept}
use Rattle.matching.proofs.Stack.{Goal, Ret, Top, Into}

-- ---- what the slices hold

-- what does not change in a search
pub record Setting (g : Goal) (mark : ℕ) (v₀ : List ℕ) : Type 0 where
  pub inside : Inside g.n g.col
  pub long : g.n ≤ length g.m
  pub stamps_long : g.n ≤ length v₀
  pub unstamped : Unstamped g.n mark v₀

-- the columns s are visited: they have the stamp, and the other slices are as they were from n on, with sound cheap places
pub record Slices (g : Goal) (mark : ℕ) (v₀ h₀ cs₀ ps₀ s v h cs ps r : List ℕ) : Type 0 where
  pub setting : Setting g mark v₀
  pub stamps : v ≡ stamped mark s v₀
  pub once : Once s
  pub below : AllBelow g.n s
  pub sound : Cheap g.n g.col g.m h
  pub cheap_kept : Kept g.n h₀ h
  pub cols_kept : Kept g.n cs₀ cs
  pub places_kept : Kept g.n ps₀ ps
  pub sized : length r ≡ length g.m

-- the column on top is to be visited; the others on the stack were
pub record Entering (g : Goal) (s cs ps r : List ℕ) (hit : Bool) (k : ℕ) : Type 0 where
  pub unfound : hit ≡ false
  pub same : r ≡ g.m
  pub new : ¬ Mem (get_or cs k 0) s
  pub low : get_or cs k 0 < g.n
  pub room : k ≤ length s
  pub on : (i : ℕ) → i < k → Mem (get_or cs i 0) s
  pub rest : Into g cs ps k (get_or cs k 0) s

-- a visit failed, and goes back to the steps on the stack
pub record Failing (g : Goal) (s cs ps r : List ℕ) (hit : Bool) (depth : ℕ) : Type 0 where
  pub unfound : hit ≡ false
  pub same : r ≡ g.m
  pub room : depth ≤ length s
  pub on : (i : ℕ) → i < depth → Mem (get_or cs i 0) s
  pub child : Col
  pub rest : Ret g cs ps depth child s failed

-- a visit found a path, and the matching is moved along it so far
pub record Finding (g : Goal) (s cs ps r : List ℕ) (hit : Bool) (depth : ℕ) : Type 0 where
  pub is_found_lem : hit ≡ true
  pub room : depth ≤ length s
  pub on : (i : ℕ) → i < depth → Mem (get_or cs i 0) s
  pub child : Col
  pub path : List Row
  pub last : Row
  pub same : r ≡ unwind g.m child path last
  pub rest : Ret g cs ps depth child s (found path last)

-- one of these three
pub data Stage (g : Goal) (s cs ps r : List ℕ) (hit : Bool) : ℕ → Type 0 where
  entering : {k : ℕ} → Entering g s cs ps r hit k → Stage g s cs ps r hit (suc k)
  failing : {depth : ℕ} → Failing g s cs ps r hit depth → Stage g s cs ps r hit depth
  finding : {depth : ℕ} → Finding g s cs ps r hit depth → Stage g s cs ps r hit depth

-- the start of a turn
pub record Walk (g : Goal) (mark : ℕ) (v₀ h₀ cs₀ ps₀ v h cs ps r : List ℕ) (hit : Bool) (depth : ℕ) : Type 0 where
  pub s : List Col
  pub slices : Slices g mark v₀ h₀ cs₀ ps₀ s v h cs ps r
  pub stage : Stage g s cs ps r hit depth

-- within a turn: the rows of the column on top are to be scanned from a place on
pub record Scanning (g : Goal) (mark : ℕ) (v₀ h₀ cs₀ ps₀ v h cs ps r : List ℕ) (hit : Bool) (k from : ℕ) : Type 0 where
  pub s : List Col
  pub slices : Slices g mark v₀ h₀ cs₀ ps₀ s v h cs ps r
  pub unfound : hit ≡ false
  pub same : r ≡ g.m
  pub room : suc k ≤ length s
  pub on : (i : ℕ) → i < suc k → Mem (get_or cs i 0) s
  pub held : NoneFree g.n g.m (g.col (get_or cs k 0))
  pub within : from ≤ length (g.col (get_or cs k 0))
  pub rest : Top g cs ps k (get_or cs k 0) from s

-- ---- what a turn may read

-- there are at most n columns visited
pub few_visited : {g : Goal} {mark : ℕ} {v₀ h₀ cs₀ ps₀ s v h cs ps r : List ℕ} → Slices g mark v₀ h₀ cs₀ ps₀ s v h cs ps r → length s ≤ g.n
few_visited {g} {s = s} S = omega (arith, once_left g.n s S.once S.below)

-- there is room on the stack for the step on top
pub top_room : {g : Goal} {mark k : ℕ} {v₀ h₀ cs₀ ps₀ v h cs ps r : List ℕ} {hit : Bool}
    → Walk g mark v₀ h₀ cs₀ ps₀ v h cs ps r hit (suc k) → k < g.n
top_room {g} {k = k} {cs = cs} {ps = ps} {r = r} {hit = hit} W = go W.stage
  where
    go : Stage g W.s cs ps r hit (suc k) → k < g.n
    go (entering E) = omega (arith, E.room, once_room g.n W.s (get_or cs k 0) W.slices.once W.slices.below E.low E.new)
    go (failing F) = omega (arith, F.room, few_visited W.slices)
    go (finding F) = omega (arith, F.room, few_visited W.slices)

-- its column is below n
pub top_below : {g : Goal} {mark k : ℕ} {v₀ h₀ cs₀ ps₀ v h cs ps r : List ℕ} {hit : Bool}
    → Walk g mark v₀ h₀ cs₀ ps₀ v h cs ps r hit (suc k) → get_or cs k 0 < g.n
top_below {g} {k = k} {cs = cs} {ps = ps} {r = r} {hit = hit} W = go W.stage
  where
    go : Stage g W.s cs ps r hit (suc k) → get_or cs k 0 < g.n
    go (entering E) = E.low
    go (failing F) = W.slices.below (get_or cs k 0) (F.on k (omega arith))
    go (finding F) = W.slices.below (get_or cs k 0) (F.on k (omega arith))

-- a visited column has the stamp
pub has_stamp : {g : Goal} {mark : ℕ} {v₀ h₀ cs₀ ps₀ s v h cs ps r : List ℕ} → Slices g mark v₀ h₀ cs₀ ps₀ s v h cs ps r
    → (c : Col) → Mem c s → get_or v c 0 ≡ mark
has_stamp {g} {mark} {v₀} {s = s} S c i = rw S.stamps (stamped_in g.n mark s v₀ c S.setting.stamps_long S.below i)

-- a column below n that has it is visited
pub is_visited : {g : Goal} {mark : ℕ} {v₀ h₀ cs₀ ps₀ s v h cs ps r : List ℕ} → Slices g mark v₀ h₀ cs₀ ps₀ s v h cs ps r
    → (c : Col) → c < g.n → get_or v c 0 ≡ mark → Mem c s
is_visited {g} {mark} {v₀} {s = s} S c l e =
    (stamped_is g.n mark s v₀ c S.setting.stamps_long S.setting.unstamped S.below l).0 (rw S.stamps at e)

-- without the stamp it is to be visited
pub at_new : {g : Goal} {mark k : ℕ} {v₀ h₀ cs₀ ps₀ v h cs ps r : List ℕ} {hit : Bool}
    → (W : Walk g mark v₀ h₀ cs₀ ps₀ v h cs ps r hit (suc k)) → get_or v (get_or cs k 0) 0 ≢ mark → Entering g W.s cs ps r hit k
at_new {g} {k = k} {cs = cs} {ps = ps} {r = r} {hit = hit} W ne = go W.stage
  where
    go : Stage g W.s cs ps r hit (suc k) → Entering g W.s cs ps r hit k
    go (entering E) = E
    go (failing F) = absurd (ne (has_stamp W.slices (get_or cs k 0) (F.on k (omega arith))))
    go (finding F) = absurd (ne (has_stamp W.slices (get_or cs k 0) (F.on k (omega arith))))

-- with it, a visit failed
pub at_failed : {g : Goal} {mark k : ℕ} {v₀ h₀ cs₀ ps₀ v h cs ps r : List ℕ} {hit : Bool}
    → (W : Walk g mark v₀ h₀ cs₀ ps₀ v h cs ps r hit (suc k)) → get_or v (get_or cs k 0) 0 ≡ mark → hit ≡ false
    → Failing g W.s cs ps r hit (suc k)
at_failed {g} {k = k} {cs = cs} {ps = ps} {r = r} {hit = hit} W e f = go W.stage
  where
    go : Stage g W.s cs ps r hit (suc k) → Failing g W.s cs ps r hit (suc k)
    go (entering E) = absurd (E.new (is_visited W.slices (get_or cs k 0) E.low e))
    go (failing F) = F
    go (finding F) = absurd (false≢true (sym f ∙ F.is_found_lem))

-- or found a path
pub at_found : {g : Goal} {mark k : ℕ} {v₀ h₀ cs₀ ps₀ v h cs ps r : List ℕ} {hit : Bool}
    → (W : Walk g mark v₀ h₀ cs₀ ps₀ v h cs ps r hit (suc k)) → get_or v (get_or cs k 0) 0 ≡ mark → hit ≡ true
    → Finding g W.s cs ps r hit (suc k)
at_found {g} {k = k} {cs = cs} {ps = ps} {r = r} {hit = hit} W e f = go W.stage
  where
    go : Stage g W.s cs ps r hit (suc k) → Finding g W.s cs ps r hit (suc k)
    go (entering E) = absurd (E.new (is_visited W.slices (get_or cs k 0) E.low e))
    go (failing F) = absurd (false≢true (sym F.unfound ∙ f))
    go (finding F) = F
