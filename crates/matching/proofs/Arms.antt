-- The arms of a turn in the code's terms: the column c is the one on top, rs are its rows, and each slice is as a store has left it.
use Rattle.std.proofs.Common.{ℕ, suc, ◌+◌, ◌-◌, ◌≤◌, ◌<◌, ◌≡◌, sym, ap, ◌∙◌, subst, ◌≢◌, Bool, true, false, List, arith, length, get_or}
use Rattle.std.proofs.Common.{set, max}
use Rattle.std.proofs.Math.Nat.{le-max_left}
use Rattle.graph.specs.Lists.{Mem}
use Rattle.graph.specs.Matchings.{Row, Col, Pattern}
use Rattle.graph.proofs.Lists.{get_or_mem}
use Rattle.sparse.specs.Limits.{max_size, max_entries}
use Rattle.sparse.specs.Matrix.{RowsBelow}
use Rattle.matching.specs.Parts.{col_at, Advance}
use Rattle.matching.proofs.Places.{Passing, stop_free, stop_none, stop_behind}
use Rattle.matching.proofs.Stamps.{length-stamped}
use Rattle.matching.proofs.Stack.{Goal}
use Rattle.matching.proofs.Walk.{Slices, Stage, entering, failing, finding, Walk, Scanning}
use Rattle.matching.proofs.Walk.{is_visited, few_visited, top_room, top_below}
use Rattle.matching.proofs.Turns.{turn_free, turn_none, turn_again, turn_back, turn_on, open_new}
use Rattle.matching.proofs.Falls.{weight, within, free_falls, none_falls, again_falls, on_falls}

-- ---- the step on top

-- where the stack is not empty there is a step on top
pub at_top : {g : Goal} {mark depth : ℕ} {v₀ h₀ cs₀ ps₀ v h cs ps r : List ℕ} {hit : Bool}
    → Walk g mark v₀ h₀ cs₀ ps₀ v h cs ps r hit depth → 0 < depth → Walk g mark v₀ h₀ cs₀ ps₀ v h cs ps r hit (suc (depth - 1))
at_top {g} {mark} {depth} {v₀} {h₀} {cs₀} {ps₀} {v} {h} {cs} {ps} {r} {hit} W l =
    let e : depth ≡ suc (depth - 1) = omega arith in
    subst (λ d. Walk g mark v₀ h₀ cs₀ ps₀ v h cs ps r hit d) e W

-- a column has no more rows than there may be entries
rows_short : (col : Pattern) {c : Col} {rs : List Row} → ((d : Col) → length (col d) ≤ max_entries) → rs ≡ col c
    → length rs ≤ max_entries
rows_short col {c = c} short own = rw own (short c)

-- there is room for the step on top
pub depth_below : {g : Goal} {mark depth : ℕ} {v₀ h₀ cs₀ ps₀ v h cs ps r : List ℕ} {hit : Bool}
    → Walk g mark v₀ h₀ cs₀ ps₀ v h cs ps r hit depth → 0 < depth → depth - 1 < g.n
depth_below W l = top_room (at_top W l)

-- its column is below n
pub column_below : {g : Goal} {mark depth : ℕ} {v₀ h₀ cs₀ ps₀ v h cs ps r : List ℕ} {hit : Bool} {c : Col}
    → Walk g mark v₀ h₀ cs₀ ps₀ v h cs ps r hit depth → 0 < depth → c ≡ get_or cs (depth - 1) 0 → c < g.n
column_below W l e = omega (arith, e, top_below (at_top W l))

-- the rows are below n, so the matching has a number for each
pub rows_below : {g : Goal} {mark : ℕ} {v₀ h₀ cs₀ ps₀ s v h cs ps r : List ℕ} {c : Col} {rs : List Row}
    → Slices g mark v₀ h₀ cs₀ ps₀ s v h cs ps r → rs ≡ g.col c → RowsBelow rs (length r)
rows_below {g} {c = c} {rs = rs} S own i l =
    let x : get_or rs i 0 < g.n =
    S.setting.inside.row_below c (get_or rs i 0) (subst (λ x. Mem (get_or rs i 0) x) own (get_or_mem rs i l)) in
    omega (arith, S.setting.long, S.sized)

-- with the stamp on the column, the step's place is one of its rows'
pub place_below : {g : Goal} {mark depth : ℕ} {v₀ h₀ cs₀ ps₀ v h cs ps r : List ℕ} {hit : Bool} {c : Col} {rs : List Row}
    → Walk g mark v₀ h₀ cs₀ ps₀ v h cs ps r hit depth → 0 < depth → c ≡ get_or cs (depth - 1) 0 → rs ≡ g.col c → get_or v c 0 ≡ mark
    → get_or ps (depth - 1) 0 < length rs
place_below {g} {mark} {depth} {v = v} {cs = cs} {ps = ps} {r = r} {hit = hit} {c = c} {rs = rs} W l top own e =
    let up = at_top W l in
    subst (λ x. get_or ps (depth - 1) 0 < length x) (sym (own ∙ ap (λ x. g.col x) top))
    (go up (rw top at e) up.stage)
  where
    k : ℕ
    k = depth - 1

    go : {v₀ h₀ cs₀ ps₀ h : List ℕ} → (W : Walk g mark v₀ h₀ cs₀ ps₀ v h cs ps r hit (suc k)) → get_or v (get_or cs k 0) 0 ≡ mark
        → Stage g W.s cs ps r hit (suc k) → get_or ps k 0 < length (g.col (get_or cs k 0))
    go W e (entering E) = absurd (E.new (is_visited W.slices (get_or cs k 0) E.low e))
    go W e (failing F) = F.rest.1.within
    go W e (finding F) = F.rest.1.within

-- so it is one of no more than there may be entries
pub place_short : {g : Goal} {mark depth : ℕ} {v₀ h₀ cs₀ ps₀ v h cs ps r : List ℕ} {hit : Bool} {c : Col} {rs : List Row}
    → Walk g mark v₀ h₀ cs₀ ps₀ v h cs ps r hit depth → 0 < depth → c ≡ get_or cs (depth - 1) 0 → rs ≡ g.col c → get_or v c 0 ≡ mark
    → ((d : Col) → length (g.col d) ≤ max_entries) → get_or ps (depth - 1) 0 < max_entries
place_short {g} W l top own e short = omega (arith, place_below W l top own e, rows_short g.col short own)

-- ---- the arms

-- a first visit finds a free row
pub arm_free : {g : Goal} {mark depth : ℕ} {v₀ h₀ cs₀ ps₀ v h cs ps r : List ℕ} {hit : Bool} {c : Col} {rs : List Row} {from q b : ℕ}
    {h₁ r₁ : List ℕ} {hit₁ : Bool} {v' h' r' : List ℕ} {e : Row} → Walk g mark v₀ h₀ cs₀ ps₀ v h cs ps r hit depth → 0 < depth
    → c ≡ get_or cs (depth - 1) 0 → rs ≡ g.col c → get_or v c 0 ≢ mark → Passing g.n rs from h r hit h₁ r₁ hit₁ q → from ≡ get_or h c 0
    → q < length rs → e ≡ get_or rs q 0 → b ≡ get_or r₁ e 0 → g.n ≤ b → v' ≡ set v c mark → h' ≡ set h₁ c q → r' ≡ set r₁ e c
    → Walk g mark v₀ h₀ cs₀ ps₀ v' h' cs ps r' true (depth - 1)
arm_free W l top own ne P z lq ee eb free ev eh er =
    rw (ev, eh, er, P.cheap_same, P.matching_same, ee, own, top)
    (turn_free (at_top W l) (rw top at ne) (rw (own, z, top) at (stop_free P ee eb free))
    (rw (own, top) at lq))

-- it finds none, and the place behind the last row is kept
pub arm_none : {g : Goal} {mark depth : ℕ} {v₀ h₀ cs₀ ps₀ v h cs ps r : List ℕ} {hit : Bool} {c : Col} {rs : List Row} {from q : ℕ}
    {h₁ r₁ : List ℕ} {hit₁ : Bool} {v' h' : List ℕ} → Walk g mark v₀ h₀ cs₀ ps₀ v h cs ps r hit depth → 0 < depth
    → c ≡ get_or cs (depth - 1) 0 → rs ≡ g.col c → get_or v c 0 ≢ mark → Passing g.n rs from h r hit h₁ r₁ hit₁ q → from ≡ get_or h c 0
    → length rs ≤ q → v' ≡ set v c mark → h' ≡ set h₁ c (length rs) → Scanning g mark v₀ h₀ cs₀ ps₀ v' h' cs ps r₁ hit₁ (depth - 1) 0
arm_none W l top own ne P z lq ev eh =
    rw (ev, eh, P.cheap_same, P.matching_same, P.found_same, own, top)
    (turn_none (at_top W l) (rw top at ne) (rw (own, z, top) at (stop_none P lq)) (omega arith))

-- it finds none, and where it began behind the last row the place that is kept does not go back
pub arm_behind : {g : Goal} {mark depth : ℕ} {v₀ h₀ cs₀ ps₀ v h cs ps r : List ℕ} {hit : Bool} {c : Col} {rs : List Row} {from q : ℕ}
    {h₁ r₁ : List ℕ} {hit₁ : Bool} {v' h' : List ℕ} → Walk g mark v₀ h₀ cs₀ ps₀ v h cs ps r hit depth → 0 < depth
    → c ≡ get_or cs (depth - 1) 0 → rs ≡ g.col c → get_or v c 0 ≢ mark → Passing g.n rs from h r hit h₁ r₁ hit₁ q → from ≡ get_or h c 0
    → length rs ≤ q → v' ≡ set v c mark → h' ≡ set h₁ c (max (length rs) from)
    → Scanning g mark v₀ h₀ cs₀ ps₀ v' h' cs ps r₁ hit₁ (depth - 1) 0
arm_behind {rs = rs} {from = from} W l top own ne P z lq ev eh =
    rw (ev, eh, z, P.cheap_same, P.matching_same, P.found_same, own, top)
    (turn_none (at_top W l) (rw top at ne) (rw (own, z, top) at (stop_behind P lq)) (rw (own, z, top) at (le-max_left (length rs) from)))

-- a visit failed
pub arm_again : {g : Goal} {mark depth : ℕ} {v₀ h₀ cs₀ ps₀ v h cs ps r : List ℕ} {hit : Bool} {c : Col} {rs : List Row} {from : ℕ}
    → Walk g mark v₀ h₀ cs₀ ps₀ v h cs ps r hit depth → 0 < depth → c ≡ get_or cs (depth - 1) 0 → rs ≡ g.col c
    → get_or v c 0 ≡ mark → hit ≡ false
    → from ≡ get_or ps (depth - 1) 0 + 1 → Scanning g mark v₀ h₀ cs₀ ps₀ v h cs ps r hit (depth - 1) from
arm_again {g} {mark} {depth} {v₀} {h₀} {cs₀} {ps₀} {v} {h} {cs} {ps} {r} {hit} {from = from} W l top own e f z =
    let y : suc (get_or ps (depth - 1) 0) ≡ from = omega arith in
    subst (λ p. Scanning g mark v₀ h₀ cs₀ ps₀ v h cs ps r hit (depth - 1) p) y (turn_again (at_top W l) (rw top at e) f)

-- a visit found a path
pub arm_back : {g : Goal} {mark depth : ℕ} {v₀ h₀ cs₀ ps₀ v h cs ps r : List ℕ} {hit : Bool} {c : Col} {rs : List Row} {p : ℕ}
    {r' : List ℕ} {e : Row} → Walk g mark v₀ h₀ cs₀ ps₀ v h cs ps r hit depth → 0 < depth → c ≡ get_or cs (depth - 1) 0 → rs ≡ g.col c
    → get_or v c 0 ≡ mark → hit ≡ true → p ≡ get_or ps (depth - 1) 0 → e ≡ get_or rs p 0 → r' ≡ set r e c
    → Walk g mark v₀ h₀ cs₀ ps₀ v h cs ps r' hit (depth - 1)
arm_back W l top own e f ep ee er = rw (er, ee, ep, own, top) (turn_back (at_top W l) (rw top at e) f)

-- the rows are scanned, and the next turn starts
pub arm_on : {g : Goal} {mark k : ℕ} {v₀ h₀ cs₀ ps₀ v h cs ps r : List ℕ} {hit : Bool} {c : Col} {rs : List Row} {from : ℕ}
    {cs' ps' : List ℕ} {d : ℕ} → Scanning g mark v₀ h₀ cs₀ ps₀ v h cs ps r hit k from → c ≡ get_or cs k 0 → rs ≡ g.col c
    → Advance mark v r rs k from cs ps cs' ps' d → Walk g mark v₀ h₀ cs₀ ps₀ v h cs' ps' r hit d
arm_on A top own B = turn_on A (rw (own, top) at B)

-- the stamps go as far as the columns
pub stamps_reach : {g : Goal} {mark : ℕ} {v₀ h₀ cs₀ ps₀ s v h cs ps r : List ℕ} → Slices g mark v₀ h₀ cs₀ ps₀ s v h cs ps r → g.n ≤
    length v
stamps_reach {mark = mark} {v₀ = v₀} {s = s} S = omega (arith, ap length S.stamps, length-stamped mark s v₀, S.setting.stamps_long)

-- what going on from the step on top needs
pub record ScanReady (v cs ps r : List ℕ) (mark k : ℕ) (rs : List Row) : Type 0 where
  pub short : (length rs ≤ max_entries) × RowsBelow rs (length r)
  pub cols : (i : ℕ) → i < length rs → col_at r rs i < length v
  pub room : (k < max_size) × (k < length ps) × ((i : ℕ) → i < length rs → get_or v (col_at r rs i) 0 ≢ mark → k + 1 < length cs)

-- where the rows are to be scanned, that is given
pub scan_ready : {g : Goal} {mark k : ℕ} {v₀ h₀ cs₀ ps₀ v h cs ps r : List ℕ} {hit : Bool} {c : Col} {rs : List Row} {from : ℕ}
    → Scanning g mark v₀ h₀ cs₀ ps₀ v h cs ps r hit k from → c ≡ get_or cs k 0 → rs ≡ g.col c → g.n ≤ max_size
    → ((d : Col) → length (g.col d) ≤ max_entries) → ScanReady v cs ps r mark k rs
scan_ready {g} {mark} {k} {v₀} {v = v} {cs = cs} {ps = ps} {r = r} {c = c} {rs = rs} A top own small short = record {
  short = (rows_short g.col short own, rows_below A.slices own);
  cols = λ i l. let low = below i l in omega (arith, stamps_reach A.slices);
  room = (
    omega (arith, A.room, few_visited A.slices),
    omega (arith, A.room, few_visited A.slices, A.slices.places_kept.long),
    λ i l ne. let N = open_new A (rw is at l) (rw is at ne) in omega (arith, N.2, A.slices.cols_kept.long),
  );
}
  where
    is : rs ≡ g.col (get_or cs k 0)
    is = own ∙ ap (λ x. g.col x) top

    below : (i : ℕ) → i < length rs → col_at r rs i < g.n
    below i l =
        rw A.same (subst (λ x. i < length x → col_at g.m x i < g.n) (sym is)
        (λ j. A.held (get_or (g.col (get_or cs k 0)) i 0) (get_or_mem (g.col (get_or cs k 0)) i j)) l)

-- ---- what is left falls

-- with a free row found
pub fall_free : {g : Goal} {mark depth : ℕ} {v₀ h₀ cs₀ ps₀ v h cs ps r : List ℕ} {hit : Bool} {c : Col} {rs : List Row} {v' : List ℕ}
    → Walk g mark v₀ h₀ cs₀ ps₀ v h cs ps r hit depth → 0 < depth → c ≡ get_or cs (depth - 1) 0 → rs ≡ g.col c → get_or v c 0 ≢ mark
    → v' ≡ set v c mark → weight g.n mark v' cs (depth - 1) < weight g.n mark v cs depth
fall_free {g} {mark} {depth} {v = v} {cs = cs} {v' = v'} W l top own ne ev =
    let e : suc (depth - 1) ≡ depth = omega arith in
    subst (λ d. weight g.n mark v' cs (depth - 1) < weight g.n mark v cs d) e
    (subst (λ x. weight g.n mark x cs (depth - 1) < weight g.n mark v cs (suc (depth - 1)))
    (sym (ev ∙ ap (λ x. set v x mark) top)) (free_falls (at_top W l) (rw top at ne)))

-- with none found
pub fall_none : {g : Goal} {mark depth : ℕ} {v₀ h₀ cs₀ ps₀ v h cs ps r : List ℕ} {hit : Bool} {c : Col} {rs : List Row} {from : ℕ}
    {r₁ : List ℕ} {hit₁ : Bool} {v' h' cs' ps' : List ℕ} {d : ℕ} → Walk g mark v₀ h₀ cs₀ ps₀ v h cs ps r hit depth → 0 < depth
    → c ≡ get_or cs (depth - 1) 0 → rs ≡ g.col c → get_or v c 0 ≢ mark → v' ≡ set v c mark
    → Scanning g mark v₀ h₀ cs₀ ps₀ v' h' cs ps r₁ hit₁ (depth - 1) from → Advance mark v' r₁ rs (depth - 1) from cs ps cs' ps' d
    → weight g.n mark v' cs' d < weight g.n mark v cs depth
fall_none {g} {mark} {depth} {v = v} {cs = cs} {v' = v'} W l top own ne ev A B =
    let e : suc (depth - 1) ≡ depth = omega arith in
    let less : within g.n mark v' (depth - 1) < weight g.n mark v cs depth =
    subst (λ d. within g.n mark v' (depth - 1) < weight g.n mark v cs d) e
    (subst (λ x. within g.n mark x (depth - 1) < weight g.n mark v cs (suc (depth - 1)))
    (sym (ev ∙ ap (λ x. set v x mark) top)) (none_falls (at_top W l) (rw top at ne))) in
    omega (arith, less, on_falls A (rw (own, top) at B))

-- with a visit that failed
pub fall_again : {g : Goal} {mark depth : ℕ} {v₀ h₀ cs₀ ps₀ v h cs ps r : List ℕ} {hit : Bool} {c : Col} {rs : List Row} {from : ℕ}
    {cs' ps' : List ℕ} {d : ℕ} → 0 < depth → c ≡ get_or cs (depth - 1) 0 → rs ≡ g.col c
    → get_or v c 0 ≡ mark → Scanning g mark v₀ h₀ cs₀ ps₀ v h cs ps r hit (depth - 1) from
    → Advance mark v r rs (depth - 1) from cs ps cs' ps' d → weight g.n mark v cs' d < weight g.n mark v cs depth
fall_again {g} {mark} {depth} {v = v} {cs = cs} l top own stamp A B =
    let e : suc (depth - 1) ≡ depth = omega arith in
    let less : within g.n mark v (depth - 1) ≤ weight g.n mark v cs depth =
    subst (λ d. within g.n mark v (depth - 1) ≤ weight g.n mark v cs d) e
    (again_falls g.n mark (depth - 1) v cs (rw top at stamp)) in
    omega (arith, less, on_falls A (rw (own, top) at B))

-- ---- the two facts of column and rows as one, as the walks of the block form cite them

pub record Hand (col : Pattern) (cs : List Col) (k : ℕ) (c : Col) (rs : List Row) : Type 0 where
  pub column : c ≡ get_or cs k 0
  pub rows : rs ≡ col c

-- what the code reads puts them there
pub in_hand : {cs : List Col} {k : ℕ} {c : Col} {rs : List Row} (col : Pattern) → c ≡ get_or cs k 0 → rs ≡ col c → Hand col cs k c rs
in_hand col e f = record { column = e; rows = f }

-- a column has no more rows than there may be entries
pub hand_short : {col : Pattern} {cs : List Col} {k : ℕ} {c : Col} {rs : List Row} → ((d : Col) → length (col d) ≤ max_entries)
    → Hand col cs k c rs → length rs ≤ max_entries
hand_short {col} short H = rows_short col short H.rows
