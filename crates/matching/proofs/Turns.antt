-- Each arm of a turn of a search's loop leads to the next turn.
use Rattle.std.proofs.Common.{ℕ, suc, ◌+◌, ◌≤◌, ◌<◌, ◌≡◌, refl, sym, ap, ◌∙◌, subst, ◌≢◌, ⊎_elim, Bool, true, false, List, [], ◌∷◌}
use Rattle.std.proofs.Common.{eq-or-lt_of_le, arith, length, get_or, set, length-set, get_or-set_same, get_or-set_other}
use mathlib.Core.List.Memᴰ
use native.Mathlib.Decide.{ℕ_discrete}
use Rattle.graph.specs.Lists.{Mem}
use Rattle.graph.specs.Matchings.{Col, partner}
use Rattle.graph.proofs.Lists.{once_room, get_or_mem}
use Rattle.graph.proofs.Paths.{unwind}
use Rattle.matching.specs.Search.{Cheap}
use Rattle.matching.specs.Parts.{col_at, OpenPlace, Advance, back, down}
use Rattle.matching.proofs.Stamps.{kept_set}
use Rattle.matching.proofs.Places.{FreePlace, free_before, free_here, free_nowhere}
use Rattle.matching.proofs.Stack.{Goal, Into, ret_agree, top_past, top_end, step_into, into_free, into_none}
use Rattle.matching.proofs.Walk.{Slices, entering, failing, finding, Walk, Scanning}
use Rattle.matching.proofs.Walk.{is_visited, has_stamp, at_new, at_failed, at_found}

-- ---- a first visit

-- a cheap place that was scanned to is sound
cheap_set : (g : Goal) (h : List ℕ) (c : Col) (q : ℕ) → g.n ≤ length h → c < g.n → Cheap g.n g.col g.m h
    → FreePlace g.n g.m (g.col c) (get_or h c 0) q → Cheap g.n g.col g.m (set h c q)
cheap_set g h c q l low C F d k i a b = go (ℕ_discrete d c)
  where
    go : Dec (d ≡ c) → partner g.m (get_or (g.col d) i 0) < g.n
    go (yes e) =
        let a' : i < get_or (set h c q) c 0 = subst (λ x. i < get_or (set h c q) x 0) e a in
        let b' : i < length (g.col c) = subst (λ x. i < length (g.col x)) e b in
        subst (λ x. partner g.m (get_or (g.col x) i 0) < g.n) (sym e)
        (free_before F (λ j x y. C c low j x y) i (rw (get_or-set_same h c q 0 (omega arith)) at a') b')
    go (no ne) = C d k i (rw (get_or-set_other h c d q 0 ne) at a) b

-- the slices after a first visit to column c that scanned to place q, with matching r'
visit_slices : {g : Goal} {mark : ℕ} {v₀ h₀ cs₀ ps₀ s v h cs ps r : List ℕ} → Slices g mark v₀ h₀ cs₀ ps₀ s v h cs ps r
    → (c : Col) (q : ℕ) (r' : List ℕ) → c < g.n → ¬ Mem c s → FreePlace g.n g.m (g.col c) (get_or h c 0) q → length r' ≡ length r
    → Slices g mark v₀ h₀ cs₀ ps₀ (c ∷ s) (set v c mark) (set h c q) cs ps r'
visit_slices {g} {mark} {h = h} S c q r' low new F same = record {
  setting = S.setting;
  stamps = ap (λ x. set x c mark) S.stamps;
  once = (S.once, new);
  below = λ x i. ⊎_elim (λ e. rw e low) (S.below x) (Memᴰ.cases_cons i);
  sound = cheap_set g h c q S.cheap_kept.long low S.sound F;
  cheap_kept = kept_set c q low S.cheap_kept;
  cols_kept = S.cols_kept;
  places_kept = S.places_kept;
  sized = same ∙ S.sized;
}

-- it has a free row, which it takes
pub turn_free : {g : Goal} {mark k : ℕ} {v₀ h₀ cs₀ ps₀ v h cs ps r : List ℕ} {hit : Bool} {q : ℕ}
    → (W : Walk g mark v₀ h₀ cs₀ ps₀ v h cs ps r hit (suc k)) → get_or v (get_or cs k 0) 0 ≢ mark
    → FreePlace g.n r (g.col (get_or cs k 0)) (get_or h (get_or cs k 0) 0) q → q < length (g.col (get_or cs k 0))
    → Walk g mark v₀ h₀ cs₀ ps₀ (set v (get_or cs k 0) mark) (set h (get_or cs k 0) q) cs ps
    (set r (get_or (g.col (get_or cs k 0)) q 0) (get_or cs k 0)) true k
turn_free {g} {k = k} {h = h} {cs = cs} {ps = ps} {r = r} {q = q} W ne F l =
    let c = get_or cs k 0 in
    let e = get_or (g.col c) q 0 in
    let E = at_new W ne in
    let F' : FreePlace g.n g.m (g.col c) (get_or h c 0) q = subst (λ x. FreePlace g.n x (g.col c) (get_or h c 0) q) E.same F in
    let f = free_here F' (λ j a b. W.slices.sound c E.low j a b) l in
    record {
      s = c ∷ W.s;
      slices = visit_slices W.slices c q (set r e c) E.low E.new F' (length-set r e c);
      stage = finding {depth = k} (record {
        is_found_lem = refl;
        room = omega (arith, E.room);
        on = λ i a. Memᴰ.tail (E.on i a);
        child = c;
        path = [];
        last = e;
        same = ap (λ x. set x e c) E.same;
        rest = into_free g cs ps k c W.s e f E.rest;
      });
    }

-- it has none: its rows are to be scanned
pub turn_none : {g : Goal} {mark k : ℕ} {v₀ h₀ cs₀ ps₀ v h cs ps r : List ℕ} {hit : Bool} {q : ℕ}
    → (W : Walk g mark v₀ h₀ cs₀ ps₀ v h cs ps r hit (suc k)) → get_or v (get_or cs k 0) 0 ≢ mark
    → FreePlace g.n r (g.col (get_or cs k 0)) (get_or h (get_or cs k 0) 0) q → length (g.col (get_or cs k 0)) ≤ q
    → Scanning g mark v₀ h₀ cs₀ ps₀ (set v (get_or cs k 0) mark) (set h (get_or cs k 0) q) cs ps r hit k 0
turn_none {g} {k = k} {h = h} {cs = cs} {ps = ps} {r = r} {q = q} W ne F l =
    let c = get_or cs k 0 in
    let E = at_new W ne in
    let F' : FreePlace g.n g.m (g.col c) (get_or h c 0) q = subst (λ x. FreePlace g.n x (g.col c) (get_or h c 0) q) E.same F in
    let held = free_nowhere F' (λ j a b. W.slices.sound c E.low j a b) l in
    record {
      s = c ∷ W.s;
      slices = visit_slices W.slices c q r E.low E.new F' refl;
      unfound = E.unfound;
      same = E.same;
      room = omega (arith, E.room);
      on = λ i a. ⊎_elim (λ e. Memᴰ.head (ap (λ x. get_or cs x 0) e)) (λ b. Memᴰ.tail (E.on i b)) (eq-or-lt_of_le (omega arith));
      held = held;
      within = omega arith;
      rest = into_none g cs ps k c W.s held E.rest;
    }

-- ---- a visit once more

-- the visit to the row's column failed: the rows behind it are to be scanned
pub turn_again : {g : Goal} {mark k : ℕ} {v₀ h₀ cs₀ ps₀ v h cs ps r : List ℕ} {hit : Bool}
    → (W : Walk g mark v₀ h₀ cs₀ ps₀ v h cs ps r hit (suc k)) → get_or v (get_or cs k 0) 0 ≡ mark → hit ≡ false
    → Scanning g mark v₀ h₀ cs₀ ps₀ v h cs ps r hit k (suc (get_or ps k 0))
turn_again {g} {k = k} {cs = cs} {ps = ps} W e f =
    let F = at_failed W e f in
    let R = F.rest in
    record {
      s = W.s;
      slices = W.slices;
      unfound = F.unfound;
      same = F.same;
      room = F.room;
      on = F.on;
      held = R.1.held;
      within = R.1.within;
      rest = (R.2, R.3, R.4, R.5);
    }

-- the visit to the row's column found a path: the column takes the row
pub turn_back : {g : Goal} {mark k : ℕ} {v₀ h₀ cs₀ ps₀ v h cs ps r : List ℕ} {hit : Bool}
    → (W : Walk g mark v₀ h₀ cs₀ ps₀ v h cs ps r hit (suc k)) → get_or v (get_or cs k 0) 0 ≡ mark → hit ≡ true
    → Walk g mark v₀ h₀ cs₀ ps₀ v h cs ps (set r (get_or (g.col (get_or cs k 0)) (get_or ps k 0) 0) (get_or cs k 0)) hit k
turn_back {g} {k = k} {cs = cs} {ps = ps} {r = r} W e f =
    let F = at_found W e f in
    let S = W.slices in
    let c = get_or cs k 0 in
    let x = get_or (g.col c) (get_or ps k 0) 0 in
    let R = F.rest in
    record {
      s = W.s;
      slices = record {
        setting = S.setting;
        stamps = S.stamps;
        once = S.once;
        below = S.below;
        sound = S.sound;
        cheap_kept = S.cheap_kept;
        cols_kept = S.cols_kept;
        places_kept = S.places_kept;
        sized = length-set r x c ∙ S.sized;
      };
      stage = finding {depth = k} (record {
        is_found_lem = F.is_found_lem;
        room = omega (arith, F.room);
        on = λ i a. F.on i (omega arith);
        child = c;
        path = x ∷ F.path;
        last = F.last;
        same = ap (λ y. set y x c) (F.same ∙ ap (λ y. unwind g.m y F.path F.last) R.0);
        rest = R.2;
      });
    }

-- ---- the rows scanned

-- the rows that the scan passed have visited columns
passed : {g : Goal} {mark k : ℕ} {v₀ h₀ cs₀ ps₀ v h cs ps r : List ℕ} {hit : Bool} {from q : ℕ}
    → (A : Scanning g mark v₀ h₀ cs₀ ps₀ v h cs ps r hit k from) → OpenPlace mark v r (g.col (get_or cs k 0)) from q
    → (i : ℕ) → from ≤ i → i < q → i < length (g.col (get_or cs k 0)) → Mem (col_at g.m (g.col (get_or cs k 0)) i) A.s
passed {g} {mark} {k} {v = v} {cs = cs} A P i a b l =
    let c = get_or cs k 0 in
    let low = A.held (get_or (g.col c) i 0) (get_or_mem (g.col c) i l) in
    is_visited A.slices (col_at g.m (g.col c) i) low
    (subst (λ x. get_or v (col_at x (g.col c) i) 0 ≡ mark) A.same (P.before i a b))

-- no column is left to visit: the step on top is taken off
turn_off : {g : Goal} {mark k : ℕ} {v₀ h₀ cs₀ ps₀ v h cs ps r : List ℕ} {hit : Bool} {from q : ℕ}
    → Scanning g mark v₀ h₀ cs₀ ps₀ v h cs ps r hit k from → OpenPlace mark v r (g.col (get_or cs k 0)) from q
    → length (g.col (get_or cs k 0)) ≤ q → Walk g mark v₀ h₀ cs₀ ps₀ v h cs ps r hit k
turn_off {g} {k = k} {cs = cs} {ps = ps} {from = from} A P l =
    let c = get_or cs k 0 in
    let end = length (g.col c) in
    let T = top_past g cs ps k c from end A.s A.within (omega arith) (λ i a b. passed A P i a (omega arith) b) A.rest in
    record {
      s = A.s;
      slices = A.slices;
      stage = failing {depth = k} (record {
        unfound = A.unfound;
        same = A.same;
        room = omega (arith, A.room);
        on = λ i a. A.on i (omega arith);
        child = c;
        rest = top_end g cs ps k c end A.s (omega arith) T;
      });
    }

-- what the column put on is: below n, not visited, and there is room for it
pub open_new : {g : Goal} {mark k : ℕ} {v₀ h₀ cs₀ ps₀ v h cs ps r : List ℕ} {hit : Bool} {from q : ℕ}
    → (A : Scanning g mark v₀ h₀ cs₀ ps₀ v h cs ps r hit k from) → q < length (g.col (get_or cs k 0))
    → get_or v (col_at r (g.col (get_or cs k 0)) q) 0 ≢ mark
    → (col_at r (g.col (get_or cs k 0)) q < g.n) × (¬ Mem (col_at r (g.col (get_or cs k 0)) q) A.s) × (suc k < g.n)
open_new {g} {k = k} {cs = cs} {r = r} {q = q} A l ne =
    let c = get_or cs k 0 in
    let b = col_at r (g.col c) q in
    let low : b < g.n =
    subst (λ x. col_at x (g.col c) q < g.n) (sym A.same) (A.held (get_or (g.col c) q 0) (get_or_mem (g.col c) q l)) in
    let new : ¬ Mem b A.s = λ i. ne (has_stamp A.slices b i) in
    (low, new, omega (arith, A.room, once_room g.n A.s b A.slices.once A.slices.below low new))

-- the column of the row at q is put on
turn_down : {g : Goal} {mark k : ℕ} {v₀ h₀ cs₀ ps₀ v h cs ps r : List ℕ} {hit : Bool} {from q : ℕ}
    → Scanning g mark v₀ h₀ cs₀ ps₀ v h cs ps r hit k from → OpenPlace mark v r (g.col (get_or cs k 0)) from q
    → q < length (g.col (get_or cs k 0))
    → Walk g mark v₀ h₀ cs₀ ps₀ v h (set cs (suc k) (col_at r (g.col (get_or cs k 0)) q)) (set ps k q) r hit (suc (suc k))
turn_down {g} {mark} {k} {cs₀ = cs₀} {ps₀ = ps₀} {cs = cs} {ps = ps} {r = r} {from = from} {q = q} A P l =
    let c = get_or cs k 0 in
    let b = col_at r (g.col c) q in
    let cs' = set cs (suc k) b in
    let ps' = set ps k q in
    let N = open_new A l (P.here l) in
    let S = A.slices in
    let T = top_past g cs ps k c from q A.s P.from_on (omega arith) (λ i a z. passed A P i a z (omega arith)) A.rest in
    let R = ret_agree g cs ps cs' ps' k c T.0 T.1 (λ i a. sym (get_or-set_other cs (suc k) i b 0 (omega arith)))
    (λ i a. sym (get_or-set_other ps k i q 0 (omega arith))) T.3 in
    let top : get_or cs' (suc k) 0 ≡ b = get_or-set_same cs (suc k) b 0 (omega (arith, S.cols_kept.long, N.2)) in
    let same : b ≡ col_at g.m (g.col c) q = ap (λ x. col_at x (g.col c) q) A.same in
    let into : Into g cs' ps' (suc k) (col_at g.m (g.col c) q) A.s =
    step_into g cs' ps' k c q A.s (get_or-set_other cs (suc k) k b 0 (omega arith))
    (get_or-set_same ps k q 0 (omega (arith, S.places_kept.long, N.2))) (record { within = l; held = A.held })
    (subst (λ x. ¬ Mem x A.s) same N.1) (T.0, T.1, T.2, R) in
    record {
      s = A.s;
      slices = record {
        setting = S.setting;
        stamps = S.stamps;
        once = S.once;
        below = S.below;
        sound = S.sound;
        cheap_kept = S.cheap_kept;
        cols_kept = kept_set (suc k) b N.2 S.cols_kept;
        places_kept = kept_set k q (omega (arith, N.2)) S.places_kept;
        sized = S.sized;
      };
      stage = entering {k = suc k} (record {
        unfound = A.unfound;
        same = A.same;
        new = subst (λ x. ¬ Mem x A.s) (sym top) N.1;
        low = subst (λ x. x < g.n) (sym top) N.0;
        room = A.room;
        on = λ i a. subst (λ x. Mem x A.s) (sym (get_or-set_other cs (suc k) i b 0 (omega arith))) (A.on i a);
        rest = subst (λ x. Into g cs' ps' (suc k) x A.s) (sym (top ∙ same)) into;
      });
    }

-- either way the next turn starts
pub turn_on : {g : Goal} {mark k : ℕ} {v₀ h₀ cs₀ ps₀ v h cs ps r : List ℕ} {hit : Bool} {from : ℕ} {cs' ps' : List ℕ} {d : ℕ}
    → Scanning g mark v₀ h₀ cs₀ ps₀ v h cs ps r hit k from → Advance mark v r (g.col (get_or cs k 0)) k from cs ps cs' ps' d
    → Walk g mark v₀ h₀ cs₀ ps₀ v h cs' ps' r hit d
turn_on A (back q P l) = turn_off A P l
turn_on {g} {mark} {k} {v₀} {h₀} {cs₀} {ps₀} {v} {h} {cs} {ps} {r} {hit} A (down q P l) =
    let b = col_at r (g.col (get_or cs k 0)) q in
    let one : suc k ≡ k + 1 = omega arith in
    let two : suc (suc k) ≡ k + 2 = omega arith in
    subst (λ i. Walk g mark v₀ h₀ cs₀ ps₀ v h (set cs i b) (set ps k q) r hit (k + 2)) one
    (subst (λ i. Walk g mark v₀ h₀ cs₀ ps₀ v h (set cs (suc k) b) (set ps k q) r hit i) two (turn_down A P l))
