-- Each arm of a turn of a walk's loop leads to the next turn.
use Rattle.std.proofs.Common.{ℕ, suc, ◌+◌, ◌*◌, ◌≤◌, ◌<◌, ◌≡◌, refl, sym, ap, ◌∙◌, subst, ◌≢◌, ⊎_elim, List, ◌∷◌, eq-or-lt_of_le, arith}
use Rattle.std.proofs.Common.{length, get_or, set, get_or-set_same, get_or-set_other}
use mathlib.Core.List.Memᴰ
use Rattle.graph.specs.Lists.{Mem}
use Rattle.graph.specs.Matchings.{Row, Col}
use Rattle.graph.specs.Walks.{enter, finish}
use Rattle.graph.proofs.Lists.{get_or_mem}
use Rattle.matching.specs.Parts.{col_at, OpenPlace, Advance, back, down}
use Rattle.matching.proofs.Stamps.{kept_set}
use Rattle.blocks.specs.Parts.{Leaves}
use Rattle.blocks.proofs.Held.{last_first_more, stamped_more}
use Rattle.blocks.proofs.Stack.{Goal, Top, ret_agree, top_past, top_end, step_into}
use Rattle.blocks.proofs.Walking.{Lists, entering, returning, Walk, Scanning}
use Rattle.blocks.proofs.Walking.{few_entered, entered_room, at_new, at_old}

-- ---- the column on top

-- it is entered: its rows are to be walked over
pub turn_enter : {g : Goal} {mark : ℕ} {S₀ S : Lists} {e f k : ℕ} → (W : Walk g mark S₀ S e f (suc k))
    → get_or S.stamps (get_or S.cols k 0) 0 ≢ mark
    → Scanning g mark S₀ (record {
      stamps = set S.stamps (get_or S.cols k 0) mark;
      cols = S.cols;
      places = S.places;
      entered = set S.entered e (get_or S.cols k 0);
      finished = S.finished;
    }) (suc e) f k 0
turn_enter {g} {mark} {S₀} {S} {e} {f} {k} W ne =
    let c = get_or S.cols k 0 in
    let E = at_new W ne in
    let H = W.slices in
    let room : e < g.n = entered_room H c E.low E.new in
    record {
      w = enter c W.w;
      slices = record {
        setting = H.setting;
        stamps = stamped_more H.stamps c E.low H.stamps_kept.long E.new;
        entered = last_first_more S.entered e c (omega (arith, room, H.entered_kept.long)) ∙ ap (λ l. c ∷ l) H.entered;
        finished = H.finished;
        stamps_kept = kept_set c mark E.low H.stamps_kept;
        cols_kept = H.cols_kept;
        places_kept = H.places_kept;
        entered_kept = kept_set e c room H.entered_kept;
        finished_kept = H.finished_kept;
      };
      unfinished = omega (arith, E.unfinished);
      on = λ i a. ⊎_elim (λ z. Memᴰ.head (ap (λ x. get_or S.cols x 0) z)) (λ b. Memᴰ.tail (E.on i b))
          (eq-or-lt_of_le (omega arith));
      within = omega arith;
      rest = E.rest;
    }

-- a child of it was finished: the rows behind the child's are to be walked over
pub turn_again : {g : Goal} {mark : ℕ} {S₀ S : Lists} {e f k : ℕ} → (W : Walk g mark S₀ S e f (suc k))
    → get_or S.stamps (get_or S.cols k 0) 0 ≡ mark → Scanning g mark S₀ S e f k (suc (get_or S.places k 0))
turn_again W z =
    let R = at_old W z in
    let T = R.rest in
    record { w = W.w; slices = W.slices; unfinished = R.unfinished; on = R.on; within = T.0; rest = (T.1, T.2, T.3) }

-- ---- the rows walked over

-- a row of the column on top has a column below n
pub child_below : {g : Goal} {mark : ℕ} {S₀ S : Lists} {e f k from : ℕ} → Scanning g mark S₀ S e f k from
    → (i : ℕ) → i < length (g.col (get_or S.cols k 0)) → col_at g.m (g.col (get_or S.cols k 0)) i < g.n
child_below {g} {S = S} {k = k} A i l =
    let c = get_or S.cols k 0 in
    let r = get_or (g.col c) i 0 in
    A.slices.setting.matched r (A.slices.setting.inside.row_below c r (get_or_mem (g.col c) i l))

-- the rows that were passed have columns that were entered
passed : {g : Goal} {mark : ℕ} {S₀ S : Lists} {e f k from q : ℕ} → (A : Scanning g mark S₀ S e f k from)
    → OpenPlace mark S.stamps g.m (g.col (get_or S.cols k 0)) from q
    → (i : ℕ) → from ≤ i → i < q → i < length (g.col (get_or S.cols k 0))
    → Mem (col_at g.m (g.col (get_or S.cols k 0)) i) A.w.entered
passed {g} {S = S} {k = k} A P i a b l =
    (A.slices.stamps.exactly (col_at g.m (g.col (get_or S.cols k 0)) i) (child_below A i l)).0 (P.before i a b)

-- no column is left to enter: the one on top is finished
turn_off : {g : Goal} {mark : ℕ} {S₀ S : Lists} {e f k from q : ℕ} → Scanning g mark S₀ S e f k from
    → OpenPlace mark S.stamps g.m (g.col (get_or S.cols k 0)) from q → length (g.col (get_or S.cols k 0)) ≤ q
    → Walk g mark S₀ (record {
      stamps = S.stamps;
      cols = S.cols;
      places = S.places;
      entered = S.entered;
      finished = set S.finished f (get_or S.cols k 0);
    }) e (suc f) k
turn_off {g} {mark} {S₀} {S} {e} {f} {k} {from} A P l =
    let c = get_or S.cols k 0 in
    let H = A.slices in
    let end = length (g.col c) in
    let T = top_past g S.cols S.places k c from end A.w A.within (omega arith)
    (λ i a b. passed A P i a (omega arith) b) A.rest in
    let room : f < g.n = omega (arith, A.unfinished, few_entered H) in
    record {
      w = finish c A.w;
      slices = record {
        setting = H.setting;
        stamps = H.stamps;
        entered = H.entered;
        finished = last_first_more S.finished f c (omega (arith, room, H.finished_kept.long)) ∙ ap (λ l. c ∷ l) H.finished;
        stamps_kept = H.stamps_kept;
        cols_kept = H.cols_kept;
        places_kept = H.places_kept;
        entered_kept = H.entered_kept;
        finished_kept = kept_set f c room H.finished_kept;
      };
      stage = returning {depth = k} (record {
        unfinished = omega (arith, A.unfinished);
        on = λ i a. A.on i (omega arith);
        rest = top_end g S.cols S.places k c end A.w (omega arith) T;
      });
    }

-- what the column put on is: below n, not entered, and there is room for it
pub open_new : {g : Goal} {mark : ℕ} {S₀ S : Lists} {e f k from q : ℕ} → (A : Scanning g mark S₀ S e f k from)
    → q < length (g.col (get_or S.cols k 0)) → get_or S.stamps (col_at g.m (g.col (get_or S.cols k 0)) q) 0 ≢ mark
    → (col_at g.m (g.col (get_or S.cols k 0)) q < g.n) × (¬ Mem (col_at g.m (g.col (get_or S.cols k 0)) q) A.w.entered)
    × (suc k < g.n)
open_new {g} {S = S} {k = k} {q = q} A l ne =
    let b = col_at g.m (g.col (get_or S.cols k 0)) q in
    let low = child_below A q l in
    let new : ¬ Mem b A.w.entered = λ i. ne ((A.slices.stamps.exactly b low).1 i) in
    (low, new, omega (arith, A.unfinished, entered_room A.slices b low new))

-- the column of the row at q is put on
turn_down : {g : Goal} {mark : ℕ} {S₀ S : Lists} {e f k from q : ℕ} → Scanning g mark S₀ S e f k from
    → OpenPlace mark S.stamps g.m (g.col (get_or S.cols k 0)) from q → q < length (g.col (get_or S.cols k 0))
    → Walk g mark S₀ (record {
      stamps = S.stamps;
      cols = set S.cols (suc k) (col_at g.m (g.col (get_or S.cols k 0)) q);
      places = set S.places k q;
      entered = S.entered;
      finished = S.finished;
    }) e f (suc (suc k))
turn_down {g} {mark} {S₀} {S} {e} {f} {k} {from} {q} A P l =
    let cs = S.cols in
    let ps = S.places in
    let c = get_or cs k 0 in
    let b = col_at g.m (g.col c) q in
    let cs' = set cs (suc k) b in
    let ps' = set ps k q in
    let N = open_new A l (P.here l) in
    let H = A.slices in
    let T = top_past g cs ps k c from q A.w P.from_on (omega arith) (λ i a z. passed A P i a z (omega arith)) A.rest in
    let R = ret_agree g cs ps cs' ps' k (finish c T.0) (λ i a. sym (get_or-set_other cs (suc k) i b 0 (omega arith)))
    (λ i a. sym (get_or-set_other ps k i q 0 (omega arith))) T.2 in
    let top : get_or cs' (suc k) 0 ≡ b = get_or-set_same cs (suc k) b 0 (omega (arith, H.cols_kept.long, N.2)) in
    let into : Top g cs' ps' (suc k) b 0 (enter b A.w) =
    step_into g cs' ps' k c q A.w (get_or-set_other cs (suc k) k b 0 (omega arith))
    (get_or-set_same ps k q 0 (omega (arith, H.places_kept.long, N.2))) l N.1 (T.0, T.1, R) in
    record {
      w = A.w;
      slices = record {
        setting = H.setting;
        stamps = H.stamps;
        entered = H.entered;
        finished = H.finished;
        stamps_kept = H.stamps_kept;
        cols_kept = kept_set (suc k) b N.2 H.cols_kept;
        places_kept = kept_set k q (omega (arith, N.2)) H.places_kept;
        entered_kept = H.entered_kept;
        finished_kept = H.finished_kept;
      };
      stage = entering {k = suc k} (record {
        new = subst (λ x. ¬ Mem x A.w.entered) (sym top) N.1;
        low = subst (λ x. x < g.n) (sym top) N.0;
        unfinished = A.unfinished;
        on = λ i a. subst (λ x. Mem x A.w.entered) (sym (get_or-set_other cs (suc k) i b 0 (omega arith))) (A.on i a);
        rest = subst (λ x. Top g cs' ps' (suc k) x 0 (enter x A.w)) (sym top) into;
      });
    }

-- either way the next turn starts
pub turn_on : {g : Goal} {mark : ℕ} {S₀ S : Lists} {e f k from : ℕ} {cs' ps' fs' : List ℕ} {d f' : ℕ} → Scanning g mark S₀ S e f k from
    → Advance mark S.stamps g.m (g.col (get_or S.cols k 0)) k from S.cols S.places cs' ps' d
    → Leaves (get_or S.cols k 0) d k S.finished f fs' f'
    → Walk g mark S₀ (record { stamps = S.stamps; cols = cs'; places = ps'; entered = S.entered; finished = fs' }) e f' d
turn_on {g} {mark} {S₀} {S} {e} {f} {k} {fs' = fs'} {f' = f'} A (back q P l) L =
    let t = L.off refl in
    let one : suc f ≡ f' = omega (arith, t.1) in
    subst (λ x. Walk g mark S₀ (record {
      stamps = S.stamps;
      cols = S.cols;
      places = S.places;
      entered = S.entered;
      finished = x;
    }) e f' k) (sym t.0)
    (subst (λ x. Walk g mark S₀ (record {
      stamps = S.stamps;
      cols = S.cols;
      places = S.places;
      entered = S.entered;
      finished = set S.finished f (get_or S.cols k 0);
    }) e x k) one (turn_off A P l))
turn_on {g} {mark} {S₀} {S} {e} {f} {k} {fs' = fs'} {f' = f'} A (down q P l) L =
    let b = col_at g.m (g.col (get_or S.cols k 0)) q in
    let t = L.on (omega arith) in
    let one : suc k ≡ k + 1 = omega arith in
    let two : suc (suc k) ≡ k + 2 = omega arith in
    subst (λ x. Walk g mark S₀ (record {
      stamps = S.stamps;
      cols = set S.cols (k + 1) b;
      places = set S.places k q;
      entered = S.entered;
      finished = x;
    }) e f' (k + 2)) (sym t.0)
    (subst (λ x. Walk g mark S₀ (record {
      stamps = S.stamps;
      cols = set S.cols (k + 1) b;
      places = set S.places k q;
      entered = S.entered;
      finished = S.finished;
    }) e x (k + 2)) (sym t.1)
    (subst (λ i. Walk g mark S₀ (record {
      stamps = S.stamps;
      cols = set S.cols i b;
      places = set S.places k q;
      entered = S.entered;
      finished = S.finished;
    }) e f (k + 2)) one
    (subst (λ i. Walk g mark S₀ (record {
      stamps = S.stamps;
      cols = set S.cols (suc k) b;
      places = set S.places k q;
      entered = S.entered;
      finished = S.finished;
    }) e f i) two (turn_down A P l))))

-- ---- what is left falls

-- a column finished counts twice, and so does a step put on
pub on_sum : {mark : ℕ} {v m : List ℕ} {rs : List Row} {k from : ℕ} {cs ps cs' ps' fs fs' : List ℕ} {c : Col} {d f f' : ℕ}
    → Advance mark v m rs k from cs ps cs' ps' d → Leaves c d k fs f fs' f' → 2 * f' + d ≡ 2 * f + k + 2
on_sum (back q P l) L = omega (arith, (L.off refl).1)
on_sum (down q P l) L = omega (arith, (L.on (omega arith)).1)
