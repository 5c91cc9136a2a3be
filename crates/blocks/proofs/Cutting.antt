-- The second pass cuts the columns into the blocks of the rule: what holds between two walks, and how it ends.
use Rattle.std.proofs.Common.{ℕ, zero, suc, ◌+◌, ◌-◌, ◌≤◌, ◌<◌, ◌≡◌, refl, sym, ap, ◌∙◌, subst, ◌⊎◌, inl, inr, ◌↔◌, ◌≢◌, ⊎_elim, Bool}
use Rattle.std.proofs.Common.{true, false, cond, List, [], ◌∷◌, ◌++◌, reverse, append-nil, append_assoc, arith, length, get_or, set}
use Rattle.std.proofs.Common.{take, drop, replicate, length-append, take-suc, take_at}
use mathlib.Core.Bool.{false≢true}
use mathlib.Core.List.{reverse-cons, reverse-append, flatten}
use mathlib.Core.List.Memᴰ
use native.Mathlib.Decide.{ℕ_discrete}
use lib.ListN.{length-replicate, length-reverse}
use lib.Seq.{set_at}
use Rattle.graph.specs.Lists.{Mem, elem}
use Rattle.graph.specs.Matchings.{Col, Pattern}
use Rattle.graph.specs.Walks.{Walked, enter, finish, each, visit}
use Rattle.graph.specs.Blocks.{targets, cut}
use Rattle.graph.proofs.Lists.{mem_elem, elem_not}
use Rattle.graph.proofs.Walks.{Walks, enters_listed, enters_in_front, stays_entered}
use Rattle.sparse.specs.Buffers.{zeroed}
use Rattle.sparse.proofs.Buffers.{drop-zeroed, front_filled}
use Rattle.blocks.specs.Walk.{last_first, walked, WalkEnds, SameFrom}
use Rattle.blocks.specs.declared.walk.WalkWork.{WalkWork}
use Rattle.blocks.specs.Cut.{second_pass, PassReady, CutReady, HoldsBlocks}
use Rattle.blocks.specs.Form.{starts_from, block_starts}
use Rattle.blocks.proofs.Stored.{length_starts}
use Rattle.blocks.proofs.Held.{length_last_first, stamped_few}
use Rattle.blocks.proofs.Passes.{visit_old, Pass, pass_start, pass_more, pass_all, rule_walks}

-- ---- columns noted in a slice

-- each of the first k is among them
pub last_first_has : (xs : List ℕ) (k i : ℕ) → i < k → Mem (get_or xs i 0) (last_first xs k)
last_first_has xs zero i l = absurd (omega arith)
last_first_has xs (suc k) i l = go (last_first_has xs k i) (ℕ_discrete i k)
  where
    go : (i < k → Mem (get_or xs i 0) (last_first xs k)) → Dec (i ≡ k) → Mem (get_or xs i 0) (last_first xs (suc k))
    go on (yes e) = Memᴰ.head (ap (λ (j : ℕ). get_or xs j 0) e)
    go on (no ne) = Memᴰ.tail (on (omega arith))

-- turned round they are the front of the slice
take_last_first : (xs : List ℕ) (k : ℕ) → k ≤ length xs → take k xs ≡ reverse (last_first xs k)
take_last_first xs zero l = refl
take_last_first xs (suc k) l =
    take-suc xs k 0 (omega arith) ∙ ap (λ (t : List ℕ). t ++ (get_or xs k 0 ∷ [])) (take_last_first xs k (omega arith))
    ∙ sym (reverse-cons (get_or xs k 0) (last_first xs k))

-- ---- what a walk enters does not depend on what was finished

abbrev SameEntered : Walked → Walked → Type 0
SameEntered w v = w.entered ≡ v.entered

each_entered : (go : ℕ → Walked → Walked) → ((c : ℕ) (w v : Walked) → SameEntered w v → SameEntered (go c w) (go c v))
    → (cs : List ℕ) (w v : Walked) → SameEntered w v → SameEntered (each go cs w) (each go cs v)
each_entered go h [] w v e = e
each_entered go h (c ∷ cs) w v e = each_entered go h cs (go c w) (go c v) (h c w v e)

visit_entered : (kids : ℕ → List ℕ) (depth c : ℕ) (w v : Walked) → SameEntered w v
    → SameEntered (visit kids depth c w) (visit kids depth c v)
visit_entered kids zero c w v e = e
visit_entered kids (suc depth) c w v e =
    split (elem c w.entered) (elem c v.entered) (ap (elem c) e)
    (each_entered (visit kids depth) (visit_entered kids depth) (kids c) (enter c w) (enter c v) (ap (λ (l : List ℕ). c ∷ l) e))
  where
    down : Walked → Walked
    down u = each (visit kids depth) (kids c) (enter c u)

    split : (a b : Bool) → a ≡ b → SameEntered (down w) (down v)
        → SameEntered (cond a w (finish c (down w))) (cond b v (finish c (down v)))
    split true true z h = e
    split true false z h = absurd (false≢true (sym z))
    split false true z h = absurd (false≢true z)
    split false false z h = h

-- ---- the rule, one listed column more

-- a column that was entered before is passed
cut_old : (kids : Col → List Col) (n : ℕ) (s : List Col) (c : Col) (cs : List Col) → Mem c s → cut kids n s (c ∷ cs) ≡ cut kids n s cs
unfolding cut
cut_old kids n s c cs i = rw (mem_elem c s i)

-- another starts a block: the columns that were put in front of those entered
cut_new : (kids : Col → List Col) (n : ℕ) (s : List Col) (c : Col) (cs t a : List Col) → ¬ Mem c s
    → (visit kids n c (record { entered = s; finished = [] })).entered ≡ t → t ≡ a ++ s
    → cut kids n s (c ∷ cs) ≡ reverse a ∷ cut kids n t cs
unfolding cut
cut_new kids n s c cs t a new e f =
    let front : take (length t - length s) t ≡ a =
    rw f (take_at a s (length (a ++ s) - length s) (omega (arith, length-append a s))) in
    rw (elem_not c s new, e, front) refl

-- ---- the blocks one after another, and their starts

flatten_snoc : (bs : List (List ℕ)) (b : List ℕ) → flatten (bs ++ (b ∷ [])) ≡ flatten bs ++ b
unfolding flatten
flatten_snoc [] b = append-nil b
flatten_snoc (x ∷ bs) b = ap (λ (t : List ℕ). x ++ t) (flatten_snoc bs b) ∙ sym (append_assoc x (flatten bs) b)

-- one block more ends where it ends
starts_snoc : (k : ℕ) (bs : List (List ℕ)) (b : List ℕ)
    → starts_from k (bs ++ (b ∷ [])) ≡ starts_from k bs ++ ((k + length (flatten bs ++ b)) ∷ [])
unfolding flatten
starts_snoc k [] b = refl
starts_snoc k (x ∷ bs) b =
    let e : k + length x + length (flatten bs ++ b) ≡ k + length ((x ++ flatten bs) ++ b) =
    omega (arith, length-append (flatten bs) b, length-append x (flatten bs), length-append (x ++ flatten bs) b) in
    ap (λ (t : List ℕ). k ∷ t)
    (starts_snoc (k + length x) bs b ∙ ap (λ (j : ℕ). starts_from (k + length x) bs ++ (j ∷ [])) e)

-- at most n blocks have n + 1 numbers
length-block_starts : (n : ℕ) (bs : List (List ℕ)) → length bs ≤ n → length (block_starts n bs) ≡ n + 1
length-block_starts n bs l =
    length-append (starts_from 0 bs) (replicate (n - length bs) 0)
    ∙ omega (arith, length_starts 0 bs, length-replicate {A = ℕ} (n - length bs) 0)

-- the end of one more is stored behind the others
starts_more : (n : ℕ) (bs : List (List ℕ)) (b rest : List ℕ) (k end : ℕ) → length bs < n → k ≡ length bs
    → end ≡ length (flatten bs ++ b) → set (block_starts n bs ++ rest) (k + 1) end ≡ block_starts n (bs ++ (b ∷ [])) ++ rest
starts_more n bs b rest k end l ek ee =
    let z : n - length bs ≡ suc (n - (length bs + 1)) = omega arith in
    let y : length (bs ++ (b ∷ [])) ≡ length bs + 1 = length-append bs (b ∷ []) in
    let s = starts_from 0 bs in
    let zs : List ℕ = replicate (n - (length bs + 1)) 0 in
    let here : length s ≡ k + 1 = omega (arith, length_starts 0 bs) in
    let last : 0 + length (flatten bs ++ b) ≡ end = omega arith in
    let was : block_starts n bs ++ rest ≡ s ++ (0 ∷ (zs ++ rest)) =
    ap (λ (j : ℕ). (s ++ replicate j 0) ++ rest) z ∙ append_assoc s (0 ∷ zs) rest in
    let is : block_starts n (bs ++ (b ∷ [])) ++ rest ≡ s ++ (end ∷ (zs ++ rest)) =
    ap (λ (j : ℕ). (starts_from 0 (bs ++ (b ∷ [])) ++ replicate (n - j) 0) ++ rest) y
    ∙ ap (λ (t : List ℕ). (t ++ zs) ++ rest) (starts_snoc 0 bs b)
    ∙ ap (λ (j : ℕ). ((s ++ (j ∷ [])) ++ zs) ++ rest) last
    ∙ ap (λ (t : List ℕ). t ++ rest) (append_assoc s (end ∷ []) zs) ∙ append_assoc s (end ∷ zs) rest in
    ap (λ (t : List ℕ). set t (k + 1) end) was ∙ set_at s 0 (zs ++ rest) end (k + 1) here ∙ sym is

-- before the first block all are zero
starts_clear : (n : ℕ) (xs ys : List ℕ) → ys ≡ zeroed (n + 1) xs → ys ≡ block_starts n [] ++ drop (n + 1) ys
starts_clear n xs ys e =
    let z : n + 1 ≡ suc n = omega arith in
    let y : n - 0 ≡ n = omega arith in
    let front : replicate (n + 1) 0 ≡ block_starts n [] =
    ap (λ (j : ℕ). replicate j 0) z ∙ ap (λ (j : ℕ). 0 ∷ replicate j 0) (sym y) in
    let back : drop (n + 1) ys ≡ drop (n + 1) xs = ap (drop (n + 1)) e ∙ drop-zeroed (n + 1) xs in
    e ∙ ap (λ (t : List ℕ). t ++ drop (n + 1) xs) front ∙ ap (λ (t : List ℕ). block_starts n [] ++ t) (sym back)

-- ---- between two walks

-- the columns s were entered in b blocks, whose starts are noted in front of rest, and the rule leads on from there over the first i listed
pub record Progress (n : ℕ) (kids : Col → List Col) (order rest s : List Col) (starts : List ℕ) (b i : ℕ) : Type 0 where
  pub done : List (List Col)
  pub leads : done ++ cut kids n s (last_first order i) ≡ cut kids n [] (last_first order n)
  pub columns : reverse s ≡ flatten done
  pub counted : b ≡ length done
  pub few : length done ≤ length s
  pub all : (c : Col) → c < n → Mem c s ⊎ Mem c (last_first order i)
  pub starts_are : starts ≡ block_starts n done ++ rest

-- the walk from column c, which was not entered before, put some columns in front of those entered
record Enters (n : ℕ) (kids : Col → List Col) (c : Col) (s t : List Col) : Type 0 where
  fresh : ¬ Mem c s
  a : List Col
  in_front : t ≡ a ++ s
  some : 0 < length a
  walks : (visit kids n c (record { entered = s; finished = [] })).entered ≡ t

-- what was entered stays so, and column c is entered
record Stays (c : Col) (s t : List Col) : Type 0 where
  stays : (x : Col) → Mem x s → Mem x t
  in_t : Mem c t

-- of the columns listed, one less is left
all_more : {n : ℕ} (order : List Col) (j : ℕ) {s t : List Col} → Stays (get_or order j 0) s t
    → ((x : Col) → x < n → Mem x s ⊎ Mem x (last_first order (suc j))) → (x : Col) → x < n → Mem x t ⊎ Mem x (last_first order j)
all_more order j {s} {t} K all x h = ⊎_elim (λ i. inl (K.stays x i)) listed (all x h)
  where
    listed : Mem x (get_or order j 0 ∷ last_first order j) → Mem x t ⊎ Mem x (last_first order j)
    listed i = ⊎_elim (λ e. inl (Memᴰ.cast e K.in_t)) (λ m. inr m) (Memᴰ.cases_cons i)

-- where the next listed column was entered before, there is no block more
progress_old : {n : ℕ} {kids : Col → List Col} {order rest s t : List Col} {starts : List ℕ} {b j : ℕ}
    → Progress n kids order rest s starts b (suc j) → Mem (get_or order j 0) s → t ≡ s → Stays (get_or order j 0) s t
    → Progress n kids order rest t starts b j
progress_old {n} {kids} {order} {rest} {s} {t} {starts} {b} {j} P i e K = record {
  done = P.done;
  leads =
      ap (λ (x : List Col). P.done ++ cut kids n x (last_first order j)) e
      ∙ ap (λ (x : List (List Col)). P.done ++ x) (sym (cut_old kids n s (get_or order j 0) (last_first order j) i)) ∙ P.leads;
  columns = ap reverse e ∙ P.columns;
  counted = P.counted;
  few = omega (arith, P.few, ap length e);
  all = all_more order j K P.all;
  starts_are = P.starts_are;
}

-- else what a walk from it enters is one block more
progress_new : {n : ℕ} {kids : Col → List Col} {order rest s t : List Col} {starts starts' : List ℕ} {b r j : ℕ}
    → Progress n kids order rest s starts b (suc j) → Enters n kids (get_or order j 0) s t → Stays (get_or order j 0) s t
    → length t ≡ r → r ≤ n → starts' ≡ set starts (b + 1) r → Progress n kids order rest t starts' (b + 1) j
progress_new {n} {kids} {order} {rest} {s} {t} {starts} {starts'} {b} {r} {j} P E K lt room B =
    let a = E.a in
    let long : length t ≡ length a + length s = ap length E.in_front ∙ length-append a s in
    let columns : reverse t ≡ flatten P.done ++ reverse a =
    ap reverse E.in_front ∙ reverse-append a s ∙ ap (λ (x : List ℕ). x ++ reverse a) P.columns in
    let ends : r ≡ length (flatten P.done ++ reverse a) = sym lt ∙ sym (length-reverse t) ∙ ap length columns in
    let count : length (P.done ++ (reverse a ∷ [])) ≡ length P.done + 1 = length-append P.done (reverse a ∷ []) in
    record {
      done = P.done ++ (reverse a ∷ []);
      leads =
          append_assoc P.done (reverse a ∷ []) (cut kids n t (last_first order j))
          ∙ ap (λ (x : List (List Col)). P.done ++ x)
          (sym (cut_new kids n s (get_or order j 0) (last_first order j) t a E.fresh E.walks E.in_front)) ∙ P.leads;
      columns = columns ∙ sym (flatten_snoc P.done (reverse a));
      counted = omega (arith, P.counted, count);
      few = omega (arith, P.few, long, E.some, count);
      all = all_more order j K P.all;
      starts_are =
          B ∙ ap (λ (x : List ℕ). set x (b + 1) r) P.starts_are
          ∙ starts_more n P.done (reverse a) rest b r (omega (arith, P.few, long, E.some, lt, room)) P.counted ends;
    }

-- the columns listed at i and behind were walked from: b blocks are done
pub record Seconds (n : ℕ) (col : Pattern) (m order : List Col) (w₀ : WalkWork) (starts₀ : List ℕ) (w : WalkWork) (starts : List ℕ)
    (b k i : ℕ) : Type 0 where
  pub pass : Pass n col m second_pass w₀ w k
  pub listed : (c : Col) → Mem c (last_first order n) ↔ c < n
  pub order_long : n ≤ length order
  pub starts_long : n < length starts
  pub starts_length : length starts ≡ length starts₀
  pub below : i ≤ n
  pub progress : Progress n (targets col m) order (drop (n + 1) starts₀) (last_first w.entered.now k) starts b i

-- before the last listed
pub seconds_start : {n : ℕ} {col : Pattern} {m order : List Col} {w : WalkWork} {given starts : List ℕ}
    → PassReady n col m second_pass w → CutReady n order given → starts ≡ zeroed (n + 1) given → length starts ≡ length given
    → Seconds n col m order w starts w starts 0 0 n
unfolding flatten
seconds_start {n} {given = given} {starts = starts} R C e l = record {
  pass = pass_start R;
  listed = C.listed;
  order_long = C.order_long;
  starts_long = omega (arith, C.starts_long);
  starts_length = refl;
  below = omega arith;
  progress = record {
    done = [];
    leads = refl;
    columns = refl;
    counted = refl;
    few = omega arith;
    all = λ c h. inr ((C.listed c).1 h);
    starts_are = starts_clear n given starts e;
  };
}

-- the next listed is a column
pub seconds_column : {n : ℕ} {col : Pattern} {m order : List Col} {w₀ w : WalkWork} {starts₀ starts : List ℕ} {b k i : ℕ} {c : Col}
    → Seconds n col m order w₀ starts₀ w starts b k i → 0 < i → c ≡ get_or order (i - 1) 0 → c < n
seconds_column {n} {order = order} {i = i} S l e =
    subst (λ (x : ℕ). x < n) (sym e)
    ((S.listed (get_or order (i - 1) 0)).0 (last_first_has order n (i - 1) (omega (arith, l, S.below))))

-- with the stamp it was entered before, and no walk from it enters anything
enters_none : {n : ℕ} {col : Pattern} {m : List Col} {mark : ℕ} {c : Col} {w₀ w w' : WalkWork} {k r : ℕ}
    → Pass n col m mark w₀ w k → c < n → get_or w.visited.now c 0 ≡ mark → WalkEnds n col m c mark k w w' r
    → Mem c (last_first w.entered.now k) × (last_first w'.entered.now r ≡ last_first w.entered.now k)
enters_none {n} {col} {m} {c = c} {w = w} {k = k} P low z W =
    let i = (P.stamped.exactly c low).0 z in (
      i,
      ap (λ x. x.entered) (W.walks ∙ visit_old (targets col m) n c (walked w.entered.now w.finished.now k) i),
    )

-- after the walk from it, it and what was entered before is entered
stays_in : {n : ℕ} {col : Pattern} {m : List Col} {mark : ℕ} {c : Col} {w₀ w w' : WalkWork} {k r : ℕ}
    → Pass n col m mark w₀ w k → c < n → WalkEnds n col m c mark k w w' r
    → Stays c (last_first w.entered.now k) (last_first w'.entered.now r)
stays_in {c = c} P low W =
    let walks = rule_walks P c low in
    let is = sym (ap (λ x. x.entered) W.walks) in
    record {
      stays = λ x i. subst (Mem x) is (stays_entered walks x i);
      in_t = subst (Mem c) is (enters_listed walks c (Memᴰ.head refl));
    }

-- without the stamp a walk from it enters some columns
enters_some : {n : ℕ} {col : Pattern} {m : List Col} {mark : ℕ} {c : Col} {w₀ w w' : WalkWork} {k r : ℕ}
    → Pass n col m mark w₀ w k → c < n → get_or w.visited.now c 0 ≢ mark → WalkEnds n col m c mark k w w' r
    → Enters n (targets col m) c (last_first w.entered.now k) (last_first w'.entered.now r)
enters_some {n} {col} {m} {c = c} {w = w} {w' = w'} {k = k} {r = r} P low ne W = record {
  fresh = fresh;
  a = f.0;
  in_front = is ∙ f.1;
  some = some f.0 in_a;
  walks =
      visit_entered kids n c (record { entered = s; finished = [] }) (walked w.entered.now w.finished.now k) refl ∙ sym is;
}
  where
    s : List Col
    s = last_first w.entered.now k

    kids : Col → List Col
    kids = targets col m

    walk : Walked
    walk = visit kids n c (walked w.entered.now w.finished.now k)

    walks : Walks kids (walked w.entered.now w.finished.now k) (c ∷ []) walk
    walks = rule_walks P c low

    is : last_first w'.entered.now r ≡ walk.entered
    is = ap (λ x. x.entered) W.walks

    fresh : ¬ Mem c s
    fresh i = ne ((P.stamped.exactly c low).1 i)

    f : (a : List Col) × (walk.entered ≡ a ++ s) × ((x : Col) → Mem x a → ¬ Mem x s)
    f = enters_in_front walks

    in_a : Mem c f.0
    in_a =
        ⊎_elim (λ i. i) (λ i. absurd (fresh i))
        (Memᴰ.append_cases f.0 (subst (Mem c) f.1 (enters_listed walks c (Memᴰ.head refl))))

    some : (a : List Col) → Mem c a → 0 < length a
    some [] i = absurd (Memᴰ.not-nil i)
    some (x ∷ a) i = omega arith

-- at most n columns are walked
turn_few : {n : ℕ} {col : Pattern} {m : List Col} {c : Col} {mark k : ℕ} {w w' : WalkWork} {r : ℕ}
    → WalkEnds n col m c mark k w w' r → r ≤ n
turn_few {w' = w'} {r = r} W = omega (arith, length_last_first w'.entered.now r, stamped_few W.stamped)

-- where there is one block more, there were fewer than n
pub seconds_room : {n : ℕ} {col : Pattern} {m order : List Col} {w₀ w w' : WalkWork} {starts₀ starts : List ℕ} {b k i : ℕ} {c : Col} {r : ℕ}
    → Seconds n col m order w₀ starts₀ w starts b k i → 0 < i → c ≡ get_or order (i - 1) 0 → get_or w.visited.now c 0 ≢ second_pass
    → WalkEnds n col m c second_pass k w w' r → b < n
seconds_room {w = w} {w' = w'} {k = k} {r = r} S some at ne W =
    let E = enters_some S.pass (seconds_column S some at) ne W in
    let s = last_first w.entered.now k in
    omega (
      arith,
      length_last_first w'.entered.now r,
      ap length E.in_front ∙ length-append E.a s,
      E.some,
      turn_few W,
      S.progress.few,
      S.progress.counted,
    )

-- after the next listed column, whichever way it goes
seconds_next : {n : ℕ} {col : Pattern} {m order : List Col} {w₀ w w' : WalkWork} {starts₀ starts starts' : List ℕ} {b b' k i : ℕ}
    {c : Col} {r : ℕ}
    → Seconds n col m order w₀ starts₀ w starts b k i → 0 < i → c ≡ get_or order (i - 1) 0
    → WalkEnds n col m c second_pass k w w' r → SameFrom n w w' → length starts' ≡ length starts
    → (Progress n (targets col m) order (drop (n + 1) starts₀) (last_first w.entered.now k) starts b (suc (i - 1))
    → c ≡ get_or order (i - 1) 0 → Progress n (targets col m) order (drop (n + 1) starts₀) (last_first w'.entered.now r) starts' b' (i - 1))
    → Seconds n col m order w₀ starts₀ w' starts' b' r (i - 1)
seconds_next {n} {col} {m} {order} {w = w} {starts₀ = starts₀} {starts = starts} {b = b} {k = k} S some at E same l on = record {
  pass = pass_more S.pass E same;
  listed = S.listed;
  order_long = S.order_long;
  starts_long = omega (arith, S.starts_long);
  starts_length = l ∙ S.starts_length;
  below = omega (arith, S.below);
  progress = on (subst (Progress n (targets col m) order (drop (n + 1) starts₀) (last_first w.entered.now k) starts b)
      (omega (arith, some)) S.progress) at;
}

-- where it has the stamp nothing is noted
pub seconds_old : {n : ℕ} {col : Pattern} {m order : List Col} {w₀ w w' : WalkWork} {starts₀ starts : List ℕ} {b k i : ℕ} {c : Col} {r : ℕ}
    → Seconds n col m order w₀ starts₀ w starts b k i → 0 < i → c ≡ get_or order (i - 1) 0 → get_or w.visited.now c 0 ≡ second_pass
    → WalkEnds n col m c second_pass k w w' r → SameFrom n w w'
    → Seconds n col m order w₀ starts₀ w' starts b r (i - 1)
seconds_old {n} {w = w} {w' = w'} {k = k} {c = c} {r = r} S some at z E same =
    let low = seconds_column S some at in
    let none = enters_none S.pass low z E in
    let s = last_first w.entered.now k in
    seconds_next S some at E same refl (λ P e.
    progress_old P (subst (λ x. Mem x s) e none.0) none.1
    (subst (λ x. Stays x s (last_first w'.entered.now r)) e (stays_in S.pass low E)))

-- else the end of a block is
pub seconds_new : {n : ℕ} {col : Pattern} {m order : List Col} {w₀ w w' : WalkWork} {starts₀ starts starts' : List ℕ} {b k i : ℕ}
    {c : Col} {r : ℕ}
    → Seconds n col m order w₀ starts₀ w starts b k i → 0 < i → c ≡ get_or order (i - 1) 0 → get_or w.visited.now c 0 ≢ second_pass
    → WalkEnds n col m c second_pass k w w' r → SameFrom n w w' → starts' ≡ set starts (b + 1) r → length starts' ≡ length starts
    → Seconds n col m order w₀ starts₀ w' starts' (b + 1) r (i - 1)
seconds_new {n} {col} {m} {w = w} {w' = w'} {k = k} {c = c} {r = r} S some at ne E same B l =
    let low = seconds_column S some at in
    let s = last_first w.entered.now k in
    let t = last_first w'.entered.now r in
    seconds_next S some at E same l (λ P e.
    progress_new P (subst (λ x. Enters n (targets col m) x s t) e (enters_some S.pass low ne E))
    (subst (λ x. Stays x s t) e (stays_in S.pass low E)) (length_last_first w'.entered.now r) (turn_few E) B)

-- ---- the end

-- after the first listed the slices hold the rule's blocks
pub seconds_end : {n : ℕ} {col : Pattern} {m order : List Col} {w₀ w : WalkWork} {given starts₀ starts : List ℕ} {b k i : ℕ}
    → Seconds n col m order w₀ starts₀ w starts b k i → i ≡ 0 → starts₀ ≡ zeroed (n + 1) given
    → HoldsBlocks n (cut (targets col m) n [] (last_first order n)) w₀.entered.now given w.entered.now starts b
unfolding cut
seconds_end {n} {col} {m} {order} {w₀} {w} {given} {starts₀} {starts} {b} {k} {i} S z e =
    subst (λ x. HoldsBlocks n x w₀.entered.now given es starts b) whole (record {
      counted = P.counted;
      columns = front_filled n (flatten P.done) w₀.entered.now es S.pass.room.entered front S.pass.same.entered.beyond;
      starts_are = P.starts_are ∙ rw (long, back) refl;
    })
  where
    es : List Col
    es = w.entered.now

    P : Progress n (targets col m) order (drop (n + 1) starts₀) (last_first w.entered.now k) starts b i
    P = S.progress

    whole : P.done ≡ cut (targets col m) n [] (last_first order n)
    whole =
        sym (append-nil P.done)
        ∙ sym (ap (λ (x : ℕ). P.done ++ cut (targets col m) n (last_first es k) (last_first order x)) z) ∙ P.leads

    no_more : (c : Col) → ¬ Mem c (last_first order i)
    no_more c t = Memᴰ.not-nil (subst (λ (x : ℕ). Mem c (last_first order x)) z t)

    count : k ≡ n
    count = pass_all S.pass (λ c l. ⊎_elim (λ t. t) (λ t. absurd (no_more c t)) (P.all c l))

    front : take n es ≡ flatten P.done
    front =
        take_last_first es n S.pass.room.entered ∙ ap (λ (x : ℕ). reverse (last_first es x)) (sym count) ∙ P.columns

    long : length (block_starts n P.done) ≡ n + 1
    long = length-block_starts n P.done (omega (arith, P.few, length_last_first es k, count))

    back : drop (n + 1) starts₀ ≡ drop (n + 1) given
    back = ap (drop (n + 1)) e ∙ drop-zeroed (n + 1) given
