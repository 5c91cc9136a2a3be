-- The second walk, of the reversed graph and in opposite finishing order, cuts the columns into the blocks of a block form.
use Rattle.std.proofs.Common.{ℕ, zero, suc, ◌-◌, ◌≤◌, ◌<◌, ◌≡◌, refl, ap, ◌⊎◌, inl, inr, ◌↔◌, ⊎_elim, Bool, true, false, cond}
use Rattle.std.proofs.Common.{not-suc-le-zero, arith, length, take, length-append, take_at}
use mathlib.Core.Logic.Iff
use mathlib.Core.List.Memᴰ
use mathlib.Core.List.{
  List,
  [],
  ◌∷◌,
  ◌++◌,
  reverse,
  flatten,
}
use Rattle.graph.specs.Lists.{Mem, Once, elem}
use Rattle.graph.specs.Reachability.{Reach, here, step, Both}
use Rattle.graph.specs.Matchings.{Col}
use Rattle.graph.specs.Walks.{Walked, visit}
use Rattle.graph.specs.Blocks.{block, cut}
use Rattle.graph.proofs.Lists.{elem_mem, not_elem, once_apart, left_le}
use Rattle.graph.proofs.Concatenation.{mem_reverse, once_reverse, once_front, once_append, mem_flatten}
use Rattle.graph.proofs.Walks.{Child, Walks, stays_entered, enters_listed, enters_in_front, enters_once, visits}
use Rattle.graph.proofs.Finishing.{FinishingOrder}
use Rattle.graph.proofs.Components.{Reversed, Closed, closed_walk, component, both_class}

-- an edge leads from a column below n to a column below n
abbrev pub Within : ℕ → (Col → List Col) → Type 0
Within n kids = (c d : Col) → Child kids c d → (c < n) × (d < n)

-- so a path from a column below n stays below n
pub reach_below : {n : ℕ} {kids : Col → List Col} → Within n kids → {c d : Col} → Reach (Child kids) c d → c < n → d < n
reach_below within here l = l
reach_below within (step {a = a} {b = b} h p) l = reach_below within p (within a b h).1

-- and what reaches a column below n is below n
below_reach : {n : ℕ} {kids : Col → List Col} → Within n kids → {c d : Col} → Reach (Child kids) c d → d < n → c < n
below_reach within here l = l
below_reach within (step {a = a} {b = b} h p) l = (within a b h).0

-- the columns s are cut into blocks, and cs, in finishing order, are still to be looked at
pub record Partway (n : ℕ) (kids : Col → List Col) (s cs : List Col) : Type 0 where
  pub cut_once : Once s
  pub shut : Closed kids s
  pub order : FinishingOrder (Child kids) cs
  pub listed_once : Once cs
  pub listed_below : (c : Col) → Mem c cs → c < n
  pub all : (c : Col) → c < n → Mem c s ⊎ Mem c cs

-- bs are a block form of the columns below n that are not in s; no block is empty, and no column stands twice in them
pub record Rest (n : ℕ) (kids : Col → List Col) (s : List Col) (bs : List (List Col)) : Type 0 where
  pub covers : (c : Col) → c < n → Mem c s ⊎ ((i : ℕ) × Mem c (block bs i))
  pub fresh : (i : ℕ) (c : Col) → Mem c (block bs i) → ¬ Mem c s
  pub below : (i : ℕ) (c : Col) → Mem c (block bs i) → c < n
  pub single : (c : Col) (i j : ℕ) → Mem c (block bs i) → Mem c (block bs j) → i ≡ j
  pub same : (i : ℕ) (c d : Col) → Mem c (block bs i) → Mem d (block bs i) ↔ Both (Child kids) c d
  pub lower : (c d : Col) (i j : ℕ) → Child kids c d → Mem c (block bs i) → Mem d (block bs j) → i ≤ j
  pub filled : (i : ℕ) → i < length bs → (c : Col) × Mem c (block bs i)
  pub once : Once (flatten bs)

-- the next listed column is passed, where it stands in what s has become
pass : {n : ℕ} {kids : Col → List Col} {c : Col} {s t cs : List Col} → Partway n kids s (c ∷ cs) → Once t → Closed kids t
    → ((x : Col) → Mem x s → Mem x t) → Mem c t → Partway n kids t cs
pass P once shut grows c_in = record {
  cut_once = once;
  shut = shut;
  order = P.order.0;
  listed_once = P.listed_once.0;
  listed_below = λ x i. P.listed_below x (Memᴰ.tail i);
  all = λ x l. ⊎_elim
      (λ i. inl (grows x i))
      (λ i. ⊎_elim (λ e. inl (Memᴰ.cast e c_in)) (λ j. inr j) (Memᴰ.cases_cons i))
      (P.all x l);
}

-- no column is left
none : {n : ℕ} {kids : Col → List Col} {s : List Col} → Partway n kids s [] → Rest n kids s []
unfolding flatten
none P = record {
  covers = λ c l. ⊎_elim (λ i. inl i) (λ i. absurd (Memᴰ.not-nil i)) (P.all c l);
  fresh = λ i c k. absurd (Memᴰ.not-nil k);
  below = λ i c k. absurd (Memᴰ.not-nil k);
  single = λ c i j k l. absurd (Memᴰ.not-nil k);
  same = λ i c d k. absurd (Memᴰ.not-nil k);
  lower = λ c d i j h k l. absurd (Memᴰ.not-nil k);
  filled = λ i l. absurd (not-suc-le-zero l);
  once = tt;
}

-- the columns a that c and they reach both ways are one block more, in front of the rest
more : {n : ℕ} {kids : Col → List Col} {c : Col} {bs : List (List Col)} (a s : List Col) → Within n kids → c < n
    → Closed kids (a ++ s) → Once (a ++ s) → ((x : Col) → Mem x a ↔ Both (Child kids) c x)
    → Rest n kids (a ++ s) bs → Rest n kids s (reverse a ∷ bs)
unfolding flatten
more {n} {kids} {c} {bs} a s within l shut once is rest = record {
  covers = λ x k. ⊎_elim (place x) (λ t. inr (suc t.0, t.1)) (rest.covers x k);
  fresh = fresh;
  below = below;
  single = single;
  same = same;
  lower = lower;
  filled = filled;
  once = once_append (reverse a) (flatten bs) (once_reverse a (once_front a s once)) rest.once apart;
}
  where
    from : (x : Col) → Mem x (reverse a) → Mem x a
    from x = (mem_reverse a x).0

    -- what stands in this block stands in no later one
    later : (x : Col) (i : ℕ) → Mem x (reverse a) → ¬ Mem x (block bs i)
    later x i k m = rest.fresh i x m (Memᴰ.append_left s (from x k))

    apart : (x : Col) → Mem x (reverse a) → ¬ Mem x (flatten bs)
    apart x k m = let t = (mem_flatten bs x).0 m in later x t.0 k t.1

    place : (x : Col) → Mem x (a ++ s) → Mem x s ⊎ ((i : ℕ) × Mem x (block (reverse a ∷ bs) i))
    place x i = ⊎_elim (λ j. inr (0, (mem_reverse a x).1 j)) (λ j. inl j) (Memᴰ.append_cases a i)

    fresh : (i : ℕ) (x : Col) → Mem x (block (reverse a ∷ bs) i) → ¬ Mem x s
    fresh zero x k = once_apart a s once x (from x k)
    fresh (suc i) x k = λ m. rest.fresh i x k (Memᴰ.append_right a m)

    below : (i : ℕ) (x : Col) → Mem x (block (reverse a ∷ bs) i) → x < n
    below zero x k = reach_below within ((is x).0 (from x k)).0 l
    below (suc i) x k = rest.below i x k

    single : (x : Col) (i j : ℕ) → Mem x (block (reverse a ∷ bs) i) → Mem x (block (reverse a ∷ bs) j) → i ≡ j
    single x zero zero k m = refl
    single x zero (suc j) k m = absurd (later x j k m)
    single x (suc i) zero k m = absurd (later x i m k)
    single x (suc i) (suc j) k m = ap suc (rest.single x i j k m)

    same : (i : ℕ) (x y : Col) → Mem x (block (reverse a ∷ bs) i) → Mem y (block (reverse a ∷ bs) i) ↔ Both (Child kids) x y
    same zero x y k = Iff.trans (mem_reverse a y) (Iff.trans (is y) (both_class ((is x).0 (from x k)) y))
    same (suc i) x y k = rest.same i x y k

    lower : (x y : Col) (i j : ℕ) → Child kids x y → Mem x (block (reverse a ∷ bs) i) → Mem y (block (reverse a ∷ bs) j) → i ≤ j
    lower x y zero j h k m = omega arith
    lower x y (suc i) zero h k m = absurd (rest.fresh i x k (shut x y h (Memᴰ.append_left s (from y m))))
    lower x y (suc i) (suc j) h k m = let le : i ≤ j = rest.lower x y i j h k m in omega arith

    filled : (i : ℕ) → i < length (reverse a ∷ bs) → (x : Col) × Mem x (block (reverse a ∷ bs) i)
    filled zero k = (c, (mem_reverse a c).1 ((is c).1 (here, here)))
    filled (suc i) k = rest.filled i (omega arith)

-- what was put in front of s
take_front : (l a s : List Col) → l ≡ a ++ s → take (length l - length s) l ≡ a
take_front l a s e = rw e (take_at a s (length (a ++ s) - length s) (omega (arith, length-append a s)))

-- a walk from the next listed column, where it is new, finds one block more
next : {n : ℕ} {kids back : Col → List Col} {c : Col} {s cs : List Col} (w : Walked) → Within n kids → Reversed kids back
    → Partway n kids s (c ∷ cs) → ¬ Mem c s → Walks back (record { entered = s; finished = [] }) (c ∷ []) w
    → (Partway n kids w.entered cs → Rest n kids w.entered (cut back n w.entered cs))
    → Rest n kids s (reverse (take (length w.entered - length s) w.entered) ∷ cut back n w.entered cs)
next {n} {kids} {back} {c} {s} {cs} w within turned P new t on =
    let shut : Closed kids w.entered = closed_walk turned t P.shut in
    let once : Once w.entered = enters_once t P.cut_once in
    let c_in : Mem c w.entered = enters_listed t c (Memᴰ.head refl) in
    let a = enters_in_front t in
    front a.0 a.1 a.2 shut once (on (pass P once shut (stays_entered t) c_in))
  where
    inside : c < n
    inside = P.listed_below c (Memᴰ.head refl)

    all : (z : Col) → ¬ Mem z s → Reach (Child kids) z c → Mem z (c ∷ cs)
    all z out p = ⊎_elim (λ i. absurd (out i)) (λ i. i) (P.all z (below_reach within p inside))

    is : (x : Col) → (Mem x w.entered × (¬ Mem x s)) ↔ Both (Child kids) c x
    is = component cs turned new P.shut P.order P.listed_once all t

    front : (a : List Col) → w.entered ≡ a ++ s → ((x : Col) → Mem x a → ¬ Mem x s) → Closed kids w.entered → Once w.entered
        → Rest n kids w.entered (cut back n w.entered cs)
        → Rest n kids s (reverse (take (length w.entered - length s) w.entered) ∷ cut back n w.entered cs)
    front a e fresh shut once rest =
        rw (take_front w.entered a s e, e)
        (more a s within inside (rw e at shut) (rw e at once) (λ x. Iff.trans (added x) (is x)) (rw e at rest))
      where
        added : (x : Col) → Mem x a ↔ (Mem x w.entered × (¬ Mem x s))
        added x = (
          λ i. (rw e (Memᴰ.append_left s i), fresh x i),
          λ u. ⊎_elim (λ i. i) (λ i. absurd (u.1 i)) (Memᴰ.append_cases a (rw e at u.0)),
        )

-- the listed columns are cut into the blocks of all that is not in s
pub cut_rest : {n : ℕ} {kids back : Col → List Col} → Within n kids → Reversed kids back → (s cs : List Col) → Partway n kids s cs
    → Rest n kids s (cut back n s cs)
unfolding cut
cut_rest within turned s [] P = none P
cut_rest {n} {kids} {back} within turned s (c ∷ cs) P = go (λ t. cut_rest within turned t cs) (elem c s) refl
  where
    w : Walked
    w = visit back n c (record { entered = s; finished = [] })

    walk : Walks back (record { entered = s; finished = [] }) (c ∷ []) w
    walk =
        visits n n (record { entered = s; finished = [] }) (c ∷ []) (λ d b i. (within b d ((turned b d).1 i)).0)
        (left_le n s) (λ b i. P.listed_below b (Memᴰ.head (Memᴰ.eq_of_singleton i)))

    go : ((t : List Col) → Partway n kids t cs → Rest n kids t (cut back n t cs)) → (b : Bool) → elem c s ≡ b
        → Rest n kids s
        (cond b (cut back n s cs) (reverse (take (length w.entered - length s) w.entered) ∷ cut back n w.entered cs))
    go on true e = on s (pass P P.cut_once P.shut (λ x i. i) (elem_mem c s e))
    go on false e = next w within turned P (not_elem c s e) walk (on w.entered)
