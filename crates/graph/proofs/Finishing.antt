-- The order in which a walk finishes, and what it is good for: the root of a block reaches whatever reaches it.
use Rattle.std.proofs.Common.{ℕ, ◌≡◌, refl, sym, subst, ◌⊎◌, inl, inr, ⊎_elim, Bool, true, false, List, [], ◌∷◌}
use mathlib.Core.List.Memᴰ
use Rattle.graph.specs.Lists.{Mem, Once, elem}
use Rattle.graph.specs.Reachability.{Reach, here, step}
use Rattle.graph.specs.Walks.{Walked, unwalked, enter, finish}
use Rattle.graph.proofs.Lists.{elem_mem, not_elem}
use Rattle.graph.proofs.Reachability.{one, join, reach_to, reach_from}
use Rattle.graph.proofs.Walks.{
  Child,
  Walks,
  stop,
  skip,
  descend,
  enters_listed,
  stays_finished,
  finishes_entered,
}

-- a finishing order, latest first: an edge from p, or from one finished before p, leads to one of these or to one that reaches p
abbrev pub FinishingOrder : (ℕ → ℕ → Type 0) → List ℕ → Type 0
FinishingOrder Edge [] = Unit {0}
FinishingOrder Edge (p ∷ before) =
    FinishingOrder Edge before × ((u z : ℕ) → Mem u (p ∷ before) → Edge u z → Mem z (p ∷ before) ⊎ Reach Edge z p)

-- ---- a walk finishes in such an order

-- x is entered and not finished
abbrev pub Open : Walked → ℕ → Type 0
Open w x = Mem x w.entered × (¬ Mem x w.finished)

-- what is finished has its children entered, and stands in finishing order
pub record Ordered (kids : ℕ → List ℕ) (w : Walked) : Type 0 where
  pub children : (x y : ℕ) → Mem x w.finished → Child kids x y → Mem y w.entered
  pub order : FinishingOrder (Child kids) w.finished

-- what is entered is open or finished
open_or_finished : (w : Walked) (x : ℕ) → Mem x w.entered → Open w x ⊎ Mem x w.finished
open_or_finished w x i = go (elem x w.finished) refl
  where
    go : (b : Bool) → elem x w.finished ≡ b → Open w x ⊎ Mem x w.finished
    go true e = inr (elem_mem x w.finished e)
    go false e = inl (i, not_elem x w.finished e)

-- c is finished after its children were walked: the order holds on, where all that was open before reaches c
closing : {kids : ℕ → List ℕ} {c : ℕ} {w v : Walked} → Walks kids (enter c w) (kids c) v → ((z : ℕ) → Open w z → Reach (Child kids) z c)
    → Ordered kids v → Ordered kids (finish c v)
closing {kids} {c} {w} {v} down up after = record {
  children = children;
  order = (after.order, λ u z i h. land z (finishes_entered down z (children u z i h)));
}
  where
    children : (x y : ℕ) → Mem x (c ∷ v.finished) → Child kids x y → Mem y v.entered
    children x y i h =
        ⊎_elim (λ e. enters_listed down y (subst (λ z. Child kids z y) e h)) (λ j. after.children x y j h) (Memᴰ.cases_cons i)

    was : (z : ℕ) → Open w z ⊎ Mem z w.finished → Mem z (c ∷ v.finished) ⊎ Reach (Child kids) z c
    was z (inl o) = inr (up z o)
    was z (inr i) = inl (Memᴰ.tail (stays_finished down z i))

    land : (z : ℕ) → Mem z (c ∷ w.entered) ⊎ Mem z v.finished → Mem z (c ∷ v.finished) ⊎ Reach (Child kids) z c
    land z (inl i) = ⊎_elim (λ e. inl (Memᴰ.head e)) (λ j. was z (open_or_finished w z j)) (Memᴰ.cases_cons i)
    land z (inr i) = inl (Memᴰ.tail i)

-- the order holds on along a walk, where all that was open reaches the listed
pub walk_ordered : {kids : ℕ → List ℕ} {cs : List ℕ} {w w' : Walked} → Walks kids w cs w' → Ordered kids w
    → ((z c : ℕ) → Open w z → Mem c cs → Reach (Child kids) z c) → Ordered kids w'
walk_ordered stop O up = O
walk_ordered (skip old on) O up = walk_ordered on O (λ z c o i. up z c o (Memᴰ.tail i))
walk_ordered {kids} (descend {c = c} {cs = cs} {w = w} {v = v} new down on) O up =
    let opened : Ordered kids (enter c w) = record { children = λ x y i h. Memᴰ.tail (O.children x y i h); order = O.order } in
    let closed : Ordered kids (finish c v) = closing down (λ z o. up z c o (Memᴰ.head refl)) (walk_ordered down opened under) in
    walk_ordered on closed (λ z b o i. up z b (still z o) (Memᴰ.tail i))
  where
    under : (z d : ℕ) → Open (enter c w) z → Child kids c d → Reach (Child kids) z d
    under z d o h =
        ⊎_elim (λ e. reach_from e (one h)) (λ i. join (up z c (i, o.1) (Memᴰ.head refl)) (one h)) (Memᴰ.cases_cons o.0)

    still : (z : ℕ) → Open (finish c v) z → Open w z
    still z o =
        let i : Mem z (c ∷ w.entered) = ⊎_elim (λ j. j) (λ j. absurd (o.1 (Memᴰ.tail j))) (finishes_entered down z o.0) in
        let j : Mem z w.entered = ⊎_elim (λ e. absurd (o.1 (Memᴰ.head e))) (λ k. k) (Memᴰ.cases_cons i) in
        (j, λ k. o.1 (Memᴰ.tail (stays_finished down z k)))

-- a walk that starts from nothing finishes in finishing order
pub walk_finishing : {kids : ℕ → List ℕ} {roots : List ℕ} {w : Walked} → Walks kids unwalked roots w
    → FinishingOrder (Child kids) w.finished
walk_finishing {kids} {roots} {w} t = ordered.order
  where
    ordered : Ordered kids w
    ordered =
        walk_ordered t (record { children = λ x y i h. absurd (Memᴰ.not-nil i); order = tt })
        (λ z c o i. absurd (Memᴰ.not-nil o.0))

-- ---- what the order is good for

-- N are numbers from which no edge leads out. Where x and those that finished before it hold all of N that reach x, x reaches them.
module _ {Edge : ℕ → ℕ → Type 0} (N : ℕ → Type 0) (kept : (u z : ℕ) → N u → Edge u z → N z) (x : ℕ) where
  -- all of N that reach x stand in s, or x reaches them
  abbrev Settled : List ℕ → Type 0
  Settled s = (z : ℕ) → N z → Reach Edge z x → Mem z s ⊎ Reach Edge x z

  -- a path to x from y ∷ s leaves it, by an edge to one that reaches y; so x reaches y
  leave : (y : ℕ) (s : List ℕ) → ¬ Mem x (y ∷ s) → Settled (y ∷ s)
      → ((u z : ℕ) → Mem u (y ∷ s) → Edge u z → Mem z (y ∷ s) ⊎ Reach Edge z y)
      → (u : ℕ) → Reach Edge u x → Mem u (y ∷ s) → N u → Reach Edge x y
  leave y s out S F u here i n = absurd (out i)
  leave y s out S F u (step {b = z} h p) i n = go (λ j. leave y s out S F z p j (kept u z n h)) (F u z i h)
    where
      go : (Mem z (y ∷ s) → Reach Edge x y) → Mem z (y ∷ s) ⊎ Reach Edge z y → Reach Edge x y
      go on (inl j) = on j
      go on (inr q) = ⊎_elim on (λ r. join r q) (S z (kept u z n h) p)

  -- so the last finished of s can be left out, one after another
  settle : (s : List ℕ) → FinishingOrder Edge s → ¬ Mem x s → Settled s → Settled []
  settle [] F out S = S
  settle (y ∷ s) F out S = settle s F.0 (λ i. out (Memᴰ.tail i)) (λ z n p. go z n p (S z n p))
    where
      go : (z : ℕ) → N z → Reach Edge z x → Mem z (y ∷ s) ⊎ Reach Edge x z → Mem z s ⊎ Reach Edge x z
      go z n p (inr q) = inr q
      go z n p (inl i) = ⊎_elim (λ e. inr (reach_to (leave y s out S F.1 z p i n) (sym e))) (λ j. inl j) (Memᴰ.cases_cons i)

  -- the root x of a block reaches whatever reaches it
  pub returns : (before : List ℕ) → FinishingOrder Edge (x ∷ before) → Once (x ∷ before)
      → ((z : ℕ) → N z → Reach Edge z x → Mem z (x ∷ before)) → (z : ℕ) → N z → Reach Edge z x → Reach Edge x z
  returns before F o all z n p = ⊎_elim (λ i. absurd (Memᴰ.not-nil i)) (λ q. q) (settle before F.0 o.1 first z n p)
    where
      first : Settled before
      first y k q = ⊎_elim (λ e. inr (reach_to here (sym e))) (λ i. inl i) (Memᴰ.cases_cons (all y k q))
