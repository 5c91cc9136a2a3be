-- A strongly connected component: what a walk of the reversed graph enters from the latest finished of the columns that are left.
use Rattle.std.proofs.Common.{ℕ, refl, sym, ◌↔◌, ⊎_elim, List, [], ◌∷◌}
use mathlib.Core.List.Memᴰ
use Rattle.graph.specs.Lists.{Mem, Once}
use Rattle.graph.specs.Reachability.{Reach, here, step, Both}
use Rattle.graph.specs.Walks.{Walked}
use Rattle.graph.proofs.Reachability.{join, reach_from, turn_round}
use Rattle.graph.proofs.Walks.{Child, Walks, stays_entered, enters_listed, enters_reached, enters_children}
use Rattle.graph.proofs.Finishing.{FinishingOrder, returns}

-- the edges of the one graph are those of the other, turned round
abbrev pub Reversed : (ℕ → List ℕ) → (ℕ → List ℕ) → Type 0
Reversed kids back = (c d : ℕ) → Child kids c d ↔ Child back d c

-- no edge leads into s from outside
abbrev pub Closed : (ℕ → List ℕ) → List ℕ → Type 0
Closed kids s = (c d : ℕ) → Child kids c d → Mem d s → Mem c s

-- so no path leads into it
pub closed_reach : {kids : ℕ → List ℕ} {s : List ℕ} → Closed kids s → {x y : ℕ} → Reach (Child kids) x y → Mem y s → Mem x s
closed_reach shut here i = i
closed_reach shut (step {a = a} {b = b} h p) i = shut a b h (closed_reach shut p i)

-- what a walk of the reversed graph has entered stays closed
pub closed_walk : {kids back : ℕ → List ℕ} {cs : List ℕ} {w w' : Walked} → Reversed kids back → Walks back w cs w'
    → Closed kids w.entered → Closed kids w'.entered
closed_walk turned t shut c d h i =
    ⊎_elim (λ j. stays_entered t c (shut c d h j)) (λ f. f c ((turned c d).0 h)) (enters_children t d i)

-- Where nothing leads into what was entered before, and the root c and those that finished before it hold all others that reach c,
-- the columns that a walk of the reversed graph from c adds are those that c and they reach both ways.
pub component : {kids back : ℕ → List ℕ} {c : ℕ} {w w' : Walked} (before : List ℕ) → Reversed kids back → ¬ Mem c w.entered
    → Closed kids w.entered → FinishingOrder (Child kids) (c ∷ before) → Once (c ∷ before)
    → ((z : ℕ) → ¬ Mem z w.entered → Reach (Child kids) z c → Mem z (c ∷ before)) → Walks back w (c ∷ []) w'
    → (x : ℕ) → (Mem x w'.entered × (¬ Mem x w.entered)) ↔ Both (Child kids) c x
component {kids} {back} {c} {w} {w'} before turned new shut order once all t x = (both, added)
  where
    to_root : Mem x w'.entered → ¬ Mem x w.entered → Reach (Child kids) x c
    to_root i out =
        ⊎_elim (λ j. absurd (out j))
        (λ u. turn_round (λ p q h. (turned q p).1 h) (reach_from (sym (Memᴰ.eq_of_singleton u.1)) u.2)) (enters_reached t x i)

    both : Mem x w'.entered × (¬ Mem x w.entered) → Both (Child kids) c x
    both u =
        let p : Reach (Child kids) x c = to_root u.0 u.1 in
        (returns (λ z. ¬ Mem z w.entered) (λ y z out h i. out (shut y z h i)) c before order once all x u.1 p, p)

    added : Both (Child kids) c x → Mem x w'.entered × (¬ Mem x w.entered)
    added u = (
      closed_reach (closed_walk turned t shut) u.1 (enters_listed t c (Memᴰ.head refl)),
      λ i. new (closed_reach shut u.0 i),
    )

-- what c reaches both ways reach each other, and nothing else
pub both_class : {Edge : ℕ → ℕ → Type 0} {c x : ℕ} → Both Edge c x → (y : ℕ) → Both Edge c y ↔ Both Edge x y
both_class p y = (λ q. (join p.1 q.0, join q.1 p.0), λ q. (join p.0 q.0, join q.1 p.1))
