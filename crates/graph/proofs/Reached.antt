-- A walk that starts from nothing enters, and finishes, exactly what can be reached from its roots.
use Rattle.std.proofs.Common.{ℕ, ◌<◌, ◌↔◌, ⊎_elim, List, []}
use mathlib.Core.Logic.Iff
use mathlib.Core.List.Memᴰ
use Rattle.graph.specs.Lists.{Mem, Once}
use Rattle.graph.specs.Reachability.{Reach, here, step}
use Rattle.graph.specs.Walks.{Walked, unwalked, each, visit}
use Rattle.graph.proofs.Lists.{left_le}
use Rattle.graph.proofs.Walks.{
  Child,
  Walks,
  enters_listed,
  enters_reached,
  enters_children,
  enters_once,
  finishes_entered,
  finishes_new,
  finishes_once,
  visits,
}

-- x can be reached from one of the roots
abbrev pub ReachFrom : (ℕ → List ℕ) → List ℕ → ℕ → Type 0
ReachFrom kids roots x = (r : ℕ) × Mem r roots × Reach (Child kids) r x

-- what was entered, and what was finished, is what can be reached from the roots, each number once
pub record Reached (kids : ℕ → List ℕ) (roots : List ℕ) (w : Walked) : Type 0 where
  pub entered_is : (x : ℕ) → Mem x w.entered ↔ ReachFrom kids roots x
  pub finished_is : (x : ℕ) → Mem x w.finished ↔ ReachFrom kids roots x
  pub entered_once : Once w.entered
  pub finished_once : Once w.finished

-- where a number is entered, so is all that it reaches
reach_entered : {kids : ℕ → List ℕ} {roots : List ℕ} {w : Walked} → Walks kids unwalked roots w
    → {a x : ℕ} → Reach (Child kids) a x → Mem a w.entered → Mem x w.entered
reach_entered t here i = i
reach_entered t (step {a = a} {b = b} h p) i =
    reach_entered t p (⊎_elim (λ j. absurd (Memᴰ.not-nil j)) (λ f. f b h) (enters_children t a i))

-- what is finished is what is entered
pub finished_entered : {kids : ℕ → List ℕ} {roots : List ℕ} {w : Walked} → Walks kids unwalked roots w
    → (x : ℕ) → Mem x w.finished ↔ Mem x w.entered
finished_entered t x = (
  λ i. ⊎_elim (λ j. absurd (Memᴰ.not-nil j)) (λ u. u.1) (finishes_new t x i),
  λ i. ⊎_elim (λ j. absurd (Memᴰ.not-nil j)) (λ j. j) (finishes_entered t x i),
)

-- a walk that starts from nothing gives the reach of its roots
pub walk_reached : {kids : ℕ → List ℕ} {roots : List ℕ} {w : Walked} → Walks kids unwalked roots w → Reached kids roots w
walk_reached {kids} {roots} {w} t = record {
  entered_is = entered;
  finished_is = λ x. Iff.trans (finished_entered t x) (entered x);
  entered_once = enters_once t tt;
  finished_once = finishes_once t (λ x i. absurd (Memᴰ.not-nil i)) tt;
}
  where
    entered : (x : ℕ) → Mem x w.entered ↔ ReachFrom kids roots x
    entered x = (
      λ i. ⊎_elim (λ j. absurd (Memᴰ.not-nil j)) (λ u. u) (enters_reached t x i),
      λ u. reach_entered t u.2 (enters_listed t u.0 u.1),
    )

-- where the children and the roots are below n, the function walks from the roots at depth n
pub walk_from : (kids : ℕ → List ℕ) (n : ℕ) (roots : List ℕ) → ((c d : ℕ) → Child kids c d → d < n) → ((c : ℕ) → Mem c roots → c < n)
    → Walks kids unwalked roots (each (visit kids n) roots unwalked)
walk_from kids n roots inside below = visits n n unwalked roots inside (left_le n []) below

-- so it enters and finishes what can be reached from the roots
pub walk_from_reached : (kids : ℕ → List ℕ) (n : ℕ) (roots : List ℕ) → ((c d : ℕ) → Child kids c d → d < n)
    → ((c : ℕ) → Mem c roots → c < n) → Reached kids roots (each (visit kids n) roots unwalked)
walk_from_reached kids n roots inside below = walk_reached (walk_from kids n roots inside below)
