-- A depth-first walk as a relation between before and after, its laws, and that the function makes such a walk.
use Rattle.std.proofs.Common.{ℕ, zero, suc, ◌≤◌, ◌<◌, ◌≡◌, refl, sym, ap, ◌∙◌, subst, ◌⊎◌, inl, inr, ⊎_elim, Bool, true, false, cond}
use Rattle.std.proofs.Common.{arith}
use mathlib.Core.List.Memᴰ
use mathlib.Core.List.{
  List,
  [],
  ◌∷◌,
  ◌++◌,
  append_assoc,
}
use Rattle.graph.specs.Lists.{Mem, Once, elem}
use Rattle.graph.specs.Reachability.{Reach, here, step}
use Rattle.graph.specs.Walks.{Walked, enter, finish, each, visit}
use Rattle.graph.proofs.Lists.{elem_mem, not_elem, mem_snoc, left, left_mono, left_enter, left_none}
use Rattle.graph.proofs.Reachability.{reach_to}

-- b is a child of a
abbrev pub Child : (ℕ → List ℕ) → ℕ → ℕ → Type 0
Child kids a b = Mem b (kids a)

-- a walk over the listed numbers: one already entered is skipped; another is entered, then its children are walked, then it is finished
pub data Walks (kids : ℕ → List ℕ) : Walked → List ℕ → Walked → Type 0 where
  stop : {w : Walked} → Walks kids w [] w
  skip : {c : ℕ} {cs : List ℕ} {w w' : Walked} → Mem c w.entered → Walks kids w cs w' → Walks kids w (c ∷ cs) w'
  descend : {c : ℕ} {cs : List ℕ} {w v w' : Walked} → ¬ Mem c w.entered
      → Walks kids (enter c w) (kids c) v → Walks kids (finish c v) cs w' → Walks kids w (c ∷ cs) w'

-- ---- what is entered

-- what was entered stays so
pub stays_entered : {kids : ℕ → List ℕ} {cs : List ℕ} {w w' : Walked} → Walks kids w cs w'
    → (x : ℕ) → Mem x w.entered → Mem x w'.entered
stays_entered stop x i = i
stays_entered (skip old on) x i = stays_entered on x i
stays_entered (descend new down on) x i = stays_entered on x (stays_entered down x (Memᴰ.tail i))

-- all of the listed are entered
pub enters_listed : {kids : ℕ → List ℕ} {cs : List ℕ} {w w' : Walked} → Walks kids w cs w'
    → (x : ℕ) → Mem x cs → Mem x w'.entered
enters_listed stop x i = absurd (Memᴰ.not-nil i)
enters_listed (skip old on) x i =
    ⊎_elim (λ e. stays_entered on x (Memᴰ.cast e old)) (λ j. enters_listed on x j) (Memᴰ.cases_cons i)
enters_listed (descend new down on) x i =
    ⊎_elim (λ e. stays_entered on x (stays_entered down x (Memᴰ.head e))) (λ j. enters_listed on x j) (Memᴰ.cases_cons i)

-- what is added is reached from the listed
pub enters_reached : {kids : ℕ → List ℕ} {cs : List ℕ} {w w' : Walked} → Walks kids w cs w'
    → (x : ℕ) → Mem x w'.entered → Mem x w.entered ⊎ ((c : ℕ) × Mem c cs × Reach (Child kids) c x)
enters_reached stop x i = inl i
enters_reached (skip old on) x i = ⊎_elim (λ j. inl j) (λ t. inr (t.0, Memᴰ.tail t.1, t.2)) (enters_reached on x i)
enters_reached {kids} (descend {c = c} {cs = cs} {w = w} new down on) x i =
    ⊎_elim (λ j. under (enters_reached down x j)) (λ t. inr (t.0, Memᴰ.tail t.1, t.2)) (enters_reached on x i)
  where
    under : Mem x (c ∷ w.entered) ⊎ ((d : ℕ) × Mem d (kids c) × Reach (Child kids) d x)
        → Mem x w.entered ⊎ ((d : ℕ) × Mem d (c ∷ cs) × Reach (Child kids) d x)
    under (inl j) = ⊎_elim (λ e. inr (c, Memᴰ.head refl, reach_to here (sym e))) (λ k. inl k) (Memᴰ.cases_cons j)
    under (inr t) = inr (c, Memᴰ.head refl, step t.1 t.2)

-- what is added has its children entered
pub enters_children : {kids : ℕ → List ℕ} {cs : List ℕ} {w w' : Walked} → Walks kids w cs w'
    → (x : ℕ) → Mem x w'.entered → Mem x w.entered ⊎ ((y : ℕ) → Child kids x y → Mem y w'.entered)
enters_children stop x i = inl i
enters_children (skip old on) x i = enters_children on x i
enters_children {kids} (descend {c = c} {w = w} {v = v} {w' = w'} new down on) x i =
    ⊎_elim (λ j. under (enters_children down x j)) (λ f. inr f) (enters_children on x i)
  where
    under : Mem x (c ∷ w.entered) ⊎ ((y : ℕ) → Child kids x y → Mem y v.entered)
        → Mem x w.entered ⊎ ((y : ℕ) → Child kids x y → Mem y w'.entered)
    under (inl j) =
        ⊎_elim (λ e. inr (λ y k. stays_entered on y (enters_listed down y (subst (λ z. Child kids z y) e k)))) (λ k. inl k)
        (Memᴰ.cases_cons j)
    under (inr f) = inr (λ y k. stays_entered on y (f y k))

-- what is added is put in front, and is new
pub enters_in_front : {kids : ℕ → List ℕ} {cs : List ℕ} {w w' : Walked} → Walks kids w cs w'
    → (a : List ℕ) × (w'.entered ≡ a ++ w.entered) × ((x : ℕ) → Mem x a → ¬ Mem x w.entered)
enters_in_front stop = ([], refl, λ x i. absurd (Memᴰ.not-nil i))
enters_in_front (skip old on) = enters_in_front on
enters_in_front (descend {c = c} {w = w} {v = v} new down on) =
    let t = enters_in_front down in
    let u = enters_in_front on in
    (u.0 ++ (t.0 ++ (c ∷ [])), u.1 ∙ ap (λ z. u.0 ++ z) t.1 ∙ simp append_assoc, fresh t.0 u.0 t.2 u.2)
  where
    fresh : (a b : List ℕ) → ((x : ℕ) → Mem x a → ¬ Mem x (c ∷ w.entered)) → ((x : ℕ) → Mem x b → ¬ Mem x v.entered)
        → (x : ℕ) → Mem x (b ++ (a ++ (c ∷ []))) → ¬ Mem x w.entered
    fresh a b new-a new-b x i j =
        let late : Mem x b → ⊥ = λ k. new-b x k (stays_entered down x (Memᴰ.tail j)) in
        let own : x ≡ c → ⊥ = λ e. new (Memᴰ.cast (sym e) j) in
        ⊎_elim late (λ k. ⊎_elim (λ q. new-a x q (Memᴰ.tail j)) own (mem_snoc a c x k)) (Memᴰ.append_cases b i)

-- nothing is entered twice
pub enters_once : {kids : ℕ → List ℕ} {cs : List ℕ} {w w' : Walked} → Walks kids w cs w' → Once w.entered → Once w'.entered
enters_once stop o = o
enters_once (skip old on) o = enters_once on o
enters_once (descend new down on) o = enters_once on (enters_once down (o, new))

-- ---- what is finished

-- what was finished stays so
pub stays_finished : {kids : ℕ → List ℕ} {cs : List ℕ} {w w' : Walked} → Walks kids w cs w'
    → (x : ℕ) → Mem x w.finished → Mem x w'.finished
stays_finished stop x i = i
stays_finished (skip old on) x i = stays_finished on x i
stays_finished (descend new down on) x i = stays_finished on x (Memᴰ.tail (stays_finished down x i))

-- what is added to the entered is finished
pub finishes_entered : {kids : ℕ → List ℕ} {cs : List ℕ} {w w' : Walked} → Walks kids w cs w'
    → (x : ℕ) → Mem x w'.entered → Mem x w.entered ⊎ Mem x w'.finished
finishes_entered stop x i = inl i
finishes_entered (skip old on) x i = finishes_entered on x i
finishes_entered (descend {c = c} {w = w} {v = v} {w' = w'} new down on) x i =
    ⊎_elim (λ j. under (finishes_entered down x j)) (λ f. inr f) (finishes_entered on x i)
  where
    under : Mem x (c ∷ w.entered) ⊎ Mem x v.finished → Mem x w.entered ⊎ Mem x w'.finished
    under (inl j) = ⊎_elim (λ e. inr (stays_finished on x (Memᴰ.head e))) (λ k. inl k) (Memᴰ.cases_cons j)
    under (inr f) = inr (stays_finished on x (Memᴰ.tail f))

-- what is added to the finished was entered by this walk
pub finishes_new : {kids : ℕ → List ℕ} {cs : List ℕ} {w w' : Walked} → Walks kids w cs w'
    → (x : ℕ) → Mem x w'.finished → Mem x w.finished ⊎ ((¬ Mem x w.entered) × Mem x w'.entered)
finishes_new stop x i = inl i
finishes_new (skip old on) x i = finishes_new on x i
finishes_new (descend {c = c} {w = w} {v = v} {w' = w'} new down on) x i =
    ⊎_elim (λ j. ⊎_elim own (λ k. under (finishes_new down x k)) (Memᴰ.cases_cons j)) later (finishes_new on x i)
  where
    own : x ≡ c → Mem x w.finished ⊎ ((¬ Mem x w.entered) × Mem x w'.entered)
    own e = inr (λ k. new (Memᴰ.cast (sym e) k), stays_entered on x (stays_entered down x (Memᴰ.head e)))

    under : Mem x w.finished ⊎ ((¬ Mem x (c ∷ w.entered)) × Mem x v.entered)
        → Mem x w.finished ⊎ ((¬ Mem x w.entered) × Mem x w'.entered)
    under (inl j) = inl j
    under (inr t) = inr (λ k. t.0 (Memᴰ.tail k), stays_entered on x t.1)

    later : (¬ Mem x v.entered) × Mem x w'.entered → Mem x w.finished ⊎ ((¬ Mem x w.entered) × Mem x w'.entered)
    later t = inr (λ k. t.0 (stays_entered down x (Memᴰ.tail k)), t.1)

-- where all that was finished had been entered, nothing is finished twice
pub finishes_once : {kids : ℕ → List ℕ} {cs : List ℕ} {w w' : Walked} → Walks kids w cs w'
    → ((x : ℕ) → Mem x w.finished → Mem x w.entered) → Once w.finished → Once w'.finished
finishes_once stop h o = o
finishes_once (skip old on) h o = finishes_once on h o
finishes_once (descend {c = c} {w = w} {v = v} new down on) h o =
    finishes_once on inside (finishes_once down (λ x i. Memᴰ.tail (h x i)) o, own)
  where
    own : ¬ Mem c v.finished
    own i = ⊎_elim (λ j. new (h c j)) (λ t. t.0 (Memᴰ.head refl)) (finishes_new down c i)

    inside : (x : ℕ) → Mem x (c ∷ v.finished) → Mem x v.entered
    inside x i =
        ⊎_elim (λ e. stays_entered down x (Memᴰ.head e))
        (λ j. ⊎_elim (λ k. stays_entered down x (Memᴰ.tail (h x k))) (λ t. t.1) (finishes_new down x j)) (Memᴰ.cases_cons i)

-- ---- the function

-- the function makes a walk where the depth is at least the count of the numbers below n that are not yet entered
pub visits : {kids : ℕ → List ℕ} (n depth : ℕ) (w : Walked) (cs : List ℕ) → ((c d : ℕ) → Child kids c d → d < n)
    → left n w.entered ≤ depth → ((c : ℕ) → Mem c cs → c < n) → Walks kids w cs (each (visit kids depth) cs w)
visits n zero w [] inside room below = stop
visits n zero w (c ∷ cs) inside room below = skip old (visits n zero w cs inside room (λ b i. below b (Memᴰ.tail i)))
  where
    old : Mem c w.entered
    old = elem_mem c w.entered (left_none n c w.entered (below c (Memᴰ.head refl)) (omega arith))
visits n (suc depth) w [] inside room below = stop
visits {kids} n (suc depth) w (c ∷ cs) inside room below =
    go (visits n depth (enter c w) (kids c) inside) (λ u l. visits n (suc depth) u cs inside l (λ b i. below b (Memᴰ.tail i)))
    (elem c w.entered) refl
  where
    inner : Walked
    inner = each (visit kids depth) (kids c) (enter c w)

    go : (left n (c ∷ w.entered) ≤ depth → ((d : ℕ) → Child kids c d → d < n) → Walks kids (enter c w) (kids c) inner)
        → ((u : Walked) → left n u.entered ≤ suc depth → Walks kids u cs (each (visit kids (suc depth)) cs u))
        → (b : Bool) → elem c w.entered ≡ b
        → Walks kids w (c ∷ cs) (each (visit kids (suc depth)) cs (cond b w (finish c inner)))
    go down on true e = skip (elem_mem c w.entered e) (on w room)
    go down on false e =
        let less : left n w.entered ≡ suc (left n (c ∷ w.entered)) = left_enter n c w.entered (below c (Memᴰ.head refl)) e in
        let under : Walks kids (enter c w) (kids c) inner = down (omega arith) (inside c) in
        let keeps : (x : ℕ) → Mem x w.entered → Mem x inner.entered = λ x i. stays_entered under x (Memᴰ.tail i) in
        let more : left n inner.entered ≤ left n w.entered = left_mono n w.entered inner.entered keeps in
        descend (not_elem c w.entered e) under (on (finish c inner) (omega arith))
