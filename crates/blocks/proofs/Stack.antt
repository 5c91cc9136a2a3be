-- The stack of a walk in two slices, its columns and its places: what is left to do there, and how each step goes on.
use Rattle.std.proofs.Common.{ℕ, zero, suc, ◌+◌, ◌-◌, ◌≤◌, ◌<◌, ◌≡◌, refl, sym, subst, List, [], ◌∷◌, map, arith, length, get_or, drop}
use Rattle.std.proofs.Common.{drop_of_length-le, drop-cons}
use Rattle.graph.specs.Lists.{Mem}
use Rattle.graph.specs.Matchings.{Row, Col, Pattern, partner}
use Rattle.graph.specs.Walks.{Walked, enter, finish}
use Rattle.graph.specs.Blocks.{targets}
use Rattle.graph.proofs.Walks.{Walks, stop, skip, descend}
use Rattle.matching.specs.Parts.{col_at}

-- ---- what is left to do

-- a walk in pattern col with matching m that ends with what is given
pub record Goal : Type 0 where
  pub n : ℕ
  pub col : Pattern
  pub m : List Col
  pub end : Walked

-- a walk over the columns that have the rows rs
abbrev pub Over : Goal → Walked → List Row → Walked → Type 0
Over g w rs v = Walks (targets g.col g.m) w (map (partner g.m) rs) v

-- a visit that left w, handed back to the k steps of a stack, leads to the goal
abbrev pub Ret : Goal → List Col → List ℕ → ℕ → Walked → Type 0
Ret g cs ps zero w = w ≡ g.end
Ret g cs ps (suc k) w =
    (get_or ps k 0 < length (g.col (get_or cs k 0)))
    × (v : Walked) × Over g w (drop (suc (get_or ps k 0)) (g.col (get_or cs k 0))) v × Ret g cs ps k (finish (get_or cs k 0) v)

-- walking over the rows of column c from place p on, above k steps, leads to the goal
abbrev pub Top : Goal → List Col → List ℕ → ℕ → Col → ℕ → Walked → Type 0
Top g cs ps k c p w = (v : Walked) × Over g w (drop p (g.col c)) v × Ret g cs ps k (finish c v)

-- the steps from k on do not matter
pub ret_agree : (g : Goal) (cs ps cs' ps' : List ℕ) (k : ℕ) (w : Walked) → ((i : ℕ) → i < k → get_or cs i 0 ≡ get_or cs' i 0)
    → ((i : ℕ) → i < k → get_or ps i 0 ≡ get_or ps' i 0) → Ret g cs ps k w → Ret g cs' ps' k w
ret_agree g cs ps cs' ps' zero w h q R = R
ret_agree g cs ps cs' ps' (suc k) w h q (l, v, o, R) =
    let rest = ret_agree g cs ps cs' ps' k (finish (get_or cs k 0) v) (λ i l. h i (omega arith)) (λ i l. q i (omega arith)) R in
    rw (← h k (omega arith), ← q k (omega arith)) (l, v, o, rest)

-- ---- a walk

-- no number is left: it ends
pub walks_end : {kids : ℕ → List ℕ} {w v : Walked} → Walks kids w [] v → w ≡ v
walks_end stop = refl

-- a number that was entered is passed by
pub walks_pass : {kids : ℕ → List ℕ} {w v : Walked} {c : ℕ} {cs : List ℕ} → Mem c w.entered → Walks kids w (c ∷ cs) v
    → Walks kids w cs v
walks_pass i (skip old on) = on
walks_pass i (descend new down on) = absurd (new i)

-- another is entered, its children are walked, it is finished, and the walk goes on
pub walks_into : {kids : ℕ → List ℕ} {w v : Walked} {c : ℕ} {cs : List ℕ} → ¬ Mem c w.entered → Walks kids w (c ∷ cs) v
    → (u : Walked) × Walks kids (enter c w) (kids c) u × Walks kids (finish c u) cs v
walks_into new (skip old on) = absurd (new old)
walks_into new (descend {v = u} fresh down on) = (u, down, on)

-- d rows whose columns were entered are passed by
over_past : (g : Goal) {w v : Walked} (rs : List Row) (p d : ℕ) → p + d ≤ length rs
    → ((k : ℕ) → p ≤ k → k < p + d → Mem (col_at g.m rs k) w.entered) → Over g w (drop p rs) v → Over g w (drop (p + d) rs) v
over_past g rs p zero l seen o = let z : p + 0 ≡ p = omega arith in rw z o
over_past g {w} {v} rs p (suc d) l seen o =
    let z : p + suc d ≡ suc p + d = omega arith in
    let on : Over g w (drop (suc p) rs) v =
    walks_pass (seen p (omega arith) (omega arith)) (subst (λ x. Over g w x v) (drop-cons rs p 0 (omega arith)) o) in
    rw z (over_past g rs (suc p) d (omega arith) (λ k a b. seen k (omega arith) (omega arith)) on)

-- ---- the turns

-- the rows from p up to q are passed by
pub top_past : (g : Goal) (cs ps : List ℕ) (k : ℕ) (c : Col) (p q : ℕ) (w : Walked) → p ≤ q → q ≤ length (g.col c)
    → ((i : ℕ) → p ≤ i → i < q → Mem (col_at g.m (g.col c) i) w.entered) → Top g cs ps k c p w → Top g cs ps k c q w
top_past g cs ps k c p q w h l seen (v, o, R) = go (q - p) (omega arith)
  where
    go : (d : ℕ) → q ≡ p + d → Top g cs ps k c q w
    go d z = (v, rw z (over_past g (g.col c) p d (omega arith) (λ i a b. seen i a (omega arith)) o), R)

-- no row is left: the column is finished
pub top_end : (g : Goal) (cs ps : List ℕ) (k : ℕ) (c : Col) (q : ℕ) (w : Walked) → length (g.col c) ≤ q
    → Top g cs ps k c q w → Ret g cs ps k (finish c w)
top_end g cs ps k c q w l (v, o, R) =
    let z : w ≡ v = walks_end (subst (λ x. Over g w x v) (drop_of_length-le (g.col c) l) o) in
    subst (λ x. Ret g cs ps k (finish c x)) (sym z) R

-- the row at p has a column that was not entered: it is put on the stack, and its rows are walked over
top_into : (g : Goal) (cs ps : List ℕ) (k : ℕ) (p : ℕ) (w : Walked) → get_or ps k 0 ≡ p → p < length (g.col (get_or cs k 0))
    → ¬ Mem (col_at g.m (g.col (get_or cs k 0)) p) w.entered → Top g cs ps k (get_or cs k 0) p w
    → Top g cs ps (suc k) (col_at g.m (g.col (get_or cs k 0)) p) 0 (enter (col_at g.m (g.col (get_or cs k 0)) p) w)
top_into g cs ps k p w at l new (v, o, R) =
    let c = get_or cs k 0 in
    let t = walks_into new (subst (λ x. Over g w x v) (drop-cons (g.col c) p 0 l) o) in
    let here : (get_or ps k 0 < length (g.col c)) × (u : Walked) × Over g (finish (col_at g.m (g.col c) p) t.0)
    (drop (suc (get_or ps k 0)) (g.col c)) u × Ret g cs ps k (finish c u) = rw at (l, v, t.2, R) in
    (t.0, t.1, here)

-- the same for a column and a place that are known to stand there
pub step_into : (g : Goal) (cs ps : List ℕ) (k : ℕ) (c : Col) (p : ℕ) (w : Walked) → get_or cs k 0 ≡ c → get_or ps k 0 ≡ p
    → p < length (g.col c) → ¬ Mem (col_at g.m (g.col c) p) w.entered → Top g cs ps k c p w
    → Top g cs ps (suc k) (col_at g.m (g.col c) p) 0 (enter (col_at g.m (g.col c) p) w)
step_into g cs ps k c p w at_c at_p =
    subst (λ x. p < length (g.col x) → ¬ Mem (col_at g.m (g.col x) p) w.entered → Top g cs ps k x p w
    → Top g cs ps (suc k) (col_at g.m (g.col x) p) 0 (enter (col_at g.m (g.col x) p) w))
    at_c (λ l new T. top_into g cs ps k p w at_p l new T)
