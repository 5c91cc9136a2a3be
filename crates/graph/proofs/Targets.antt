-- The graph that a list by row gives is the graph of the matching, and its blocks are a block form of that graph.
use Rattle.std.proofs.Common.{ℕ, ◌<◌, sym, subst, ◌↔◌, List}
use mathlib.Core.Logic.Iff
use mathlib.Core.List.Memᴰ
use Rattle.graph.specs.Lists.{Mem}
use Rattle.graph.specs.Reachability.{Both}
use Rattle.graph.specs.Matchings.{Col, Pattern, Inside, partner, Perfect, Points}
use Rattle.graph.specs.Blocks.{BlockForm, targets, blocks}
use Rattle.graph.proofs.Reachability.{one, along}
use Rattle.graph.proofs.Walks.{Child}
use Rattle.graph.proofs.Cuts.{Within}
use Rattle.graph.proofs.Blocks.{blocks_form}

-- the columns that column c points to are those listed
pub targets_is : {n : ℕ} {col : Pattern} → Inside n col → (m : List Col) (c d : Col)
    → Mem d (targets col m c) ↔ Points n col (partner m) c d
targets_is {col = col} inside m c d = (
  λ i. let t = Memᴰ.of_map (partner m) (col c) i in (t.0, inside.row_below c t.0 t.1, t.1, t.2),
  λ t. Memᴰ.cast (sym t.3) (Memᴰ.map (partner m) t.2),
)

-- graphs with the same edges have the same columns that reach each other
pub both_carried : {R S : Col → Col → Type 0} → ((c d : Col) → R c d ↔ S c d) → (c d : Col) → Both R c d ↔ Both S c d
both_carried is c d = (
  λ t. (along (λ a b h. one ((is a b).0 h)) t.0, along (λ a b h. one ((is a b).0 h)) t.1),
  λ t. (along (λ a b h. one ((is a b).1 h)) t.0, along (λ a b h. one ((is a b).1 h)) t.1),
)

-- and the same block forms
pub form_carried : {n : ℕ} {R S : Col → Col → Type 0} {bs : List (List Col)} → ((c d : Col) → R c d ↔ S c d)
    → BlockForm n R bs → BlockForm n S bs
form_carried is B = record {
  covers = B.covers;
  single = B.single;
  same = λ i c d k. Iff.trans (B.same i c d k) (both_carried is c d);
  lower = λ c d i j h. B.lower c d i j ((is c d).1 h);
}

-- the columns that reach each other along the listed targets are those that do in the matching's graph
pub both_is : {n : ℕ} {col : Pattern} → Inside n col → (m : List Col) (c d : Col)
    → Both (Child (targets col m)) c d ↔ Both (Points n col (partner m)) c d
both_is inside m = both_carried (targets_is inside m)

-- a perfect matching's targets are below n
pub targets_within : {n : ℕ} {col : Pattern} → Inside n col → (m : List Col) → Perfect n col (partner m) → Within n (targets col m)
targets_within {n} {col} inside m perfect c d i =
    let t = Memᴰ.of_map (partner m) (col c) i in
    let row : t.0 < n = inside.row_below c t.0 t.1 in
    (inside.col_below c t.0 t.1, subst (λ x. x < n) t.2 (perfect.inside t.0 row))

-- the blocks of a perfect matching are a block form of its graph
pub matching_form : {n : ℕ} {col : Pattern} → Inside n col → (m : List Col) → Perfect n col (partner m)
    → BlockForm n (Points n col (partner m)) (blocks n (targets col m))
matching_form {n} {col} inside m perfect =
    form_carried (targets_is inside m) (blocks_form n (targets col m) (targets_within inside m perfect))
