-- The two passes together: the first leaves what the second needs, and the second over the reversed graph makes the rule's blocks.
use Rattle.std.proofs.Common.{ℕ, ◌+◌, ◌≤◌, ◌<◌, ◌≡◌, sym, ap, ◌∙◌, subst, ◌≢◌, ◌↔◌, List, [], arith, length, get_or, take}
use mathlib.Core.List.Memᴰ
use Rattle.graph.specs.Lists.{Mem}
use Rattle.graph.specs.Matchings.{Row, Col, Pattern, Inside, partner}
use Rattle.graph.specs.Permutations.{Inverse}
use Rattle.graph.specs.Blocks.{targets, parents, cut, blocks}
use Rattle.graph.proofs.Cuts.{Within}
use Rattle.graph.proofs.Blocks.{finishing_columns}
use Rattle.sparse.specs.Limits.{max_size, max_entries}
use Rattle.sparse.specs.Matrix.{column}
use Rattle.matching.proofs.Ready.{column_short}
use Rattle.blocks.specs.Walk.{last_first}
use Rattle.blocks.specs.Cut.{second_pass, Finished, CutReady}
use Rattle.blocks.specs.Reverse.{entries, Reversible, ReverseRoom, Reversed}
use Rattle.blocks.proofs.Whole.{targets_below}
use Rattle.blocks.proofs.Backward.{back_shaped, back_graph, back_inside}

-- ---- after the first pass

-- an edge leads from a column below n to a column below n
pub targets_within : {n : ℕ} {col : Pattern} (m : List Col) → Inside n col → ((r : Row) → r < n → partner m r < n) → Within n
    (targets col m)
targets_within {n} {col} m inside matched c d i =
    let t = Memᴰ.of_map (partner m) (col c) i in
    (inside.col_below c t.0 t.1, targets_below m inside matched c d i)

-- the columns listed are those below n
pub finished_ready : {n : ℕ} {col : Pattern} {m : List Col} {v fs starts : List ℕ} → Inside n col
    → ((r : Row) → r < n → partner m r < n) → Finished n col m v fs → n ≤ length fs → n < length starts → CutReady n fs starts
finished_ready {n} {col} {m} inside matched F long room = record {
  listed = λ c. subst (λ x. Mem c x ↔ c < n) (sym F.finishes)
      (finishing_columns n (targets col m) (targets_within m inside matched) c);
  order_long = long;
  starts_long = room;
}

-- none has the stamp of the second pass
pub finished_unwalked : {n : ℕ} {col : Pattern} {m : List Col} {v fs : List ℕ} → Finished n col m v fs
    → (c : Col) → c < n → get_or v c 0 ≢ second_pass
finished_unwalked F c l e = omega (arith, F.stamped c l, e)

-- ---- over the reversed graph, cut to its length

-- its pattern in storage is within n and has short columns
pub back_pattern : {n : ℕ} {col : Pattern} {m : List Col} {inv : List Row} {starts₀ rows₀ starts rows : List ℕ} → n ≤ max_size
    → Reversible n col m → Inverse n m inv → ReverseRoom n col starts rows → Reversed n col m inv starts₀ rows₀ starts rows
    → Inside n (column (take (n + 1) starts) (take (entries n col) rows))
    × ((d : Col) → length (column (take (n + 1) starts) (take (entries n col) rows) d) ≤ max_entries)
back_pattern small R I room T = (back_inside small R I room T, column_short (back_shaped small room T))

-- the blocks that the second pass cuts are those of the rule
pub cut_is_blocks : {n : ℕ} {col : Pattern} {m : List Col} {inv : List Row} {starts₀ rows₀ starts rows v fs : List ℕ} → n ≤ max_size
    → Reversible n col m → Inverse n m inv → ReverseRoom n col starts rows → Reversed n col m inv starts₀ rows₀ starts rows
    → Finished n col m v fs
    → cut (targets (column (take (n + 1) starts) (take (entries n col) rows)) m) n [] (last_first fs n) ≡ blocks n (targets col m)
unfolding blocks
cut_is_blocks {n} {col} {m} {fs = fs} small R I room T F =
    ap (λ k. cut k n [] (last_first fs n)) (back_graph small R I room T) ∙ ap (cut (parents n (targets col m)) n []) F.finishes
