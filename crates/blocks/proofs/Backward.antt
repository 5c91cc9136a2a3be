-- The reversed graph, cut to its length, is a pattern that a walk may be made in, and its graph is that of the parents.
use Rattle.std.proofs.Common.{ℕ, ◌+◌, ◌≤◌, ◌<◌, ◌≡◌, refl, sym, ap, ◌∙◌, subst, List, [], ◌∷◌, map, arith, length, get_or, take, drop}
use Rattle.std.proofs.Common.{get_or-take, length-take-le, take-take}
use mathlib.Core.Path.{fun_ext}
use mathlib.Core.List.Memᴰ
use native.Mathlib.Decide.{ℕ_discrete, dec_lt}
use lib.Seq.{slice}
use Rattle.graph.specs.Lists.{Mem, elem, range}
use Rattle.graph.specs.Matchings.{Row, Col, Pattern, Inside, partner}
use Rattle.graph.specs.Permutations.{Inverse}
use Rattle.graph.specs.Blocks.{targets, parents}
use Rattle.graph.specs.Edits.{edited}
use Rattle.graph.proofs.Edits.{edited_same, edited_other}
use Rattle.graph.proofs.Lists.{elem_mem, keep_only, range_is}
use Rattle.sparse.specs.Limits.{max_size}
use Rattle.sparse.specs.Matrix.{column, column_or, Shaped}
use Rattle.sparse.proofs.Matrix.{column_end, column_beyond}
use Rattle.blocks.specs.Reverse.{entries, Reversible, ReverseRoom, Reversed}
use Rattle.blocks.proofs.Totals.{targets_low}

-- rows taken through the inverse and the matching are the columns themselves
back_again : (n : ℕ) (m : List Col) (inv : List Row) → Inverse n m inv → (cs : List Col) → ((c : Col) → Mem c cs → c < n)
    → map (partner m) (map (partner inv) cs) ≡ cs
back_again n m inv I [] low = refl
back_again n m inv I (c ∷ cs) low =
    ap (λ y. y ∷ map (partner m) (map (partner inv) cs)) (I.back_and_there c (low c (Memᴰ.head refl)))
    ∙ ap (λ y. c ∷ y) (back_again n m inv I cs (λ d i. low d (Memᴰ.tail i)))

-- a parent of column d is below n and has d as a child
parent_is : (n : ℕ) (kids : Col → List Col) (d c : Col) → Mem c (parents n kids d) → (c < n) × Mem d (kids c)
parent_is n kids d c i =
    let t = keep_only (λ b. elem d (kids b)) (range n) c i in
    ((range_is n c).0 t.0, elem_mem d (kids c) t.1)

-- the children of a column in the reversed graph are its parents
pub reversed_targets : {n : ℕ} {col : Pattern} {m : List Col} {inv : List Row} {starts₀ rows₀ starts rows : List ℕ} → Inverse n m inv
    → Reversed n col m inv starts₀ rows₀ starts rows → (d : Col) → d < n
    → targets (column starts rows) m d ≡ parents n (targets col m) d
reversed_targets {n} {col} {m} {inv} I T d l =
    ap (map (partner m)) (T.lists d l)
    ∙ back_again n m inv I (parents n (targets col m) d) (λ c i. (parent_is n (targets col m) d c i).0)

-- a list without members is empty
no_members : (l : List ℕ) → ((x : ℕ) → ¬ Mem x l) → l ≡ []
no_members [] h = refl
no_members (x ∷ l) h = absurd (h x (Memᴰ.head refl))

-- a column beyond the last has no parents
parents_beyond : {n : ℕ} {col : Pattern} {m : List Col} → Reversible n col m → (d : Col) → n ≤ d → parents n (targets col m) d ≡ []
parents_beyond {n} {col} {m} R d l = no_members (parents n (targets col m) d) (λ c i.
    let low = targets_low R c d (parent_is n (targets col m) d c i).1 in
    omega arith)

-- ---- the slices cut to their lengths

-- they are shaped as a matrix is
pub back_shaped : {n : ℕ} {col : Pattern} {m : List Col} {inv : List Row} {starts₀ rows₀ starts rows : List ℕ} → n ≤ max_size
    → ReverseRoom n col starts rows → Reversed n col m inv starts₀ rows₀ starts rows
    → Shaped n (take (n + 1) starts) (take (entries n col) rows)
back_shaped {n} {col} {starts = starts} {rows = rows} small room T = record {
  small = small;
  few = omega (arith, long, room.few);
  starts_length = length-take-le (n + 1) starts (omega (arith, room.starts_long));
  from_zero = at 0 (omega arith) ∙ T.from_zero;
  rising = λ c l. omega (arith, at c (omega arith), at (c + 1) (omega arith), T.rising c l);
  to_end = at n (omega arith) ∙ T.to_end ∙ sym long;
}
  where
    long : length (take (entries n col) rows) ≡ entries n col
    long = length-take-le (entries n col) rows room.rows_long

    at : (c : ℕ) → c < n + 1 → get_or (take (n + 1) starts) c 0 ≡ get_or starts c 0
    at c l = get_or-take (n + 1) starts c 0 l

-- each column has the rows of its parents
pub back_column : {n : ℕ} {col : Pattern} {m : List Col} {inv : List Row} {starts₀ rows₀ starts rows : List ℕ}
    → n ≤ max_size → Reversible n col m → ReverseRoom n col starts rows → Reversed n col m inv starts₀ rows₀ starts rows
    → (d : Col) → column (take (n + 1) starts) (take (entries n col) rows) d ≡ map (partner inv) (parents n (targets col m) d)
back_column {n} {col} {m} {inv} {starts = starts} {rows = rows} small R room T d = go (dec_lt d n)
  where
    s : List ℕ
    s = take (n + 1) starts

    r : List ℕ
    r = take (entries n col) rows

    S : Shaped n s r
    S = back_shaped small room T

    cut : d < n → column s r d ≡ column starts rows d
    cut l =
        let lo : get_or s d 0 ≡ get_or starts d 0 = get_or-take (n + 1) starts d 0 (omega arith) in
        let hi : get_or s (d + 1) 0 ≡ get_or starts (d + 1) 0 = get_or-take (n + 1) starts (d + 1) 0 (omega arith) in
        let long = length-take-le (entries n col) rows room.rows_long in
        let end : get_or s (d + 1) 0 ≤ entries n col = omega (arith, column_end S d l, long) in
        ap (drop (get_or s d 0)) (take-take (get_or s (d + 1) 0) (entries n col) rows end)
        ∙ ap (λ y. slice y (get_or s (d + 1) 0) rows) lo ∙ ap (λ y. slice (get_or starts d 0) y rows) hi

    go : Dec (d < n) → column s r d ≡ map (partner inv) (parents n (targets col m) d)
    go (yes l) = cut l ∙ T.lists d l
    go (no l) = column_beyond S d (omega arith) ∙ sym (ap (map (partner inv)) (parents_beyond R d (omega arith)))

-- so its graph is that of the parents
pub back_graph : {n : ℕ} {col : Pattern} {m : List Col} {inv : List Row} {starts₀ rows₀ starts rows : List ℕ}
    → n ≤ max_size → Reversible n col m → Inverse n m inv → ReverseRoom n col starts rows → Reversed n col m inv starts₀ rows₀ starts rows
    → targets (column (take (n + 1) starts) (take (entries n col) rows)) m ≡ parents n (targets col m)
back_graph {n} {col} {m} {inv} small R I room T = fun_ext (λ d.
    ap (map (partner m)) (back_column small R room T d)
    ∙ back_again n m inv I (parents n (targets col m) d) (λ c i. (parent_is n (targets col m) d c i).0))

-- and so it is where a column beyond the last is given no rows
pub back_kids : {n : ℕ} {col : Pattern} {m : List Col} {inv : List Row} {starts₀ rows₀ starts rows : List ℕ} (e : Col) → n ≤ e
    → n ≤ max_size → Reversible n col m → Inverse n m inv → ReverseRoom n col starts rows → Reversed n col m inv starts₀ rows₀ starts rows
    → targets (column_or (take (n + 1) starts) (take (entries n col) rows) e []) m ≡ parents n (targets col m)
back_kids {n} {col} {m} {inv} {starts = starts} {rows = rows} e none small R I room T =
    ap (λ p. targets p m) (fun_ext (λ d. same d (ℕ_discrete d e))) ∙ back_graph small R I room T
  where
    p : Pattern
    p = column (take (n + 1) starts) (take (entries n col) rows)

    same : (d : Col) → Dec (d ≡ e) → edited p e [] d ≡ p d
    same d (yes z) = rw z (edited_same p e [] ∙ sym (column_beyond (back_shaped small room T) e none))
    same d (no ne) = edited_other p e [] d ne

-- every entry is inside
pub back_inside : {n : ℕ} {col : Pattern} {m : List Col} {inv : List Row} {starts₀ rows₀ starts rows : List ℕ}
    → n ≤ max_size → Reversible n col m → Inverse n m inv → ReverseRoom n col starts rows → Reversed n col m inv starts₀ rows₀ starts rows
    → Inside n (column (take (n + 1) starts) (take (entries n col) rows))
back_inside {n} {col} {m} {inv} small R I room T = record {
  row_below = λ d r i.
      let t = Memᴰ.of_map (partner inv) (parents n (targets col m) d) (subst (λ y. Mem r y) (back_column small R room T d) i) in
      subst (λ y. y < n) t.2 (I.back_below t.0 (parent_is n (targets col m) d t.0 t.1).0);
  col_below = λ d r i.
      let t = Memᴰ.of_map (partner inv) (parents n (targets col m) d) (subst (λ y. Mem r y) (back_column small R room T d) i) in
      targets_low R t.0 d (parent_is n (targets col m) d t.0 t.1).1;
}
