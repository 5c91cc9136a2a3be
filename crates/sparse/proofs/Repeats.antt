-- A repeated row in words: an earlier place with the same row, in the same column.
use Rattle.std.proofs.Common.{ℕ, ◌+◌, ◌<◌, ◌≤◌, ◌≡◌, List, Bool, true, ◌&&◌, lt-ltb, le-leb, eq-eqb, eqb-true, leb-true, ltb-true, eqb}
use Rattle.std.proofs.Common.{leb, ltb, get_or}
use Rattle.graph.proofs.Bools.{and_left, and_right, and_both}
use Rattle.graph.proofs.Counting.{some_at, some_is}
use Rattle.sparse.specs.Refusals.{repeats_at, together}

-- the row at place k stands at an earlier place of its column
pub record Repeat (size : ℕ) (starts rows : List ℕ) (k : ℕ) : Type 0 where
  pub place : ℕ
  pub col : ℕ
  pub earlier : place < k
  pub same : get_or rows place 0 ≡ get_or rows k 0
  pub below : col < size
  pub from : get_or starts col 0 ≤ place
  pub to : k < get_or starts (col + 1) 0

-- column c holds both places
abbrev holds : List ℕ → ℕ → ℕ → ℕ → Bool
holds starts j k c = leb (get_or starts c 0) j && ltb k (get_or starts (c + 1) 0)

-- the row at j is that at k, in the same column
abbrev again : ℕ → List ℕ → List ℕ → ℕ → ℕ → Bool
again size starts rows k j = eqb (get_or rows j 0) (get_or rows k 0) && together size starts j k

-- where the test says so, the row repeats
pub repeat_is : (size : ℕ) (starts rows : List ℕ) (k : ℕ) → repeats_at size starts rows k ≡ true → Repeat size starts rows k
unfolding repeats_at together
repeat_is size starts rows k e =
    let j = some_is (again size starts rows k) k e in
    let t = and_right (eqb (get_or rows j.0 0) (get_or rows k 0)) (together size starts j.0 k) j.2 in
    let d = some_is (holds starts j.0 k) size t in
    record {
      place = j.0;
      col = d.0;
      earlier = j.1;
      same = eqb-true _ _ (and_left (eqb (get_or rows j.0 0) (get_or rows k 0)) (together size starts j.0 k) j.2);
      below = d.1;
      from = leb-true _ _ (and_left (leb (get_or starts d.0 0) j.0) (ltb k (get_or starts (d.0 + 1) 0)) d.2);
      to = ltb-true _ _ (and_right (leb (get_or starts d.0 0) j.0) (ltb k (get_or starts (d.0 + 1) 0)) d.2);
    }

-- where the row repeats, the test says so
pub is_repeat : (size : ℕ) (starts rows : List ℕ) (k : ℕ) → Repeat size starts rows k → repeats_at size starts rows k ≡ true
unfolding repeats_at together
is_repeat size starts rows k r =
    some_at (again size starts rows k) k r.place r.earlier
    (and_both _ _ (eq-eqb _ _ r.same)
    (some_at (holds starts r.place k) size r.col r.below (and_both _ _ (le-leb _ _ r.from) (lt-ltb _ _ r.to))))
