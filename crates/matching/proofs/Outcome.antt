-- Each exit of `find_diag_matching`: what it returns and leaves is the outcome, and has the meaning.
use Rattle.std.proofs.Common.{ℕ, ◌+◌, ◌<◌, ◌≤◌, ◌≡◌, refl, sym, ap, ◌∙◌, Bool, true, false, List, ◌++◌, ◌⊎◌, inl, inr, arith, eqb}
use Rattle.std.proofs.Common.{length, get_or, take, drop, replicate, drop_at, take_at, Option, Some, None, IfSome, Ok, Err}
use lib.ListN.{length-replicate}
use Rattle.graph.specs.Counting.{bit}
use Rattle.graph.specs.Lists.{elem, table}
use Rattle.graph.specs.Matchings.{Row, Col, Pattern, partner}
use Rattle.graph.proofs.Hall.{hall_set_agree}
use Rattle.graph.proofs.Lists.{mem_elem, length-table, get_or-table, table_ext}
use Rattle.graph.proofs.Matchings.{perfect_agree}
use Rattle.sparse.specs.Buffers.{zeroed, filled}
use Rattle.sparse.specs.Limits.{none, max_size}
use Rattle.sparse.specs.Matrix.{column}
use Rattle.sparse.specs.Parts.{ZeroBelow}
use Rattle.sparse.specs.Refusals.{Checked, passed, number, as_column, first_refusal, early, Roomy, repeated_row}
use Rattle.sparse.specs.declared.Column.{Column}
use Rattle.sparse.specs.declared.refusal.Refusal.{Refusal}
use Rattle.sparse.specs.declared.refusal.Refusal.TheVariants.{Unmatchable}
use Rattle.sparse.proofs.Buffers.{filled_at, front_filled, zero_below}
use Rattle.sparse.proofs.Early.{Early, early_passed, early_passes, early_number, repeats_number}
use Rattle.sparse.proofs.Matrix.{inside, column_once}
use Rattle.sparse.proofs.Passing.{repeats_pass}
use Rattle.matching.specs.Matching.{Verdict, accepted, refused, matching}
use Rattle.matching.specs.Outcome.{Lent, lent_by, buffers, cleared, Outcome, ended}
use Rattle.matching.specs.Outcome.{marks_of}
use Rattle.matching.specs.Outcome.{handed_out, tested, outcome, Given, HallMarks, Means}
use Rattle.matching.specs.Parts.{Fresh, EndsAt, SameBeyond}
use Rattle.matching.specs.Work.{holding}
use Rattle.matching.specs.declared.search.SearchWork.{SearchWork}
use Rattle.matching.proofs.Matching.{Deficient, Decides, matching_decides}

-- ---- what passed checks say

-- what passes is given, and what is given passes
pub given : {size : ℕ} {starts : List ℕ} {rows : List Row} {l : Lent} → Early size starts rows (buffers size l)
    → repeated_row size starts rows ≡ passed → Given size starts rows l
given P e = record {
  valid = record { shaped = P.shaped; below = P.below; once = λ c l. column_once P.shaped e c };
  room = P.room;
}

pub given_early : {size : ℕ} {starts : List ℕ} {rows : List Row} {l : Lent} → Given size starts rows l
    → first_refusal (early size starts rows (buffers size l)) ≡ passed
given_early {size} {l = l} G = early_passes (buffers size l) G.valid.shaped G.valid.below G.room

pub given_once : {size : ℕ} {starts : List ℕ} {rows : List Row} {l : Lent} → Given size starts rows l
    → repeated_row size starts rows ≡ passed
given_once G = repeats_pass G.valid.shaped G.valid.once

-- ---- the exits of the outcome

-- refused by 1, 2, 5 or 3: nothing has changed
pub early_outcome : (size : ℕ) (starts : List ℕ) (rows : List Row) (l : Lent) (r : Refusal)
    → first_refusal (early size starts rows (buffers size l)) ≡ Err r → ended (Err r) l ≡ outcome size starts rows l
unfolding outcome
early_outcome size starts rows l r e = rw e

-- else what is tested further decides
pub tested_outcome : (size : ℕ) (starts : List ℕ) (rows : List Row) (l : Lent)
    → first_refusal (early size starts rows (buffers size l)) ≡ passed → tested size starts rows l ≡ outcome size starts rows l
unfolding outcome
tested_outcome size starts rows l p = rw p

-- refused by 4: the outputs are as they were
pub tested_refused : (size : ℕ) (starts : List ℕ) (rows : List Row) (l : Lent) (r : Refusal) {row2col hall : List ℕ}
    → repeated_row size starts rows ≡ Err r → l.row2col ≡ row2col → l.hall ≡ hall
    → ended (Err r) (cleared size l row2col hall) ≡ tested size starts rows l
tested_refused size starts rows l r e f g = rw (e, f, g)

-- passed by it: the verdict is handed out
pub tested_passed : (size : ℕ) (starts : List ℕ) (rows : List Row) (l : Lent) → repeated_row size starts rows ≡ passed
    → handed_out size l (matching size (column starts rows)) ≡ tested size starts rows l
tested_passed size starts rows l e = rw e

-- so refused by 4 workspace and stack are zero, and the outputs as they were
pub repeat_outcome : (size : ℕ) (starts : List ℕ) (rows : List Row) (l : Lent) (r : Refusal)
    → first_refusal (early size starts rows (buffers size l)) ≡ passed → repeated_row size starts rows ≡ Err r
    → ended (Err r) (cleared size l l.row2col l.hall) ≡ outcome size starts rows l
repeat_outcome size starts rows l r p e = tested_refused size starts rows l r e refl refl ∙ tested_outcome size starts rows l p

-- and else the verdict is handed out
pub verdict_outcome : (size : ℕ) (starts : List ℕ) (rows : List Row) (l : Lent)
    → first_refusal (early size starts rows (buffers size l)) ≡ passed → repeated_row size starts rows ≡ passed
    → handed_out size l (matching size (column starts rows)) ≡ outcome size starts rows l
verdict_outcome size starts rows l p e = tested_passed size starts rows l e ∙ tested_outcome size starts rows l p

-- ---- the workspace

-- what is cleared below k does not matter
zeroed_same : (k : ℕ) (xs ys : List ℕ) → SameBeyond k xs ys → zeroed k ys ≡ zeroed k xs
zeroed_same k xs ys e = ap (λ (t : List ℕ). replicate k 0 ++ t) e

-- slices that changed below n only are cleared as they would have been before
pub cleared_same : (size : ℕ) (l k : Lent) (a b : List ℕ) → SameBeyond size l.visited k.visited
    → SameBeyond size l.cheap k.cheap → SameBeyond size l.scol k.scol → SameBeyond size l.sat k.sat
    → cleared size k a b ≡ cleared size l a b
cleared_same size l k a b e f g h =
    rw (
      zeroed_same size l.visited k.visited e,
      zeroed_same size l.cheap k.cheap f,
      zeroed_same size l.scol k.scol g,
      zeroed_same size l.sat k.sat h,
    )

-- a slice filled, or cleared, below n is as it was beyond
pub filled_beyond : (n v : ℕ) (xs : List ℕ) {ys : List ℕ} → ys ≡ replicate n v ++ drop n xs → SameBeyond n xs ys
filled_beyond n v xs e = ap (drop n) e ∙ drop_at (replicate n v) (drop n xs) n (length-replicate {A = ℕ} n v)

-- stamps that are zero, cheap places cleared and rows freed are fresh
pub fresh : (size : ℕ) (w : SearchWork) (m hall : List ℕ) {cheap row2col : List ℕ} → Roomy (buffers size (lent_by w m hall))
    → ZeroBelow size w.visited.now → cheap ≡ zeroed size w.cheap.now → row2col ≡ replicate size none ++ drop size m
    → length cheap ≡ length w.cheap.now → length row2col ≡ length m
    → Fresh size (holding w w.visited.now cheap w.scol.now w.sat.now) row2col
fresh size w m hall R z e f k j = record {
  unused = record {
    unvisited = z;
    unlooked = rw e (zero_below size size w.cheap.now (omega arith));
    visited_long = R.0;
    cheap_long = omega (arith, R.1.0);
    cols_long = R.1.1.0;
    places_long = R.1.1.1.0;
    matching_long = omega (arith, R.1.1.1.1.0);
  };
  free = ap (take size) f ∙ take_at (replicate size none) (drop size m) size (length-replicate {A = ℕ} size none);
}

-- ---- the outputs

-- a column whose search failed is one
pub failed_below : (n : ℕ) (visited row2col : List ℕ) (failed : Option Column) (v : Verdict)
    → EndsAt n visited row2col failed v → IfSome failed (λ c. c.0 < n)
failed_below n visited row2col None v E = tt
failed_below n visited row2col (Some c) (accepted m) E = absurd E
failed_below n visited row2col (Some c) (refused d seen) E = omega (arith, E.0, E.1)

-- accepted: the slice is the one lent, filled with the matching
pub hand_accepted : (size : ℕ) (visited row2col hall hall' : List ℕ) (l : Lent) (v : Verdict) → size ≤ length row2col
    → EndsAt size visited row2col None v → SameBeyond size l.row2col row2col → hall ≡ l.hall → hall' ≡ zeroed size hall
    → ended passed (cleared size l row2col hall') ≡ handed_out size l v
hand_accepted size visited row2col hall hall' l (accepted m) long E same k h =
    rw (h, k, front_filled size m l.row2col row2col long E same)
hand_accepted size visited row2col hall hall' l (refused c seen) long E same k h = absurd E

-- refused: the matching is zero, and the stamps tell the marks
pub hand_refused : (size : ℕ) (failed : Column) (visited row2col row2col' hall hall' : List ℕ) (l : Lent) (v : Verdict)
    → EndsAt size visited row2col (Some failed) v → SameBeyond size l.row2col row2col → row2col' ≡ zeroed size row2col
    → hall ≡ l.hall → hall' ≡ filled (table (λ c. bit (eqb (get_or visited c 0) (failed.0 + 1))) size) hall
    → ended (Err (Unmatchable failed)) (cleared size l row2col' hall') ≡ handed_out size l v
unfolding marks_of
hand_refused size failed visited row2col row2col' hall hall' l (accepted m) E same g k h = absurd E
hand_refused size failed visited row2col row2col' hall hall' l (refused c seen) E same g k h =
    let marks : table (λ d. bit (eqb (get_or visited d 0) (failed.0 + 1))) size ≡ table (λ d. bit (elem d seen)) size =
    table_ext _ _ size (λ d j. ap bit (ap (λ (x : ℕ). eqb (get_or visited d 0) (x + 1)) E.0 ∙ E.2 d j)) in
    let at : Unmatchable failed ≡ Unmatchable (as_column c) = ap (λ x. Unmatchable (as_column x)) E.0 in
    rw (h, k, marks, g, zeroed_same size l.row2col row2col same, at)

-- ---- the meaning

not_both : (x : Checked) (r : Refusal) → x ≡ passed → x ≡ Err r → ⊥
not_both x r e f = let z : ◌≡◌ {A = ℕ} 0 1 = cc in omega arith

not_accepted : (r : Refusal) → ◌≡◌ {A = Checked} (Err r) passed → ⊥
not_accepted r e = let z : ◌≡◌ {A = ℕ} 0 1 = cc in omega arith

-- a refusal of the matrix or of the room, which is not 9
refused_means : (size : ℕ) (starts : List ℕ) (rows : List Row) (l after : Lent) (r : Refusal) → (¬ Given size starts rows l)
    → number r ≤ 5 → Means size starts rows l after (Err r)
refused_means size starts rows l after r never few = record {
  accepted_exactly = (λ a. absurd (not_accepted r a), λ t. absurd (never t.0));
  perfect = λ a. absurd (not_accepted r a);
  refused_exactly = (λ e. absurd (omega arith), λ t. absurd (never t.0));
  deficient = λ e. absurd (omega arith);
}

early_means : (size : ℕ) (starts : List ℕ) (rows : List Row) (l after : Lent) (r : Refusal)
    → first_refusal (early size starts rows (buffers size l)) ≡ Err r → Means size starts rows l after (Err r)
early_means size starts rows l after r e =
    refused_means size starts rows l after r (λ G. not_both _ r (given_early G) e) (early_number size starts rows (buffers size l) r e)

repeat_means : (size : ℕ) (starts : List ℕ) (rows : List Row) (l after : Lent) (r : Refusal)
    → repeated_row size starts rows ≡ Err r → Means size starts rows l after (Err r)
repeat_means size starts rows l after r e =
    refused_means size starts rows l after r (λ G. not_both _ r (given_once G) e) (omega (arith, repeats_number size starts rows r e))

-- a mark of 1 says that the column is a member
mark_is : (b : Bool) → eqb (bit b) 1 ≡ b
mark_is true = refl
mark_is false = refl

mark_bit : (b : Bool) → (bit b ≡ 1) ⊎ (bit b ≡ 0)
mark_bit true = inl refl
mark_bit false = inr refl

-- the marks of the visited columns are those of a Hall set
pub hall_marks : {n : ℕ} {col : Pattern} {c : Col} {seen : List Col} (xs : List ℕ) → Deficient n col c seen
    → HallMarks n col c (filled (marks_of n seen) xs)
unfolding marks_of
hall_marks {n} {col} {c} {seen} xs D = record {
  below = D.below;
  failed = mark c D.below ∙ ap bit (mem_elem c seen D.among);
  one_or_zero = λ d l. rw (mark d l) (mark_bit (elem d seen));
  hall_set = hall_set_agree (λ d. eqb (get_or (filled (table (λ d. bit (elem d seen)) n) xs) d 0) 1) D.hall_set
      (λ d l. rw (mark d l) (mark_is (elem d seen)));
}
  where
    mark : (d : Col) → d < n → get_or (filled (table (λ d. bit (elem d seen)) n) xs) d 0 ≡ bit (elem d seen)
    mark d l =
        filled_at (table (λ d. bit (elem d seen)) n) xs d (omega (arith, length-table (λ d. bit (elem d seen)) n))
        ∙ get_or-table (λ d. bit (elem d seen)) n d l

-- what a verdict hands out means that it decides
handed_means : (size : ℕ) (starts : List ℕ) (rows : List Row) (l : Lent) (v : Verdict) → Given size starts rows l
    → Decides size (column starts rows) v → Means size starts rows l (handed_out size l v).after (handed_out size l v).answer
handed_means size starts rows l (accepted m) G D = record {
  accepted_exactly = (λ a. (G, D.accepted_exactly.0 (m, refl)), λ t. refl);
  perfect = λ a. perfect_agree (partner (filled m l.row2col)) (D.perfect m refl)
      (λ r k. filled_at m l.row2col r (omega (arith, D.sized m refl)));
  refused_exactly = (λ e. absurd (omega arith), λ t. absurd (t.1 (D.accepted_exactly.0 (m, refl))));
  deficient = λ e. absurd (omega arith);
}
handed_means size starts rows l (refused c seen) G D = record {
  accepted_exactly = (λ a. absurd (not_accepted _ a), λ t. absurd (D.refused_exactly.0 (c, seen, refl) t.1));
  perfect = λ a. absurd (not_accepted _ a);
  refused_exactly = (λ e. (G, D.refused_exactly.0 (c, seen, refl)), λ t. refl);
  deficient = λ e. hall_marks l.hall (D.deficient c seen refl);
}

small_none : {n : ℕ} → n ≤ max_size → n ≤ none
small_none l = omega arith

pub verdict_means : (size : ℕ) (starts : List ℕ) (rows : List Row) (l after : Lent) (answer : Checked)
    → first_refusal (early size starts rows (buffers size l)) ≡ passed → repeated_row size starts rows ≡ passed
    → ended answer after ≡ handed_out size l (matching size (column starts rows)) → Means size starts rows l after answer
verdict_means size starts rows l after answer p e f =
    let P = early_passed size starts rows (buffers size l) p in
    let G = given P e in
    let D = matching_decides size (column starts rows) (inside P.shaped P.below) (small_none P.shaped.small) in
    let a : after ≡ (handed_out size l (matching size (column starts rows))).after = ap (λ (o : Outcome). o.after) f in
    let b : answer ≡ (handed_out size l (matching size (column starts rows))).answer = ap (λ (o : Outcome). o.answer) f in
    rw (a, b) (handed_means size starts rows l (matching size (column starts rows)) G D)

-- so whatever is the outcome has the meaning
pub outcome_means : (size : ℕ) (starts : List ℕ) (rows : List Row) (l after : Lent) (answer : Checked)
    → ended answer after ≡ outcome size starts rows l → Means size starts rows l after answer
outcome_means size starts rows l after answer f =
    go (first_refusal (early size starts rows (buffers size l))) refl (repeated_row size starts rows) refl
  where
    go : (x : Checked) → first_refusal (early size starts rows (buffers size l)) ≡ x → (y : Checked) → repeated_row size starts rows ≡ y
        → Means size starts rows l after answer
    go (Err r) e y g =
        rw (ap (λ (o : Outcome). o.answer) (f ∙ sym (early_outcome size starts rows l r e))) (early_means size starts rows l after r e)
    go (Ok u) e (Err r) g =
        rw (ap (λ (o : Outcome). o.answer) (f ∙ sym (repeat_outcome size starts rows l r e g))) (repeat_means size starts rows l after r g)
    go (Ok u) e (Ok t) g =
        verdict_means size starts rows l after answer e g
        (f ∙ sym (verdict_outcome size starts rows l e g))
