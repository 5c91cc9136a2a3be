-- Each exit of `edit_column`: what it returns and leaves is the outcome, and has the meaning.
use Rattle.std.proofs.Common.{ℕ, ◌<◌, ◌≤◌, ◌≡◌, refl, sym, ap, ◌∙◌, ◌≢◌, List, arith, length, take, length-take-le, Ok, Err}
use Rattle.graph.specs.Matchings.{Row, Col, Pattern, Inside, Perfect, Points, partner}
use Rattle.graph.specs.Blocks.{targets, blocks}
use Rattle.graph.proofs.Matchings.{perfect_agree}
use Rattle.graph.proofs.SameSets.{same_sets}
use Rattle.sparse.specs.Buffers.{filled}
use Rattle.sparse.specs.Limits.{none, max_size}
use Rattle.sparse.specs.Matrix.{column, column_or}
use Rattle.sparse.specs.Refusals.{Checked, passed, number, first_refusal, Roomy, early}
use Rattle.sparse.specs.declared.refusal.Refusal.{Refusal}
use Rattle.sparse.proofs.Buffers.{filled_at}
use Rattle.sparse.proofs.Early.{Early, early_passed, early_passes, early_number}
use Rattle.sparse.proofs.Matrix.{column_once}
use Rattle.matching.specs.Matching.{Verdict, accepted, refused}
use Rattle.matching.proofs.Matching.{Decides}
use Rattle.matching.proofs.Outcome.{hall_marks}
use Rattle.rematching.specs.Checks.{late}
use Rattle.rematching.specs.Rematching.{rematching, Rerouted}
use Rattle.rematching.proofs.Late.{late_passed, late_passes, late_number, late_not_nine}
use Rattle.rematching.proofs.Rematching.{rematching_decides, rematching_place, rematching_reroutes_slice, perfect_take, edited_inside}
use Rattle.blocks.specs.Form.{columns_of, block_starts, StoredForm}
use Rattle.triangular.specs.Outcome.{Work, Outputs, Lent, lent, buffers, cleared, BlockAnswer, Outcome, ended}
use Rattle.triangular.proofs.Outcome.{blocks_stored}
use Rattle.triangular.proofs.Room.{lent_room}
use Rattle.edit.specs.Outcome.{edit_entries, handed_out, replaced, outcome, Given, Accepts, Means}

-- ---- what passed checks say

-- where there is room, the slice that lends the old matching has n numbers
pub matching_room : (size k : ℕ) (l : Lent) → Roomy (buffers size k l) → size ≤ length l.outer.row2col
matching_room size k l R = (lent_room size k l R).1

-- what passes is given
pub given : {size : ℕ} {starts : List ℕ} {rows : List Row} {e : Col} {new : List Row} {l : Lent}
    → Early size starts rows (buffers size (edit_entries size rows) l)
    → first_refusal (late size starts rows e new l.outer.row2col) ≡ passed → Given size starts rows e new l
given {size} {starts} {rows} {e} {new} {l} P q =
    let t = late_passed size starts rows e new l.outer.row2col (matching_room size (edit_entries size rows) l P.room) q in
    record {
      valid = record { shaped = P.shaped; below = P.below; once = λ c k. column_once P.shaped t.0 c };
      editable = t.1;
      room = P.room;
    }

-- what is given passes 1, 2, 5 and 3
pub given_early : {size : ℕ} {starts : List ℕ} {rows : List Row} {e : Col} {new : List Row} {l : Lent} → Given size starts rows e new l
    → first_refusal (early size starts rows (buffers size (edit_entries size rows) l)) ≡ passed
given_early {size} {rows = rows} {l = l} G =
    early_passes (buffers size (edit_entries size rows) l) G.valid.shaped G.valid.below G.room

-- and 4, 13, 14, 15 and the late 1
pub given_late : {size : ℕ} {starts : List ℕ} {rows : List Row} {e : Col} {new : List Row} {l : Lent} → Given size starts rows e new l
    → first_refusal (late size starts rows e new l.outer.row2col) ≡ passed
given_late G = late_passes G.valid G.editable

-- ---- the exits of the outcome

-- refused by 1, 2, 5 or 3: nothing has changed
pub early_outcome : (size : ℕ) (starts : List ℕ) (rows : List Row) (e : Col) (new : List Row) (l : Lent) (r : Refusal)
    → first_refusal (early size starts rows (buffers size (edit_entries size rows) l)) ≡ Err r
    → ended (Err r) l ≡ outcome size starts rows e new l
unfolding outcome
early_outcome size starts rows e new l r q = rw q

-- else what the replacement makes, with workspace and stack zero
pub replaced_outcome : (size : ℕ) (starts : List ℕ) (rows : List Row) (e : Col) (new : List Row) (l : Lent)
    → first_refusal (early size starts rows (buffers size (edit_entries size rows) l)) ≡ passed
    → replaced size starts rows e new (cleared size (edit_entries size rows) l.inner) l.outer ≡ outcome size starts rows e new l
unfolding outcome
replaced_outcome size starts rows e new l p = rw p

-- refused by 4, 13, 14, 15 or the late 1: no output has changed
pub refused_replaced : (size : ℕ) (starts : List ℕ) (rows : List Row) (e : Col) (new : List Row) (w : Work) (o : Outputs) (r : Refusal)
    → first_refusal (late size starts rows e new o.row2col) ≡ Err r
    → ended (Err r) (lent w o) ≡ replaced size starts rows e new w o
unfolding replaced
refused_replaced size starts rows e new w o r q = rw q

-- else the verdict is handed out
pub verdict_replaced : (size : ℕ) (starts : List ℕ) (rows : List Row) (e : Col) (new : List Row) (w : Work) (o : Outputs)
    → first_refusal (late size starts rows e new o.row2col) ≡ passed
    → handed_out size (column_or starts rows e new) w o (rematching size (column_or starts rows e new) (take size o.row2col) e)
    ≡ replaced size starts rows e new w o
unfolding replaced
verdict_replaced size starts rows e new w o q = rw q

-- ---- the verdict

-- a size within the limit is no larger than the number that stands for no column
small_none : {n : ℕ} → n ≤ max_size → n ≤ none
small_none l = omega arith

-- every entry of the edited matrix is inside
pub given_inside : {size : ℕ} {starts : List ℕ} {rows : List Row} {e : Col} {new : List Row} {l : Lent}
    → Given size starts rows e new l → Inside size (column_or starts rows e new)
given_inside {e = e} {new = new} G =
    edited_inside e new G.valid.shaped G.valid.below G.editable.new_below G.editable.below

-- the rule decides what passes
pub decides : {size : ℕ} {starts : List ℕ} {rows : List Row} {e : Col} {new : List Row} {l : Lent} → Given size starts rows e new l
    → Decides size (column_or starts rows e new) (rematching size (column_or starts rows e new) (take size l.outer.row2col) e)
decides {size} {starts} {rows} {e} {new} {l} G =
    let m = l.outer.row2col in
    rematching_decides {col = column starts rows} (take size m) new (small_none G.valid.shaped.small)
    (length-take-le size m (matching_room size (edit_entries size rows) l G.room)) (perfect_take m G.editable.perfect)
    G.editable.below (given_inside G)

-- and where it accepts, the slice was changed along one path
reroutes : {size : ℕ} {starts : List ℕ} {rows : List Row} {e : Col} {new : List Row} {l : Lent} → Given size starts rows e new l
    → (p : List Col) → rematching size (column_or starts rows e new) (take size l.outer.row2col) e ≡ accepted p
    → Rerouted size (column_or starts rows e new) l.outer.row2col (filled p l.outer.row2col) e
reroutes {size} {starts} {rows} {new = new} {l = l} G p h =
    rematching_reroutes_slice {col = column starts rows} l.outer.row2col new p (small_none G.valid.shaped.small)
    (matching_room size (edit_entries size rows) l G.room) G.editable.perfect G.editable.below (given_inside G) h

-- ---- the meaning

-- a check does not both pass and refuse
not_both : (x : Checked) (r : Refusal) → x ≡ passed → x ≡ Err r → ⊥
not_both x r e f = let z : ◌≡◌ {A = ℕ} 0 1 = cc in omega arith

-- a refusal is no acceptance
not_accepted : (r : Refusal) (k : ℕ) → ◌≡◌ {A = BlockAnswer} (Err r) (Ok k) → ⊥
not_accepted r k e = let z : ◌≡◌ {A = ℕ} 0 1 = cc in omega arith

-- a refusal of the matrix, of the room or of the edit, which is not 9
refused_means : (size : ℕ) (starts : List ℕ) (rows : List Row) (e : Col) (new : List Row) (l after : Lent) (r : Refusal)
    → (¬ Given size starts rows e new l) → number r ≢ 9 → after.outer.row2col ≡ l.outer.row2col
    → Means size starts rows e new l after (Err r)
refused_means size starts rows e new l after r never other same = record {
  accepted_exactly = (λ a. absurd (not_accepted r a.0 a.1), λ t. absurd (never t.0));
  accepts = λ k a. absurd (not_accepted r k a);
  refused_exactly = (λ q. absurd (other q), λ t. absurd (never t.0));
  at_column = λ q. absurd (other q);
  deficient = λ q. absurd (other q);
  kept = λ _. same;
}

-- refused by 1, 2, 5 or 3
early_means : (size : ℕ) (starts : List ℕ) (rows : List Row) (e : Col) (new : List Row) (l after : Lent) (r : Refusal)
    → first_refusal (early size starts rows (buffers size (edit_entries size rows) l)) ≡ Err r
    → after.outer.row2col ≡ l.outer.row2col → Means size starts rows e new l after (Err r)
early_means size starts rows e new l after r q same =
    refused_means size starts rows e new l after r (λ G. not_both _ r (given_early G) q)
    (λ n. omega (arith, early_number size starts rows (buffers size (edit_entries size rows) l) r q)) same

-- refused by 4, 13, 14, 15 or the late 1
late_means : (size : ℕ) (starts : List ℕ) (rows : List Row) (e : Col) (new : List Row) (l after : Lent) (r : Refusal)
    → first_refusal (late size starts rows e new l.outer.row2col) ≡ Err r
    → after.outer.row2col ≡ l.outer.row2col → Means size starts rows e new l after (Err r)
late_means size starts rows e new l after r q same =
    refused_means size starts rows e new l after r (λ G. not_both _ r (given_late G) q)
    (late_not_nine (number r) (late_number size starts rows e new l.outer.row2col r q)).1 same

-- what acceptance hands out: a perfect matching in the slice, rerouted, with its blocks
accepted_hands : {size : ℕ} {col : Pattern} {e : Col} (p old : List Col) (x y : List ℕ) → Inside size col → length p ≡ size
    → Perfect size col (partner p) → Rerouted size col old (filled p old) e
    → Accepts size col e old (filled p old) (filled (columns_of (blocks size (targets col p))) x)
    (filled (block_starts size (blocks size (targets col p))) y) (length (blocks size (targets col p)))
accepted_hands {size} {col} {e} p old x y I sized M R = record {
  perfect = perfect_agree (partner (filled p old)) M agree;
  rerouted = R;
  form = form;
  afresh = λ f bs N B. same_sets (perfect_agree (partner (filled p old)) M agree) N form.form B;
}
  where
    agree : (r : Row) → r < size → partner (filled p old) r ≡ partner p r
    agree r k = filled_at p old r (omega arith)

    form : StoredForm size (Points size col (partner (filled p old))) (filled (columns_of (blocks size (targets col p))) x)
        (filled (block_starts size (blocks size (targets col p))) y) (length (blocks size (targets col p)))
    form = blocks_stored I p (filled p old) x y M agree

-- what a verdict hands out means that it decides, changes one path and refuses at the edited column
handed_means : (size : ℕ) (starts : List ℕ) (rows : List Row) (e : Col) (new : List Row) (l : Lent) (w : Work) (v : Verdict)
    → Given size starts rows e new l → Decides size (column_or starts rows e new) v
    → ((p : List Col) → v ≡ accepted p
    → Rerouted size (column_or starts rows e new) l.outer.row2col (filled p l.outer.row2col) e)
    → ((c : Col) (seen : List Col) → v ≡ refused c seen → c ≡ e)
    → Means size starts rows e new l (handed_out size (column_or starts rows e new) w l.outer v).after
    (handed_out size (column_or starts rows e new) w l.outer v).answer
handed_means size starts rows e new l w (accepted p) G D R at = record {
  accepted_exactly = (
    λ a. (G, D.accepted_exactly.0 (p, refl)),
    λ t. (length (blocks size (targets (column_or starts rows e new) p)), refl),
  );
  accepts = λ k a. rw (← count k a) (accepted_hands p l.outer.row2col _ _ (given_inside G) (D.sized p refl) (D.perfect p refl)
      (R p refl));
  refused_exactly = (λ q. absurd (omega arith), λ t. absurd (t.1 (D.accepted_exactly.0 (p, refl))));
  at_column = λ q. absurd (omega arith);
  deficient = λ q. absurd (omega arith);
  kept = λ q. absurd (q refl);
}
  where
    count : (k : ℕ) → ◌≡◌ {A = BlockAnswer} (Ok (length (blocks size (targets (column_or starts rows e new) p)))) (Ok k)
        → length (blocks size (targets (column_or starts rows e new) p)) ≡ k
    count k a = cc
handed_means size starts rows e new l w (refused c seen) G D R at = record {
  accepted_exactly = (λ a. absurd (not_accepted _ a.0 a.1), λ t. absurd (D.refused_exactly.0 (c, seen, refl) t.1));
  accepts = λ k a. absurd (not_accepted _ k a);
  refused_exactly = (λ q. (G, D.refused_exactly.0 (c, seen, refl)), λ t. refl);
  at_column = λ q. at c seen refl;
  deficient = λ q. hall_marks l.outer.hall (D.deficient c seen refl);
  kept = λ q. refl;
}

-- the verdict of what passes
verdict_means : (size : ℕ) (starts : List ℕ) (rows : List Row) (e : Col) (new : List Row) (l after : Lent) (w : Work)
    (answer : BlockAnswer) → first_refusal (early size starts rows (buffers size (edit_entries size rows) l)) ≡ passed
    → first_refusal (late size starts rows e new l.outer.row2col) ≡ passed
    → ended answer after ≡ handed_out size (column_or starts rows e new) w l.outer
    (rematching size (column_or starts rows e new) (take size l.outer.row2col) e)
    → Means size starts rows e new l after answer
verdict_means size starts rows e new l after w answer p q f =
    let G = given (early_passed size starts rows (buffers size (edit_entries size rows) l) p) q in
    let col = column_or starts rows e new in
    let m = take size l.outer.row2col in
    let v = rematching size col m e in
    let a : after ≡ (handed_out size col w l.outer v).after = ap (λ (o : Outcome). o.after) f in
    let b : answer ≡ (handed_out size col w l.outer v).answer = ap (λ (o : Outcome). o.answer) f in
    rw (a, b) (handed_means size starts rows e new l w v G (decides G) (reroutes G) (rematching_place size col m e))

-- the outcome has the meaning
pub outcome_means : (size : ℕ) (starts : List ℕ) (rows : List Row) (e : Col) (new : List Row) (l after : Lent) (answer : BlockAnswer)
    → ended answer after ≡ outcome size starts rows e new l → Means size starts rows e new l after answer
outcome_means size starts rows e new l after answer h =
    first (first_refusal (early size starts rows (buffers size (edit_entries size rows) l))) refl
  where
    w : Work
    w = cleared size (edit_entries size rows) l.inner

    second : first_refusal (early size starts rows (buffers size (edit_entries size rows) l)) ≡ passed
        → (x : Checked) → first_refusal (late size starts rows e new l.outer.row2col) ≡ x
        → Means size starts rows e new l after answer
    second p (Err r) q =
        let f = h ∙ sym (replaced_outcome size starts rows e new l p)
        ∙ sym (refused_replaced size starts rows e new w l.outer r q) in
        let b : answer ≡ Err r = ap (λ (o : Outcome). o.answer) f in
        rw b (late_means size starts rows e new l after r q (ap (λ (o : Outcome). o.after.outer.row2col) f))
    second p (Ok u) q =
        verdict_means size starts rows e new l after w answer p q
        (h ∙ sym (replaced_outcome size starts rows e new l p) ∙ sym (verdict_replaced size starts rows e new w l.outer q))

    first : (x : Checked) → first_refusal (early size starts rows (buffers size (edit_entries size rows) l)) ≡ x
        → Means size starts rows e new l after answer
    first (Err r) q =
        let f = h ∙ sym (early_outcome size starts rows e new l r q) in
        let b : answer ≡ Err r = ap (λ (o : Outcome). o.answer) f in
        rw b (early_means size starts rows e new l after r q (ap (λ (o : Outcome). o.after.outer.row2col) f))
    first (Ok u) q = second q (first_refusal (late size starts rows e new l.outer.row2col)) refl

-- ---- a single outcome

-- two ends that meet the contract on the same input are one: the same answer, and the same in every buffer
pub single : (size : ℕ) (starts : List ℕ) (rows : List Row) (e : Col) (new : List Row) (l : Lent) (x y : Outcome)
    → x ≡ outcome size starts rows e new l → y ≡ outcome size starts rows e new l → x ≡ y
single size starts rows e new l x y h k = h ∙ sym k

-- ---- the entry

-- what the replacement makes, with the workspace cleared
pub tested_exit : (size : ℕ) (starts : List ℕ) (rows : List Row) (e : Col) (new : List Row) (l : Lent) (w : Work) (o : Outputs)
    (answer : BlockAnswer) → first_refusal (early size starts rows (buffers size (edit_entries size rows) l)) ≡ passed
    → w ≡ cleared size (edit_entries size rows) l.inner
    → ((u : Work) → ended answer (lent u o) ≡ replaced size starts rows e new u l.outer)
    → (ended answer (lent w o) ≡ outcome size starts rows e new l) × Means size starts rows e new l (lent w o) answer
tested_exit size starts rows e new l w o answer p f h =
    let k : ended answer (lent w o) ≡ outcome size starts rows e new l =
    rw f (h (cleared size (edit_entries size rows) l.inner) ∙ replaced_outcome size starts rows e new l p) in
    (k, outcome_means size starts rows e new l (lent w o) answer k)
