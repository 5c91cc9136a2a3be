-- Each exit of `find_block_diag_form`: what it returns and leaves is the outcome, and has the meaning.
use Rattle.std.proofs.Common.{ℕ, ◌<◌, ◌≤◌, ◌≡◌, refl, sym, ap, ◌∙◌, List, [], ◌∷◌, map, ◌↔◌, arith, length, get_or, Ok, Err}
use mathlib.Core.Path.{fun_ext}
use mathlib.Core.List.Memᴰ
use Rattle.graph.specs.Lists.{Mem}
use Rattle.graph.specs.Matchings.{Row, Col, Pattern, Inside, Perfect, Points, partner}
use Rattle.graph.specs.Blocks.{targets, blocks}
use Rattle.graph.proofs.Matchings.{perfect_agree}
use Rattle.graph.proofs.Blocks.{blocks_filled, blocks_length, blocks_permute}
use Rattle.graph.proofs.Targets.{targets_within, matching_form, form_carried}
use Rattle.sparse.specs.Buffers.{zeroed, filled}
use Rattle.sparse.specs.Limits.{none, max_size}
use Rattle.sparse.specs.Matrix.{column}
use Rattle.sparse.specs.Refusals.{Checked, passed, number, as_column, first_refusal, early, repeated_row}
use Rattle.sparse.specs.declared.refusal.Refusal.{Refusal}
use Rattle.sparse.specs.declared.refusal.Refusal.TheVariants.{Unmatchable}
use Rattle.sparse.proofs.Buffers.{filled_at}
use Rattle.sparse.proofs.Early.{Early, early_passed, early_passes, early_number, repeats_number}
use Rattle.sparse.proofs.Matrix.{inside, column_once}
use Rattle.sparse.proofs.Passing.{repeats_pass}
use Rattle.matching.specs.Matching.{Verdict, accepted, refused, matching}
use Rattle.matching.specs.Outcome as m
use Rattle.matching.proofs.Matching.{Decides, matching_decides}
use Rattle.matching.proofs.Outcome.{hall_marks}
use Rattle.blocks.specs.Form.{columns_of, block_starts, StoredForm}
use Rattle.triangular.specs.Outcome.{Work, Outputs, outputs, Lent, lent, buffers, cleared, form_need, starts_need, Outcome, ended}
use Rattle.triangular.specs.Outcome.{BlockAnswer, passed_on, handed_out, formed, outcome, Given, Means}
use Rattle.blocks.specs.Cut.{HoldsBlocks}
use Rattle.blocks.proofs.Stored.{stored_form}

-- ---- what passed checks say

-- what passes is given, and what is given passes
pub given : {size : ℕ} {starts : List ℕ} {rows : List Row} {l : Lent} → Early size starts rows (buffers size (length rows) l)
    → repeated_row size starts rows ≡ passed → Given size starts rows l
given P e = record {
  valid = record { shaped = P.shaped; below = P.below; once = λ c l. column_once P.shaped e c };
  room = P.room;
}

pub given_early : {size : ℕ} {starts : List ℕ} {rows : List Row} {l : Lent} → Given size starts rows l
    → first_refusal (early size starts rows (buffers size (length rows) l)) ≡ passed
given_early {size} {rows = rows} {l = l} G =
    early_passes (buffers size (length rows) l) G.valid.shaped G.valid.below G.room

pub given_once : {size : ℕ} {starts : List ℕ} {rows : List Row} {l : Lent} → Given size starts rows l
    → repeated_row size starts rows ≡ passed
given_once G = repeats_pass G.valid.shaped G.valid.once

-- ---- the exits of the outcome

-- refused by 1, 2, 5 or 3: nothing has changed
pub early_outcome : (size : ℕ) (starts : List ℕ) (rows : List Row) (l : Lent) (r : Refusal)
    → first_refusal (early size starts rows (buffers size (length rows) l)) ≡ Err r
    → ended (Err r) l ≡ outcome size starts rows l
unfolding outcome
early_outcome size starts rows l r e = rw e

-- else what is formed, with workspace and stack zero
pub formed_outcome : (size : ℕ) (starts : List ℕ) (rows : List Row) (l : Lent)
    → first_refusal (early size starts rows (buffers size (length rows) l)) ≡ passed
    → formed size starts rows (cleared size (length rows) l.inner) l.outer ≡ outcome size starts rows l
unfolding outcome
formed_outcome size starts rows l p = rw p

-- refused by 4: no output has changed
pub repeat_formed : (size : ℕ) (starts : List ℕ) (rows : List Row) (w : Work) (o : Outputs) (r : Refusal)
    → repeated_row size starts rows ≡ Err r → ended (Err r) (lent w o) ≡ formed size starts rows w o
unfolding formed
repeat_formed size starts rows w o r e = rw e

-- else the verdict is handed out
pub verdict_formed : (size : ℕ) (starts : List ℕ) (rows : List Row) (w : Work) (o : Outputs)
    → repeated_row size starts rows ≡ passed
    → handed_out size (column starts rows) w o (matching size (column starts rows)) ≡ formed size starts rows w o
unfolding formed
verdict_formed size starts rows w o e = rw e

-- ---- what the matching hands on

-- where it accepted there is a matching, it stands in the slice, and no column is marked
pub record Handed (size : ℕ) (o : Outputs) (v : Verdict) (row2col hall : List ℕ) : Type 0 where
  pub cols : List Col
  pub verdict : v ≡ accepted cols
  pub filled_with : row2col ≡ filled cols o.row2col
  pub unmarked : hall ≡ zeroed size o.hall

-- a refusal is no acceptance
not_matched : (r : Refusal) → ◌≡◌ {A = Checked} (Err r) passed → ⊥
not_matched r e = let z : ◌≡◌ {A = ℕ} 0 1 = cc in omega arith

pub handed_on : (size : ℕ) (l : m.Lent) (o : Outputs) (a : Checked) (v : Verdict) (row2col hall : List ℕ)
    → l.row2col ≡ o.row2col → l.hall ≡ o.hall → m.ended a (m.cleared size l row2col hall) ≡ m.handed_out size l v
    → a ≡ passed → Handed size o v row2col hall
handed_on size l o a (accepted cols) row2col hall e f h k = record {
  cols = cols;
  verdict = refl;
  filled_with = ap (λ (t : m.Outcome). t.after.row2col) h ∙ rw e;
  unmarked = ap (λ (t : m.Outcome). t.after.hall) h ∙ rw f;
}
handed_on size l o a (refused c seen) row2col hall e f h k = absurd (not_matched _ (sym (ap (λ (t : m.Outcome). t.answer) h) ∙ k))

-- where it refused, so does the block form, with blocks that are zero
pub hand_refused : (size : ℕ) (col : Pattern) (w : Work) (l : m.Lent) (o : Outputs) (r : Refusal) (v : Verdict)
    (row2col hall cols starts : List ℕ) → l.row2col ≡ o.row2col → l.hall ≡ o.hall
    → m.ended (Err r) (m.cleared size l row2col hall) ≡ m.handed_out size l v
    → cols ≡ zeroed (form_need size) o.blockcols → starts ≡ zeroed (starts_need size) o.blockstarts
    → ended (Err r) (lent w (outputs row2col hall cols starts)) ≡ handed_out size col w o v
hand_refused size col w l o r (accepted cs) row2col hall cols starts e f h i j =
    absurd (not_matched r (ap (λ (t : m.Outcome). t.answer) h))
hand_refused size col w l o r (refused c seen) row2col hall cols starts e f h i j =
    let a : ◌≡◌ {A = Checked} (Err r) (m.unmatchable c) = ap (λ (t : m.Outcome). t.answer) h in
    let b : r ≡ Unmatchable (as_column c) = cc in
    let d : row2col ≡ zeroed size o.row2col = ap (λ (t : m.Outcome). t.after.row2col) h ∙ rw e in
    let g : hall ≡ filled (m.marks_of size seen) o.hall = ap (λ (t : m.Outcome). t.after.hall) h ∙ rw f in
    rw (b, d, g, i, j)

-- so its refusal is passed on
pub hand_passed : (size : ℕ) (col : Pattern) (w : Work) (l : m.Lent) (o : Outputs) (a : Checked) (r : Refusal) (v : Verdict)
    (row2col hall cols starts : List ℕ) → a ≡ Err r → l.row2col ≡ o.row2col → l.hall ≡ o.hall
    → m.ended a (m.cleared size l row2col hall) ≡ m.handed_out size l v
    → cols ≡ zeroed (form_need size) o.blockcols → starts ≡ zeroed (starts_need size) o.blockstarts
    → ended (passed_on a) (lent w (outputs row2col hall cols starts)) ≡ handed_out size col w o v
hand_passed size col w l o a r v row2col hall cols starts k e f h i j =
    rw k (hand_refused size col w l o r v row2col hall cols starts e f
    (ap (λ (t : Checked). m.ended t (m.cleared size l row2col hall)) (sym k) ∙ h) i j)

-- ---- the blocks of the matching

-- lists that agree below n give the same graph
same_partners : (n : ℕ) (p q : List Col) (rs : List Row) → ((r : Row) → Mem r rs → r < n)
    → ((r : Row) → r < n → partner q r ≡ partner p r) → map (partner q) rs ≡ map (partner p) rs
same_partners n p q [] low same = refl
same_partners n p q (r ∷ rs) low same =
    rw (same r (low r (Memᴰ.head refl)), same_partners n p q rs (λ s i. low s (Memᴰ.tail i)) same)

pub targets_agree : {n : ℕ} {col : Pattern} → Inside n col → (p q : List Col) → ((r : Row) → r < n → partner q r ≡ partner p r)
    → targets col q ≡ targets col p
targets_agree {n} {col} I p q same = fun_ext (λ c. same_partners n p q (col c) (λ r i. I.row_below c r i) same)

-- the slice holds the verdict's matching
pub handed_agree : {size : ℕ} {col : Pattern} {o : Outputs} {v : Verdict} {row2col hall : List ℕ} → Decides size col v
    → (H : Handed size o v row2col hall) → (r : Row) → r < size → partner row2col r ≡ partner H.cols r
handed_agree {o = o} D H r l =
    ap (λ (t : List ℕ). get_or t r 0) H.filled_with
    ∙ filled_at H.cols o.row2col r (omega (arith, D.sized H.cols H.verdict))

-- accepted: the blocks of the matching in the slice are those of the verdict
pub hand_accepted : (size : ℕ) (col : Pattern) (w : Work) (o : Outputs) (v : Verdict) (row2col hall cols starts : List ℕ) (k : ℕ)
    → Inside size col → Decides size col v → Handed size o v row2col hall
    → HoldsBlocks size (blocks size (targets col row2col)) o.blockcols o.blockstarts cols starts k
    → ended (Ok k) (lent w (outputs row2col hall cols starts)) ≡ handed_out size col w o v
hand_accepted size col w o v row2col hall cols starts k I D H B =
    let same : targets col row2col ≡ targets col H.cols = targets_agree I H.cols row2col (handed_agree D H) in
    rw (B.counted, B.columns, B.starts_are, same, H.verdict, H.unmarked, H.filled_with)

-- ---- the meaning

not_both : (x : Checked) (r : Refusal) → x ≡ passed → x ≡ Err r → ⊥
not_both x r e f = let z : ◌≡◌ {A = ℕ} 0 1 = cc in omega arith

not_accepted : (r : Refusal) (k : ℕ) → ◌≡◌ {A = BlockAnswer} (Err r) (Ok k) → ⊥
not_accepted r k e = let z : ◌≡◌ {A = ℕ} 0 1 = cc in omega arith

-- a refusal of the matrix or of the room, which is not 9
refused_means : (size : ℕ) (starts : List ℕ) (rows : List Row) (l after : Lent) (r : Refusal) → (¬ Given size starts rows l)
    → number r ≤ 5 → Means size starts rows l after (Err r)
refused_means size starts rows l after r never few = record {
  accepted_exactly = (λ a. absurd (not_accepted r a.0 a.1), λ t. absurd (never t.0));
  perfect = λ k a. absurd (not_accepted r k a);
  form = λ k a. absurd (not_accepted r k a);
  refused_exactly = (λ e. absurd (omega arith), λ t. absurd (never t.0));
  deficient = λ e. absurd (omega arith);
}

early_means : (size : ℕ) (starts : List ℕ) (rows : List Row) (l after : Lent) (r : Refusal)
    → first_refusal (early size starts rows (buffers size (length rows) l)) ≡ Err r
    → Means size starts rows l after (Err r)
early_means size starts rows l after r e =
    refused_means size starts rows l after r (λ G. not_both _ r (given_early G) e)
    (early_number size starts rows (buffers size (length rows) l) r e)

repeat_means : (size : ℕ) (starts : List ℕ) (rows : List Row) (l after : Lent) (r : Refusal)
    → repeated_row size starts rows ≡ Err r → Means size starts rows l after (Err r)
repeat_means size starts rows l after r e =
    refused_means size starts rows l after r (λ G. not_both _ r (given_once G) e) (omega (arith, repeats_number size starts rows r e))

-- matchings that agree below n have one graph
points_agree : (n : ℕ) (col : Pattern) (f g : Row → Col) → ((r : Row) → r < n → g r ≡ f r) → (c d : Col)
    → Points n col f c d ↔ Points n col g c d
points_agree n col f g same c d =
    (λ t. (t.0, t.1, t.2, same t.0 t.1 ∙ t.3), λ t. (t.0, t.1, t.2, sym (same t.0 t.1) ∙ t.3))

-- the blocks of a perfect matching, put into two slices, are a stored form of the graph of a slice that holds the matching
pub blocks_stored : {n : ℕ} {col : Pattern} → Inside n col → (p q : List Col) (x y : List ℕ) → Perfect n col (partner p)
    → ((r : Row) → r < n → partner q r ≡ partner p r)
    → StoredForm n (Points n col (partner q)) (filled (columns_of (blocks n (targets col p))) x)
    (filled (block_starts n (blocks n (targets col p))) y) (length (blocks n (targets col p)))
blocks_stored {n} {col} I p q x y M same =
    let within = targets_within I p M in
    stored_form n (Points n col (partner q)) (blocks n (targets col p)) x y
    (form_carried (points_agree n col (partner p) (partner q) same) (matching_form I p M))
    (blocks_permute n (targets col p) within) (blocks_length n (targets col p) within) (blocks_filled n (targets col p) within)

-- what a verdict hands out means that it decides
handed_means : (size : ℕ) (starts : List ℕ) (rows : List Row) (l : Lent) (w : Work) (v : Verdict) → Given size starts rows l
    → Decides size (column starts rows) v → Means size starts rows l (handed_out size (column starts rows) w l.outer v).after
    (handed_out size (column starts rows) w l.outer v).answer
handed_means size starts rows l w (accepted p) G D =
    record {
      accepted_exactly = (λ a. (G, D.accepted_exactly.0 (p, refl)), λ t. (length (blocks size (targets (column starts rows) p)), refl));
      perfect = λ k a. perfect_agree (partner (filled p l.outer.row2col)) (D.perfect p refl) agree;
      form = λ k a. rw (← count k a) (blocks_stored (inside G.valid.shaped G.valid.below) p (filled p l.outer.row2col) _ _
          (D.perfect p refl) agree);
      refused_exactly = (λ e. absurd (omega arith), λ t. absurd (t.1 (D.accepted_exactly.0 (p, refl))));
      deficient = λ e. absurd (omega arith);
    }
  where
    agree : (r : Row) → r < size → partner (filled p l.outer.row2col) r ≡ partner p r
    agree r k = filled_at p l.outer.row2col r (omega (arith, D.sized p refl))

    count : (k : ℕ) → ◌≡◌ {A = BlockAnswer} (Ok (length (blocks size (targets (column starts rows) p)))) (Ok k)
        → length (blocks size (targets (column starts rows) p)) ≡ k
    count k a = cc
handed_means size starts rows l w (refused c seen) G D = record {
  accepted_exactly = (λ a. absurd (not_accepted _ a.0 a.1), λ t. absurd (D.refused_exactly.0 (c, seen, refl) t.1));
  perfect = λ k a. absurd (not_accepted _ k a);
  form = λ k a. absurd (not_accepted _ k a);
  refused_exactly = (λ e. (G, D.refused_exactly.0 (c, seen, refl)), λ t. refl);
  deficient = λ e. hall_marks l.outer.hall (D.deficient c seen refl);
}

small_none : {n : ℕ} → n ≤ max_size → n ≤ none
small_none l = omega arith

-- the rule decides what passes
pub decides : {size : ℕ} {starts : List ℕ} {rows : List Row} {l : Lent} → Given size starts rows l
    → Decides size (column starts rows) (matching size (column starts rows))
decides {size} {starts} {rows} G =
    matching_decides size (column starts rows) (inside G.valid.shaped G.valid.below) (small_none G.valid.shaped.small)

verdict_means : (size : ℕ) (starts : List ℕ) (rows : List Row) (l after : Lent) (w : Work) (answer : BlockAnswer)
    → first_refusal (early size starts rows (buffers size (length rows) l)) ≡ passed
    → repeated_row size starts rows ≡ passed
    → ended answer after ≡ handed_out size (column starts rows) w l.outer (matching size (column starts rows))
    → Means size starts rows l after answer
verdict_means size starts rows l after w answer p e f =
    let G = given (early_passed size starts rows (buffers size (length rows) l) p) e in
    let v = matching size (column starts rows) in
    let a : after ≡ (handed_out size (column starts rows) w l.outer v).after = ap (λ (o : Outcome). o.after) f in
    let b : answer ≡ (handed_out size (column starts rows) w l.outer v).answer = ap (λ (o : Outcome). o.answer) f in
    rw (a, b) (handed_means size starts rows l w v G (decides G))

-- the outcome has the meaning
pub outcome_means : (size : ℕ) (starts : List ℕ) (rows : List Row) (l after : Lent) (answer : BlockAnswer)
    → ended answer after ≡ outcome size starts rows l → Means size starts rows l after answer
outcome_means size starts rows l after answer e = first (first_refusal (early size starts rows (buffers size (length rows) l))) refl
  where
    w : Work
    w = cleared size (length rows) l.inner

    second : first_refusal (early size starts rows (buffers size (length rows) l)) ≡ passed
        → (x : Checked) → repeated_row size starts rows ≡ x → Means size starts rows l after answer
    second p (Err r) q =
        let f = e ∙ sym (formed_outcome size starts rows l p) ∙ sym (repeat_formed size starts rows w l.outer r q) in
        let b : answer ≡ Err r = ap (λ (o : Outcome). o.answer) f in
        rw b (repeat_means size starts rows l after r q)
    second p passed q =
        verdict_means size starts rows l after w answer p q
        (e ∙ sym (formed_outcome size starts rows l p) ∙ sym (verdict_formed size starts rows w l.outer q))

    first : (x : Checked) → first_refusal (early size starts rows (buffers size (length rows) l)) ≡ x
        → Means size starts rows l after answer
    first (Err r) q =
        let b : answer ≡ Err r = ap (λ (o : Outcome). o.answer) (e ∙ sym (early_outcome size starts rows l r q)) in
        rw b (early_means size starts rows l after r q)
    first passed q = second q (repeated_row size starts rows) refl

-- ---- a single outcome

-- two ends that meet the contract on the same input are one: the same answer, and the same in every buffer
pub single : (size : ℕ) (starts : List ℕ) (rows : List Row) (l : Lent) (x y : Outcome)
    → x ≡ outcome size starts rows l → y ≡ outcome size starts rows l → x ≡ y
single size starts rows l x y e f = e ∙ sym f
