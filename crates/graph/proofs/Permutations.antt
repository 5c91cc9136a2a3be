-- Laws of permutations: one that repeats nothing leaves nothing out, and the inverse is one.
use Rattle.std.proofs.Common.{ℕ, ◌<◌, ◌≡◌, sym, ap, ◌∙◌, List, length, get_or, ext_get_or}
use Rattle.graph.specs.Counting.{preimage}
use Rattle.graph.specs.Permutations.{Permutes, Inverse, inverse}
use Rattle.graph.proofs.Counting.{onto, preimage_ok}
use Rattle.graph.proofs.Lists.{length-table, get_or-table}

-- numbers below n at the first n places, none twice, are all the numbers below n
pub permutes : (n : ℕ) (p : List ℕ) → ((i : ℕ) → i < n → get_or p i 0 < n)
    → ((i j : ℕ) → i < n → j < n → get_or p i 0 ≡ get_or p j 0 → i ≡ j) → Permutes n p
permutes n p below once = record { below = below; onto = onto (λ i. get_or p i 0) n below once; once = once }

-- only the first n places matter
pub permutes_agree : {n : ℕ} {p : List ℕ} (q : List ℕ) → Permutes n p → ((i : ℕ) → i < n → get_or q i 0 ≡ get_or p i 0) → Permutes n q
permutes_agree q P same = record {
  below = λ i l. rw (same i l) (P.below i l);
  onto = λ c l. let t = P.onto c l in (t.0, t.1, same t.0 t.1 ∙ t.2);
  once = λ i j l m e. P.once i j l m (sym (same i l) ∙ e ∙ same j m);
}

pub length-inverse : (n : ℕ) (p : List ℕ) → length (inverse n p) ≡ n
unfolding inverse
length-inverse n p = length-table (preimage (λ i. get_or p i 0) n) n

-- the inverse takes a number to a place where it stands
pub inverse_place : {n : ℕ} {p : List ℕ} → Permutes n p → (c : ℕ) → c < n
    → (get_or (inverse n p) c 0 < n) × (get_or p (get_or (inverse n p) c 0) 0 ≡ c)
unfolding inverse
inverse_place {n} {p} P c l =
    let t = P.onto c l in
    let e = get_or-table (preimage (λ i. get_or p i 0) n) n c l in
    rw e (preimage_ok (λ i. get_or p i 0) n c t.0 t.1 t.2)

-- a permutation and its inverse are inverse to each other
pub inverse-inverse : {n : ℕ} {p : List ℕ} → Permutes n p → Inverse n p (inverse n p)
inverse-inverse {n} {p} P = record {
  forth_below = P.below;
  back_below = λ c l. (inverse_place P c l).0;
  there_and_back = λ i l.
      let t = inverse_place P (get_or p i 0) (P.below i l) in
      P.once (get_or (inverse n p) (get_or p i 0) 0) i t.0 l t.1;
  back_and_there = λ c l. (inverse_place P c l).1;
}

-- an inverse is known by where it takes the numbers of p
pub inverse_only : {n : ℕ} {p : List ℕ} (q : List ℕ) → Permutes n p → ((i : ℕ) → i < n → get_or q (get_or p i 0) 0 ≡ i)
    → (c : ℕ) → c < n → get_or q c 0 ≡ get_or (inverse n p) c 0
inverse_only {n} {p} q P hit c l =
    let t = inverse_place P c l in
    ap (λ (x : ℕ). get_or q x 0) (sym t.1) ∙ hit (get_or (inverse n p) c 0) t.0

-- both of two inverse lists are permutations
pub inverse_permutes : {n : ℕ} {p q : List ℕ} → Inverse n p q → Permutes n p
inverse_permutes {n} {p} {q} I = record {
  below = I.forth_below;
  onto = λ c l. (get_or q c 0, I.back_below c l, I.back_and_there c l);
  once = λ i j l m e. sym (I.there_and_back i l) ∙ ap (λ (x : ℕ). get_or q x 0) e ∙ I.there_and_back j m;
}

pub inverse_turned : {n : ℕ} {p q : List ℕ} → Inverse n p q → Inverse n q p
inverse_turned I = record {
  forth_below = I.back_below;
  back_below = I.forth_below;
  there_and_back = I.back_and_there;
  back_and_there = I.there_and_back;
}

-- lists with the same first n places have the same inverse
pub inverse_agree : {n : ℕ} {p : List ℕ} (q : List ℕ) → Permutes n p → ((i : ℕ) → i < n → get_or q i 0 ≡ get_or p i 0)
    → inverse n q ≡ inverse n p
inverse_agree {n} {p} q P same =
    ext_get_or 0 _ _ (length-inverse n q ∙ sym (length-inverse n p))
    (λ c l. inverse_only (inverse n q) P hit c (rw (length-inverse n q) at l))
  where
    hit : (i : ℕ) → i < n → get_or (inverse n q) (get_or p i 0) 0 ≡ i
    hit i l = rw (← same i l) ((inverse-inverse (permutes_agree q P same)).there_and_back i l)
