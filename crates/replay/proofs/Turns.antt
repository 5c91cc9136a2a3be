-- One turn of each loop over a text, by the byte that stands at its place.
use Prim.Native.Nat.{ℕ, zero, suc, ◌+◌, ◌-◌, ◌*◌, ◌<◌, ◌≤◌}
use mathlib.Core.Path.{◌≡◌}
use mathlib.Core.List.{List}
use native.Mathlib.Omega.{arith}
use native.Mathlib.Numerals.{add-one}
use borrow.Author.Tests.{lt-ltb, le-ltb}
use lib.ListN.{length, get_or, drop, drop_of_length-le}
use lib.Seq.{drop-cons}
use Rattle.std.proofs.Common.{true, false, Option, Some, None, MatchOption, is_some, sym, ap, ◌∙◌, ⊎_elim}
use Rattle.std.proofs.lemmas.Bool.{cases_lt}
use Rattle.replay.specs.Text.{digit_of, skipped, spelled, number, too_large}

module _ (text : List ℕ) (i : ℕ) where
  -- the digit at a place
  abbrev here : Option ℕ
  here = digit_of (get_or text i 0)

  pub skip_end : length text ≤ i → skipped i (drop i text) ≡ None
  unfolding skipped
  skip_end l = rw (drop_of_length-le text l)

  pub skip_digit : i < length text → is_some here ≡ true → skipped i (drop i text) ≡ Some i
  unfolding skipped
  skip_digit l d = rw (drop-cons text i 0 l, d)

  pub skip_other : i < length text → is_some here ≡ false → skipped (i + 1) (drop (i + 1) text) ≡ skipped i (drop i text)
  unfolding skipped
  skip_other l d = rw (add-one, drop-cons text i 0 l, d)

  pub spell_end : (n : ℕ) → length text ≤ i → spelled n i (drop i text) ≡ number n i
  unfolding spelled
  spell_end n l = rw (drop_of_length-le text l)

  pub spell_other : (n : ℕ) → i < length text → here ≡ None → spelled n i (drop i text) ≡ number n i
  unfolding spelled
  spell_other n l d = rw (drop-cons text i 0 l, d)

  pub spell_large : (n : ℕ) {d : ℕ} → i < length text → here ≡ Some d → 4294967295 < n * 10 + d → spelled n i (drop i text) ≡ too_large
  unfolding spelled
  spell_large n {d} l h m = rw (drop-cons text i 0 l, h, lt-ltb 4294967295 (n * 10 + d) m)

  pub spell_digit : (n : ℕ) {d : ℕ} → i < length text → here ≡ Some d → n * 10 + d ≤ 4294967295
      → spelled (n * 10 + d) (i + 1) (drop (i + 1) text) ≡ spelled n i (drop i text)
  unfolding spelled
  spell_digit n {d} l h m = rw (add-one, drop-cons text i 0 l, h, le-ltb 4294967295 (n * 10 + d) m)

-- no digit stands at these places
abbrev pub NoDigits : List ℕ → ℕ → ℕ → Type 0
NoDigits text from end = (k : ℕ) → from ≤ k → k < end → is_some (digit_of (get_or text k 0)) ≡ false

-- skipping goes on over them
skip_others : (text : List ℕ) (from n end : ℕ) → from + n ≡ end → end ≤ length text → NoDigits text from end
    → skipped from (drop from text) ≡ skipped end (drop end text)
skip_others text from zero end e l h =
    let same : from ≡ end = omega (arith, e) in
    ap (λ k. skipped k (drop k text)) same
skip_others text from (suc n) end e l h =
    sym (skip_other text from (omega (arith, e)) (h from (omega arith) (omega (arith, e))))
    ∙ skip_others text (from + 1) n end (omega (arith, e)) l (λ k a b. h k (omega arith) b)

-- the first digit from a place on is where skipping leads
pub skips : (text : List ℕ) (from : ℕ) (r : Option ℕ)
    → MatchOption r (NoDigits text from (length text))
    (λ i. (from ≤ i) × (i < length text) × (is_some (digit_of (get_or text i 0)) ≡ true) × NoDigits text from i)
    → r ≡ skipped from (drop from text)
skips text from None h = ⊎_elim
    (λ l. sym (skip_others text from (length text - from) (length text) (omega (arith, l)) (omega arith) h
    ∙ skip_end text (length text) (omega arith)))
    (λ l. sym (skip_end text from l)) (cases_lt from (length text))
skips text from (Some i) h =
    sym (skip_others text from (i - from) i (omega (arith, h.0)) (omega (arith, h.1)) h.3 ∙ skip_digit text i h.1 h.2)
