use Rattle.std.proofs.Common.{◌≡◌, ℕ, ◌+◌, ◌*◌, ◌^◌, ◌<◌, ◌≤◌, Option, Some, None, SomeIff, MatchOption}
use Rattle.std.proofs.Common.{length, sym, subst, ap, ◌∙◌, arith, rules}
use Rattle.std.proofs.lemmas.Result.{err_from_is_err_and}
use Rattle.std.specs.Result.{result_ok}
use Rattle.replay.specs.Text.{number}
use Rattle.replay.proofs.Turns.{spell_end, spell_other, spell_large, spell_digit}
use Rattle.replay.proofs.text.spell.Goals as goal

-- a number with one digit more, where a u32 can be it
abbrev IsMore : ℕ → ℕ → Option ℕ → Type 0
IsMore n d more = SomeIff more (n * 10 + d ≤ 4294967295) (n * 10 + d)

is_more : {P : ℕ → Type 0} (tens more : Option ℕ) (n d : ℕ) → SomeIff tens (n * 10 < 2 ^ 32) (n * 10) → MatchOption tens (more ≡ None) P
    → ((t : ℕ) → P t → SomeIff more (t + d < 2 ^ 32) (t + d)) → IsMore n d more
is_more None more n d t m call = subst (IsMore n d) (sym m) (λ l. t (omega (arith, l)))
is_more (Some t) None n d h m call = λ l. call t m (omega (arith, l, h.1))
is_more (Some t) (Some x) n d h m call =
    let s = call t m in
    (omega (arith, s.0, h.1), omega (arith, s.1, h.1))

pub returns-in_default : goal.returns-in_default
returns-in_default c =
    sym (spell_other c.args.text.now c.loop-end.end c.loop-end.value c.loop-end-test.true
    (sym c.digit.ensures ∙ c.in_default.is)) ∙ c.loop-end.invariant.1

pub returns-in_err-value : goal.returns-in_err-value
returns-in_err-value c =
    let more = is_more _ _ _ c.in-Some.digit c.checked_mul.ensures c.and_then.ensures (λ t call. search rules) in
    let none : c.and_then.result ≡ None = c.ok_or.ensures.ok_part ∙ ap result_ok c.in_err-value.was in
    let large = subst (IsMore c.loop-end.value c.in-Some.digit) none more in
    let p = err_from_is_err_and c.from_residual.result c.from_residual.ensures.1 in
    p.1 ∙ sym (spell_large c.args.text.now c.loop-end.end c.loop-end.value c.loop-end-test.true
    (sym c.digit.ensures ∙ c.in-Some.is) (omega (arith, large))) ∙ c.loop-end.invariant.1

pub loop-end-preserved : goal.loop-end-preserved
loop-end-preserved c =
    let more = is_more _ _ _ c.in-Some.digit c.checked_mul.ensures c.and_then.ensures (λ t call. search rules) in
    let some : c.and_then.result ≡ Some c.in_ok-value.value = c.ok_or.ensures.ok_part ∙ ap result_ok c.in_ok-value.was in
    let fits = subst (IsMore c.loop-end.value c.in-Some.digit) some more in (
      omega (arith, fits.0, fits.1),
      rw fits.1 (spell_digit c.args.text.now c.loop-end.end c.loop-end.value c.loop-end-test.true
          (sym c.digit.ensures ∙ c.in-Some.is) fits.0 ∙ c.loop-end.invariant.1),
    )

pub returns : goal.returns
returns c =
    let e : length c.args.text.now ≡ c.loop-end.end = omega arith in
    ap (number c.loop-end.value) e
    ∙ sym (spell_end c.args.text.now c.loop-end.end c.loop-end.value c.loop-end-test.false) ∙ c.loop-end.invariant.1
