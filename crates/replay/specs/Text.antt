-- The decimal numbers of a text, which is a list of bytes.
use Rattle.std.specs.Prelude.{ℕ, zero, suc, ◌+◌, ◌*◌, ◌-◌, List, [], ◌∷◌, ◌++◌, drop, Bool, true, false, cond, ltb}
use Rattle.std.specs.Prelude.{Option, Some, None, is_some, Result, Ok, Err}
use Rattle.replay.specs.declared.text.Spelled.{Spelled}
use Rattle.replay.specs.declared.text.TooLarge.{TooLarge}
use Rattle.replay.specs.declared.text.Cut.{Cut}

-- the value of a digit; none for any other byte
unfoldable pub digit_of : ℕ → Option ℕ
digit_of b = cond (ltb b 48) None (cond (ltb 57 b) None (Some (b - 48)))

-- the place of the first digit of what stands at a place and after it
unfoldable pub skipped : ℕ → List ℕ → Option ℕ
skipped at [] = None
skipped at (b ∷ bs) = cond (is_some (digit_of b)) (Some at) (skipped (suc at) bs)

-- the number n, with the place after its last digit
abbrev pub number : ℕ → ℕ → Result Spelled TooLarge
number n at = Ok (record { value = n; end = at })

abbrev pub too_large : Result Spelled TooLarge
too_large = Err (record {})

-- the number after those digits that spell n, by what stands at a place; rest goes on after a digit
abbrev pub spelled_next : ℕ → ℕ → Option ℕ → (ℕ → Result Spelled TooLarge) → Result Spelled TooLarge
spelled_next n at None rest = number n at
spelled_next n at (Some digit) rest = cond (ltb 4294967295 (n * 10 + digit)) too_large (rest (n * 10 + digit))

-- the number that the digits at a place spell, after those that spell n
unfoldable pub spelled : ℕ → ℕ → List ℕ → Result Spelled TooLarge
spelled n at [] = number n at
spelled n at (b ∷ bs) = spelled_next n at (digit_of b) (λ m. spelled m (suc at) bs)

-- the number at the first digit
abbrev pub number_from : List ℕ → Option ℕ → Option (Result Spelled TooLarge)
number_from text None = None
number_from text (Some start) = Some (spelled 0 start (drop start text))

-- the first number from a place on
unfoldable pub number_at : List ℕ → ℕ → Option (Result Spelled TooLarge)
number_at text from = number_from text (skipped from (drop from text))

-- numbers of a text, and whether they are all of its numbers
pub record Stored : Type 0 where
  pub numbers : List ℕ
  pub whole : Bool

abbrev pub stored : List ℕ → Bool → Stored
stored numbers whole = record { numbers = numbers; whole = whole }

-- how many numbers are stored
abbrev pub count_of : Result ℕ Cut → ℕ
count_of (Ok count) = count
count_of (Err cut) = cut.count

-- what is stored after xs, by what stands next; rest goes on after a number
abbrev pub stored_next : List ℕ → Option (Result Spelled TooLarge) → (List ℕ → ℕ → Stored) → Stored
stored_next xs (Some (Ok n)) rest = rest (xs ++ (n.value ∷ [])) n.end
stored_next xs (Some (Err e)) rest = stored xs false
stored_next xs None rest = stored xs true

-- xs, then the numbers of the text from a place on, as many as there is room for
unfoldable pub stored_from : List ℕ → ℕ → List ℕ → ℕ → Stored
stored_from xs zero text at = stored xs false
stored_from xs (suc room) text at = stored_next xs (number_at text at) (λ ys next. stored_from ys room text next)
