-- One turn of the loop that stores the numbers of a text, by what stands next in it.
use Prim.Native.Nat.{ℕ, suc, ◌+◌, ◌-◌, ◌<◌, ◌≤◌}
use mathlib.Core.Path.{◌≡◌}
use mathlib.Core.List.{List}
use mathlib.Core.Bool.{true, false}
use native.Mathlib.Numerals.{add-one}
use native.Mathlib.Omega.{arith}
use lib.ListN.{length, take, set, length-set}
use lib.Seq.{take-suc-set}
use Rattle.std.proofs.Common.{Some, None, Ok, Err}
use Rattle.replay.specs.Text.{Stored, number_at, stored, stored_from}
use Rattle.replay.specs.declared.text.Spelled.{Spelled}
use Rattle.replay.specs.declared.text.TooLarge.{TooLarge}

-- what is stored in the end, where so many numbers are stored and the text goes on at a place
abbrev pub onward : List ℕ → ℕ → List ℕ → ℕ → Stored
onward numbers count text at = stored_from (take count numbers) (length numbers - count) text at

-- one place is left, and more
room : (numbers : List ℕ) (count : ℕ) → count < length numbers → length numbers - count ≡ suc (length numbers - (count + 1))
room numbers count l = omega arith

module _ (numbers : List ℕ) (count : ℕ) (text : List ℕ) (at : ℕ) where
  pub store_full : length numbers ≤ count → onward numbers count text at ≡ stored (take count numbers) false
  unfolding stored_from
  store_full l =
      let e : length numbers - count ≡ 0 = omega arith in
      rw e

  pub store_large : {e : TooLarge} → count < length numbers → number_at text at ≡ Some (Err e)
      → onward numbers count text at ≡ stored (take count numbers) false
  unfolding stored_from
  store_large l n = rw (room numbers count l, n)

  pub store_end : count < length numbers → number_at text at ≡ None → onward numbers count text at ≡ stored (take count numbers) true
  unfolding stored_from
  store_end l n = rw (room numbers count l, n)

  pub store_number : {s : Spelled} → count < length numbers → number_at text at ≡ Some (Ok s)
      → onward (set numbers count s.value) (count + 1) text s.end ≡ onward numbers count text at
  unfolding stored_from
  store_number {s} l n = rw (room numbers count l, n, length-set, add-one, take-suc-set numbers count s.value l)
