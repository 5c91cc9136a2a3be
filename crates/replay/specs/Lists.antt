-- Parts of lists, and what a lent buffer is to hold.
use Rattle.std.specs.Prelude.{ℕ, ◌≤◌, ◌-◌, List, [], Bool, cond, not, ltb, eqb, length, get_or, take, drop}
use Rattle.replay.specs.declared.lists.Numbers.{Numbers}

-- of the stored numbers no more are left than before
abbrev pub Fewer : Numbers → Numbers → Type 0
Fewer before after = length after.rest.now ≤ length before.rest.now

-- so many numbers from a place on; none where the list ends before
unfoldable pub part_of : List ℕ → ℕ → ℕ → List ℕ
part_of list from count = cond (ltb (length list) from) [] (cond (ltb (length list - from) count) [] (take count (drop from list)))

-- what a buffer holds before a call
abbrev pub junk : ℕ
junk = 3735928559

-- the buffer does not hold at place i what the list has there, or, past the list, junk
abbrev pub differs_at : List ℕ → List ℕ → ℕ → Bool
differs_at buffer list i = not (eqb (get_or buffer i 0) (get_or list i junk))
