-- `list` meets its contract: what is cut off is the part from 0 on.
use Rattle.std.proofs.Common.{◌≡◌, ℕ, ◌-◌, ◌≤◌, List, length, take, arith, le-ltb, ◌∙◌, sym}
use Rattle.replay.specs.Lists.{part_of}
use Rattle.replay.proofs.lists.Numbers.list.Goals as goal

part_of_start : (xs : List ℕ) (count : ℕ) → count ≤ length xs → part_of xs 0 count ≡ take count xs
unfolding part_of
part_of_start xs count l =
    let e : length xs - 0 ≡ length xs = omega arith in
    rw (e, le-ltb (length xs) count l, le-ltb (length xs) 0 (omega arith))

pub returns-clause-value : goal.returns-clause-value
returns-clause-value c =
    let h = c.in_ok-list.ensures.cases in
    h.1 ∙ sym (part_of_start c.args.self.now.rest.now c.args.count h.0)
