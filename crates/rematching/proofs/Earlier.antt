-- A number that stands at an earlier place of a list, as a test and in words.
use Rattle.std.proofs.Common.{ℕ, ◌<◌, ◌≡◌, sym, ◌∙◌, List, true, arith, length, get_or, take, length-take, get_or-take}
use mathlib.Core.List.Memᴰ
use Rattle.graph.specs.Lists.{elem}
use Rattle.graph.proofs.Lists.{elem_mem, mem_elem, mem_get_or, get_or_mem}

-- x stands at a place before k
abbrev pub Earlier : List ℕ → ℕ → ℕ → Type 0
Earlier xs k x = (j : ℕ) × (j < k) × (j < length xs) × (get_or xs j 0 ≡ x)

-- where the test says so, it does
pub earlier_is : (xs : List ℕ) (k x : ℕ) → elem x (take k xs) ≡ true → Earlier xs k x
earlier_is xs k x e =
    let t = mem_get_or (take k xs) x (elem_mem x (take k xs) e) in
    let l : (t.0 < k) × (t.0 < length xs) = (omega (arith, t.1, length-take k xs), omega (arith, t.1, length-take k xs)) in
    (t.0, l.0, l.1, sym (get_or-take k xs t.0 0 l.0) ∙ t.2)

-- where it does, the test says so
pub is_earlier : (xs : List ℕ) (k x : ℕ) → Earlier xs k x → elem x (take k xs) ≡ true
is_earlier xs k x t =
    let l : t.0 < length (take k xs) = omega (arith, t.1, t.2, length-take k xs) in
    mem_elem x (take k xs) (Memᴰ.cast (sym t.3 ∙ sym (get_or-take k xs t.0 0 t.1)) (get_or_mem (take k xs) t.0 l))
