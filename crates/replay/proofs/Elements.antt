-- The elements of an array that calls gave.
use Rattle.std.proofs.Common.{◌≡◌, ℕ, zero, suc, ◌+◌, ◌<◌, List, get_or, arith, ◌∙◌, subst}
use Rattle.std.specs.Fn.{Mut, Called}
use Rattle.std.specs.Array.{IsFromFnResultFrom}

-- where each call gives what v says, and leaves the closure as it was, the elements are what v says
pub from_fn_at : {F : Type 0} (g : Mut F (ℕ × Unit {0}) ℕ) (f : F) (v : ℕ → ℕ)
    → ((k y : ℕ) (q : F) → Called g f (k, tt) y q → (q ≡ f) × (y ≡ v k))
    → (ys : List ℕ) (i n : ℕ) → IsFromFnResultFrom g f ys i n → (k j : ℕ) → k < n → i + k ≡ j → get_or ys j 0 ≡ v j
from_fn_at g f v calls ys i zero h k j l e = absurd (omega (arith, l))
from_fn_at g f v calls ys i (suc n) (q, y, at, call, rest) zero j l e =
    let first : j ≡ i = omega arith in
    rw first (at.1 0 ∙ (calls i y q call).1)
from_fn_at g f v calls ys i (suc n) (q, y, at, call, rest) (suc k) j l e =
    let others = subst (λ s. IsFromFnResultFrom g s ys (i + 1) n) (calls i y q call).0 rest in
    from_fn_at g f v calls ys (i + 1) n others k j (omega arith) (omega arith)
