-- The numbers and places of the refusals are the table's.
use Rattle.std.proofs.Common.{ℕ, ◌≡◌, refl, map}
use Rattle.sparse.specs.Refusals.{number, place}
use Rattle.sparse.specs.Table.{Line, refusal_table}

-- each refusal has the table's number, whatever its place is
pub numbers_hold : (k : ℕ) → map (λ (l : Line). number l.refusal) (refusal_table k) ≡ map (λ (l : Line). l.number) (refusal_table k)
numbers_hold k = refl

-- and the table's place
pub places_hold : (k : ℕ) → map (λ (l : Line). place l.refusal) (refusal_table k) ≡ map (λ (l : Line). l.place) (refusal_table k)
places_hold k = refl
