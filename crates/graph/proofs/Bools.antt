-- Tests put together, and taken apart again: std's lemmas, by the names that the crates above still cite.
use Rattle.std.proofs.Common.{◌≡◌, Bool, true, false, ◌||◌, ◌&&◌}
use Rattle.std.proofs.lemmas.Bool.{both_ways, false_from_ne_true, and_parts, and_from, or_parts}

-- no test is both true and false
pub apart : (b : Bool) → b ≡ true → b ≡ false → ⊥
apart b t f = both_ways b f t

pub is_false : (b : Bool) → (b ≡ true → ⊥) → b ≡ false
is_false b h = false_from_ne_true b h

pub and_left : (a b : Bool) → a && b ≡ true → a ≡ true
and_left a b h = (and_parts a b h).0

pub and_right : (a b : Bool) → a && b ≡ true → b ≡ true
and_right a b h = (and_parts a b h).1

pub and_both : (a b : Bool) → a ≡ true → b ≡ true → a && b ≡ true
and_both a b p q = and_from a b p q

pub or_left : (a b : Bool) → a || b ≡ false → a ≡ false
or_left a b h = (or_parts a b h).0

pub or_right : (a b : Bool) → a || b ≡ false → b ≡ false
or_right a b h = (or_parts a b h).1
