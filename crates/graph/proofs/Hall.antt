-- Hall's condition: too few rows leave no perfect matching, and a failed search leaves a Hall set.
use Rattle.std.proofs.Common.{ℕ, suc, ◌≤◌, ◌<◌, ◌≡◌, refl, sym, ap, ◌∙◌, ◌≢◌, Bool, true, ◌&&◌, arith}
use Rattle.std.proofs.lemmas.Bool.{and_parts, and_from}
use Rattle.graph.specs.Lists.{elem}
use Rattle.graph.specs.Counting.{count, some, preimage}
use Rattle.graph.specs.Matchings.{Row, Col, Pattern, Entry, Perfect, Partial}
use Rattle.graph.specs.Hall.{RowsOf, HallSet}
use Rattle.graph.proofs.Bools.{apart}
use Rattle.graph.proofs.Counting.{without, without_self, without_other, count_ext, count_minus, pigeon, some_at, some_is}
use Rattle.graph.proofs.Lists.{elem_mem, mem_elem}
use Rattle.graph.proofs.Matchings.{Matched, Unmatched, row_of}

-- columns with fewer rows than they are have no perfect matching
pub no_perfect : {n : ℕ} {col : Pattern} {h : Col → Bool} {q : Row → Bool} → RowsOf n col h q
    → count q n < count h n → (f : Row → Col) → ¬ Perfect n col f
no_perfect {n} {col} {h} {q} Q few f M =
    let enough : count h n ≤ count q n = pigeon (λ c r. f r ≡ c) (λ c d r a b. sym a ∙ b) n h n q held in
    omega arith
  where
    held : (c : Col) → c < n → h c ≡ true → (r : Row) × (r < n) × (q r ≡ true) × (f r ≡ c)
    held c l e =
        let r = preimage f n c in
        let t = row_of M c l in
        (r, t.0, Q.has c r l t.0 e (rw t.1 at (M.on r t.0)), t.1)

-- a pattern with a Hall set has no perfect matching
pub hall_set_refuses : {n : ℕ} {col : Pattern} {h : Col → Bool} → HallSet n col h → (f : Row → Col) → ¬ Perfect n col f
hall_set_refuses H = no_perfect H.rows_of (omega (arith, H.one_less))

-- what agrees with a Hall set below n is one
pub hall_set_agree : {n : ℕ} {col : Pattern} {h : Col → Bool} (g : Col → Bool) → HallSet n col h → ((c : Col) → c < n → g c ≡ h c)
    → HallSet n col g
hall_set_agree {n} {col} {h} g H same = record {
  rows = H.rows;
  rows_of = record {
    has = λ c r l k e x. H.rows_of.has c r l k (sym (same c l) ∙ e) x;
    only = λ r l e. let t = H.rows_of.only r l e in (t.0, t.1, same t.0 t.1 ∙ t.2, t.3);
  };
  one_less = H.one_less ∙ sym (count_ext g h n same);
}

-- what a search from column c₀ that failed leaves: h are the columns that it visited
pub record Failed (n : ℕ) (col : Pattern) (f : Row → Col) (c₀ : Col) (h : Col → Bool) : Type 0 where
  pub below : c₀ < n
  pub start : h c₀ ≡ true
  pub unmatched : Unmatched n f c₀
  pub closed : (c : Col) (r : Row) → c < n → r < n → h c ≡ true → Entry col c r → (f r < n) × (h (f r) ≡ true)
  pub matched : (c : Col) → c < n → h c ≡ true → c ≢ c₀ → Matched n f c

-- each row of the visited columns is matched to one of them, which is not the first
rows_few : {n : ℕ} {col : Pattern} {h : Col → Bool} {q : Row → Bool} {f : Row → Col} {c₀ : Col}
    → RowsOf n col h q → Partial n col f → Failed n col f c₀ h → count q n ≤ count (without h c₀) n
rows_few {n} {col} {h} {q} {f} {c₀} Q P F = pigeon Gives once n q n (without h c₀) given
  where
    Gives : Row → Col → Type 0
    Gives r c = (r < n) × (f r < n) × (f r ≡ c)

    once : (r s : Row) (c : Col) → Gives r c → Gives s c → r ≡ s
    once r s c a b = P.once r s a.0 b.0 a.1 (a.2 ∙ sym b.2)

    given : (r : Row) → r < n → q r ≡ true → (c : Col) × (c < n) × (without h c₀ c ≡ true) × Gives r c
    given r l e =
        let t = Q.only r l e in
        let u = F.closed t.0 r t.1 l t.2 t.3 in
        (f r, u.0, without_other h c₀ (f r) (F.unmatched r l) ∙ u.1, (l, u.0, refl))

-- each visited column but the first has a row
rows_many : {n : ℕ} {col : Pattern} {h : Col → Bool} {q : Row → Bool} {f : Row → Col} {c₀ : Col}
    → RowsOf n col h q → Partial n col f → Failed n col f c₀ h → count (without h c₀) n ≤ count q n
rows_many {n} {col} {h} {q} {f} {c₀} Q P F = pigeon (λ c r. f r ≡ c) (λ c d r a b. sym a ∙ b) n (without h c₀) n q held
  where
    held : (c : Col) → c < n → without h c₀ c ≡ true → (r : Row) × (r < n) × (q r ≡ true) × (f r ≡ c)
    held c l e =
        let ne : c ≢ c₀ = λ z. apart (without h c₀ c) e (ap (without h c₀) z ∙ without_self h c₀) in
        let hc : h c ≡ true = sym (without_other h c₀ c ne) ∙ e in
        let t = F.matched c l hc ne in
        let entry : Entry col c t.0 = rw t.2 at (P.on t.0 t.1 (rw t.2 l)) in
        (t.0, t.1, Q.has c t.0 l t.1 hc entry, t.2)

-- the rows of the columns that a failed search visited number one less than the columns
pub hall : {n : ℕ} {col : Pattern} {h : Col → Bool} {q : Row → Bool} {f : Row → Col} {c₀ : Col}
    → RowsOf n col h q → Partial n col f → Failed n col f c₀ h → suc (count q n) ≡ count h n
hall {n} {h = h} {c₀ = c₀} Q P F =
    omega (arith, rows_few Q P F, rows_many Q P F, count_minus h c₀ n F.below F.start)

-- whether some column of h below n has an entry in row r
abbrev pub neighbour : ℕ → Pattern → (Col → Bool) → Row → Bool
neighbour n col h r = some (λ c. h c && elem r (col c)) n

-- these are the rows of h
pub neighbour_rows : (n : ℕ) (col : Pattern) (h : Col → Bool) → RowsOf n col h (neighbour n col h)
neighbour_rows n col h = record { has = has; only = only }
  where
    has : (c : Col) (r : Row) → c < n → r < n → h c ≡ true → Entry col c r → neighbour n col h r ≡ true
    has c r l k e i = some_at (λ d. h d && elem r (col d)) n c l (and_from (h c) (elem r (col c)) e (mem_elem r (col c) i))

    only : (r : Row) → r < n → neighbour n col h r ≡ true → (c : Col) × (c < n) × (h c ≡ true) × Entry col c r
    only r l e =
        let t = some_is (λ d. h d && elem r (col d)) n e in
        let c = t.0 in
        let both = and_parts (h c) (elem r (col c)) t.2 in
        (c, t.1, both.0, elem_mem r (col c) both.1)

-- the columns that a failed search visited are a Hall set
pub failed_hall_set : {n : ℕ} {col : Pattern} {f : Row → Col} {c₀ : Col} {h : Col → Bool}
    → Partial n col f → Failed n col f c₀ h → HallSet n col h
failed_hall_set {n} {col} {h = h} P F =
    let Q = neighbour_rows n col h in
    record { rows = neighbour n col h; rows_of = Q; one_less = hall Q P F }
