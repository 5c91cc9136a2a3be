-- Laws of reachability: paths joined, carried to another graph, and turned round.
use Rattle.std.proofs.Common.{ℕ, ◌≡◌, sym, subst}
use Rattle.graph.specs.Reachability.{Reach, here, step}

-- an edge is a path
pub one : {Edge : ℕ → ℕ → Type 0} {a b : ℕ} → Edge a b → Reach Edge a b
one h = step h here

pub join : {Edge : ℕ → ℕ → Type 0} {a b c : ℕ} → Reach Edge a b → Reach Edge b c → Reach Edge a c
join here q = q
join (step h p) q = step h (join p q)

-- a path ends where its end is said to be
pub reach_to : {Edge : ℕ → ℕ → Type 0} {a b c : ℕ} → Reach Edge a b → b ≡ c → Reach Edge a c
reach_to {Edge} {a} p e = subst (λ x. Reach Edge a x) e p

pub reach_from : {Edge : ℕ → ℕ → Type 0} {a b c : ℕ} → a ≡ b → Reach Edge b c → Reach Edge a c
reach_from {Edge} {c = c} e p = subst (λ x. Reach Edge x c) (sym e) p

-- where each edge of one graph is a path of another, so is each path
pub along : {R S : ℕ → ℕ → Type 0} → ((a b : ℕ) → R a b → Reach S a b) → {a b : ℕ} → Reach R a b → Reach S a b
along f here = here
along f (step {a = a} {b = b} h p) = join (f a b h) (along f p)

-- a path of the reversed graph
pub turn_round : {R S : ℕ → ℕ → Type 0} → ((a b : ℕ) → R a b → S b a) → {a b : ℕ} → Reach R a b → Reach S b a
turn_round f here = here
turn_round f (step {a = a} {b = b} h p) = join (turn_round f p) (one (f a b h))
