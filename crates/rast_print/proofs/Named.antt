-- Words that are the name of none of the first n kinds.
use Rattle.std.proofs.Common.{◌≡◌, ◌≢◌, ◌<◌, ◌≤◌, ◌+◌, ℕ, List, subst, arith}
use Rattle.rap_base.specs.Names.{name_of}

pub unnamed_more : (name : List ℕ) (n : ℕ) → ((k : ℕ) → k < n → name ≢ name_of k) → name ≢ name_of n → (k : ℕ) → k < n + 1 → name ≢ name_of k
unnamed_more name n before here k h e =
    let below : (k < n → ⊥) → k ≡ n = λ no. omega (arith, no, h) in
    let not_below : k < n → ⊥ = λ l. before k l e in
    here (subst (λ m. name ≡ name_of m) (below not_below) e)

pub unnamed_all : (name : List ℕ) (n : ℕ) → 330 ≤ n → ((k : ℕ) → k < n → name ≢ name_of k) → (k : ℕ) → k < 330 → name ≢ name_of k
unnamed_all name n past before k h = let within : k < n = omega (arith, past, h) in before k within
