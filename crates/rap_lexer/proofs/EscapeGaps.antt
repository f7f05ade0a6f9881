-- Where the white space ends that a backslash before a line feed skips.
use Rattle.std.proofs.Common.{ℕ, ◌≤◌, Bool, true, false, if◌then◌else◌, List, [], ◌∷◌, length, arith}
use Rattle.rap_lexer.specs.Run.{after_run}

pub no_longer : (p : ℕ → Bool) (cs : List ℕ) → length (after_run p cs) ≤ length cs
no_longer p [] = omega arith
no_longer p (c ∷ cs) = elim (p c) as (λ b. length (if b then after_run p cs else (c ∷ cs)) ≤ length (c ∷ cs)) [ true ↦ omega (arith, no_longer p cs) | false ↦ omega arith ]
