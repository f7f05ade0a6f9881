-- A step of an iterator over indices.
use Rattle.std.proofs.Common.{◌≡◌, ℕ, ◌∷◌, List, Some, ap, length, arith}
use Rattle.std.specs.Prelude.{⊤}
use Rattle.std.specs.Iterator.{MakesProgress, item_count}

pub progress : (old new : List ℕ) (x : ℕ) → old ≡ x ∷ new → MakesProgress (λ _. ⊤) (item_count (λ (l : List ℕ). l)) old (Some x) new
progress old new x h = record { on = λ _. (tt, tt, omega (arith, ap length h)); keeps = tt; rests = λ _. tt }
