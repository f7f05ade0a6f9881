-- A literal goes on from each of its steps as from its start.
use Rattle.std.proofs.Common.{ℕ, Bool, List}

-- what ends the run from here ends it from the start
pub record Leads (Run : List ℕ → Bool → List ℕ → Type 0) (start here : List ℕ) : Type 0 where
  pub back : (closed : Bool) (rest : List ℕ) → Run here closed rest → Run start closed rest

pub leads_start : (Run : List ℕ → Bool → List ℕ → Type 0) (start : List ℕ) → Leads Run start start
leads_start Run start = record { back = λ closed rest run. run }
