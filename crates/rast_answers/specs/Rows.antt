-- Rows: what comes right after what, as far as it goes.
use Rattle.std.specs.Prelude.{ℕ, zero, suc, Bool, if◌then◌else◌, List, [], ◌∷◌, ◌++◌, Option, Some, None, unwrap_or}

-- the last of a row from a place on, in at most so many steps
abbrev pub last_in_row : (ℕ → Option ℕ) → ℕ → ℕ → ℕ
last_in_row next zero i = i
last_in_row next (suc n) i = last_in_row next n (unwrap_or (next i) i)

-- the numbers below a number, in order
abbrev pub indices_to : ℕ → List ℕ
indices_to zero = []
indices_to (suc n) = indices_to n ++ n ∷ []

-- the last number below a number that passes a test
abbrev pub last_below : (ℕ → Bool) → ℕ → Option ℕ
last_below p zero = None
last_below p (suc n) = if p n then Some n else last_below p n
