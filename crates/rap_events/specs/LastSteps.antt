-- What is left of a count behind steps.
-- (What calls promise one another; no promise of the library rests on it.)
use Rattle.std.specs.Prelude.{ℕ, ◌+◌, ◌-◌, ◌==◌, if◌then◌else◌, List, [], ◌∷◌}
use Rattle.rap_events.specs.StepValue.{StepValue, enter, exit, token, float_split, error}

-- what a walk is left with behind a token: one more than as many as it wants to end, if the token is of its kind
abbrev pub at_token : ℕ → ℕ → ℕ → ℕ
at_token kind n other = if other == kind then n + 1 else 0

-- what is left of a count behind these steps: it begins at each token of the kind, each end of a node takes one, and all
-- else takes all
abbrev pub left_behind : ℕ → ℕ → ℕ → List StepValue → ℕ
left_behind kind n m [] = m
left_behind kind n m (enter other ∷ ss) = left_behind kind n 0 ss
left_behind kind n m (exit ∷ ss) = left_behind kind n (m - 1) ss
left_behind kind n m (token other width ∷ ss) = left_behind kind n (at_token kind n other) ss
left_behind kind n m (float_split ends_in_dot ∷ ss) = left_behind kind n 0 ss
left_behind kind n m (error bytes ∷ ss) = left_behind kind n 0 ss
