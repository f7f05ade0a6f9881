-- Whether a message comes next among the steps of an output.
use Rattle.std.specs.Prelude.{Bool, true, false, List, [], ◌∷◌}
use Rattle.rap_events.specs.StepValue.{StepValue, enter, exit, token, float_split, error}

-- a message comes next, or nothing
abbrev pub is_at_message_or_end : List StepValue → Bool
is_at_message_or_end [] = true
is_at_message_or_end (error bytes ∷ xs) = true
is_at_message_or_end (enter kind ∷ xs) = false
is_at_message_or_end (exit ∷ xs) = false
is_at_message_or_end (token kind width ∷ xs) = false
is_at_message_or_end (float_split ends_in_dot ∷ xs) = false
