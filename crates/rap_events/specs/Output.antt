-- The steps that an output holds.
use Rattle.std.specs.Prelude.{◌≡◌, ◌≤◌, ⊤, ℕ, List, [], Option, Some, None, map, string_bytes, drop, length}
use Rattle.rap_events.specs.History.{in_turn, first_message}
use Rattle.rap_events.specs.Forest.{used}
use Rattle.rap_events.specs.Reading.{forest_of}
use Rattle.rap_events.specs.StepValue.{StepValue, enter, exit, token, float_split, error}
use Rattle.rap_events.specs.declared.event.Event.{Event}
use Rattle.rap_events.specs.declared.event.Event.TheVariants as event
use Rattle.rap_events.specs.declared.output.StepList.{StepList}

-- what a contract sees of a step, an error with the first of these messages; an event that is no step would be an
-- empty message, and no output holds one
abbrev pub value_of : List (List ℕ) → Event → StepValue
value_of ms (event.Token width kind) = token kind width
value_of ms (event.FloatSplit ends_in_dot) = float_split ends_in_dot
value_of ms (event.Enter kind) = enter kind
value_of ms event.Exit = exit
value_of ms (event.Error number) = error (first_message ms)
value_of ms event.Start = error []
value_of ms event.Precede = error []
value_of ms (event.Finish kind) = error []
value_of ms event.Extend = error []
value_of ms event.Abandon = error []

-- the same of steps one after another: the messages are those of the errors, in the same order
abbrev pub values : List Event → List (List ℕ) → List StepValue
values es ms = in_turn value_of es ms

-- what a contract sees of steps that may be there
abbrev pub values_of : Option StepList → List StepValue
values_of None = []
values_of (Some list) = values (drop list.first list.steps.items) (map string_bytes list.messages.items)

-- the steps begin within the list
abbrev pub IsWithin : Option StepList → Type 0
IsWithin None = ⊤
IsWithin (Some list) = list.first ≤ length list.steps.items

-- the number beside the steps is that of the tokens that their forest has
abbrev pub IsCounted : Option StepList → Type 0
IsCounted None = ⊤
IsCounted (Some list) = list.tokens ≡ used (forest_of (values (drop list.first list.steps.items) (map string_bytes list.messages.items)))
