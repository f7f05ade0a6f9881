-- A step of an output, without the place in memory of its message.
use Rattle.std.specs.Prelude.{ℕ, List, Bool, true, false}

-- a node begins; the newest open node ends; so many tokens under one kind; a float of a field access that is taken
-- apart, and whether it ends in a dot; a message, by its bytes
pub data StepValue : Type 0 where
  enter : ℕ → StepValue
  exit : StepValue
  token : ℕ → ℕ → StepValue
  float_split : Bool → StepValue
  error : List ℕ → StepValue

-- whether a step is a leaf, but for those of a float that is taken apart
abbrev pub is_leaf : StepValue → Bool
is_leaf (enter kind) = false
is_leaf exit = false
is_leaf (token kind width) = true
is_leaf (float_split ends_in_dot) = false
is_leaf (error bytes) = false

-- whether a step is a leaf, or the beginning of a node
abbrev pub is_element : StepValue → Bool
is_element (enter kind) = true
is_element exit = false
is_element (token kind width) = true
is_element (float_split ends_in_dot) = false
is_element (error bytes) = false
