-- Steps that come from outside.
use Rattle.std.specs.Prelude.{◌≡◌, List, true}
use Rattle.rap_events.specs.Forest.{flat, one_tree, splits_placed}
use Rattle.rap_events.specs.Reading.{forest_of}
use Rattle.rap_events.specs.StepValue.{StepValue}

-- The steps are those of one tree, in which each split float is in a valid place.
pub record IsTreeSteps (ss : List StepValue) : Type 0 where
  pub shown : flat (forest_of ss) ≡ ss
  pub placed : splits_placed (forest_of ss) ≡ true
  pub one : one_tree (forest_of ss) ≡ true
