-- What a call returns to its caller.
use Rattle.std.specs.Prelude.{◌≡◌, ℕ, List, length}
use Rattle.rap_c.specs.Answer.{refusal}
use Rattle.rap_c.specs.Filling.{overwritten}
use Rattle.rap_c.specs.Item.{Item, rows, all_said, counted}
use Rattle.rap_c.specs.declared.answer.Fault.{Fault}
use Rattle.rap_c.specs.declared.answer.RapAnswer.{RapAnswer}
use Rattle.rap_c.specs.declared.step.RapStep.{RapStep}

-- The first steps of the room are those of the items, as many as fit, and the first bytes those of their
-- messages; what is after them does not change. The result has the number of each.
pub record IsGiven (items : List Item) (steps steps_after : List RapStep) (messages messages_after : List ℕ) (answer : RapAnswer) : Type 0 where
  pub steps_are : steps_after ≡ overwritten steps (rows 0 0 items)
  pub messages_are : messages_after ≡ overwritten messages (all_said items)
  pub count : answer.steps ≡ counted (length items)
  pub bytes : answer.message_bytes ≡ counted (length (all_said items))

-- the room is unchanged
pub record IsUntouched (steps steps_after : List RapStep) (messages messages_after : List ℕ) : Type 0 where
  pub steps_are : steps_after ≡ steps
  pub messages_are : messages_after ≡ messages

-- the result is that of a fault, which occurred
pub record IsRefusal (Comes : Fault → Type 0) (answer : RapAnswer) : Type 0 where
  pub fault : Fault
  pub comes : Comes fault
  pub is : answer ≡ refusal fault
