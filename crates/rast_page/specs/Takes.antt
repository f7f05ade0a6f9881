-- What the page's sink does with a step.
use Rattle.std.specs.Prelude.{◌≡◌, ◌++◌, string_bytes}
use Rattle.rap_lexed.specs.StrStep.{StrStepValue}
use Rattle.rast_page.specs.Rows.{step_row, step_message_row}
use Rattle.rast_page.specs.declared.rows.Rows.{Rows}

-- the step's items are added to those of the tree or to those of the messages
pub record Records (old : Rows) (step : StrStepValue) (new : Rows) : Type 0 where
  pub steps : string_bytes new.steps ≡ string_bytes old.steps ++ step_row step
  pub messages : string_bytes new.messages ≡ string_bytes old.messages ++ step_message_row step
