-- A step of a tree over a text, without the place in memory of its texts.
use Rattle.std.specs.Prelude.{ℕ, List}
use Rattle.rap_lexed.specs.declared.shortcuts.StrStep.{StrStep}
use Rattle.rap_lexed.specs.declared.shortcuts.StrStep.TheVariants.{Token, Enter, Exit, Error}

-- a node begins; the newest open node ends; a token with its bytes; a message, by its bytes, and the byte of the
-- text at which it stands
pub data StrStepValue : Type 0 where
  str_enter : ℕ → StrStepValue
  str_exit : StrStepValue
  str_token : ℕ → List ℕ → StrStepValue
  str_error : List ℕ → ℕ → StrStepValue

-- the step that a sink receives
abbrev pub str_step_value : StrStep → StrStepValue
str_step_value (Token kind text) = str_token kind text.now
str_step_value (Enter kind) = str_enter kind
str_step_value Exit = str_exit
str_step_value (Error msg pos) = str_error msg.now pos
