-- The messages about a text.
use Rattle.std.specs.Prelude.{ℕ, List, [], ◌∷◌, ◌++◌}
use Rattle.rap_lexed.specs.ErrorSteps.{error_steps}
use Rattle.rap_lexed.specs.LexedStr.{Lexed, Token, Message}
use Rattle.rap_lexed.specs.StrStep.{StrStepValue, str_enter, str_exit, str_token, str_error}

-- a message: the bytes of its text, and its position in bytes
pub record ReportValue : Type 0 where
  pub text : List ℕ
  pub at : ℕ

-- the messages of a step
abbrev pub reports_of_step : StrStepValue → List ReportValue
reports_of_step (str_enter kind) = []
reports_of_step str_exit = []
reports_of_step (str_token kind text) = []
reports_of_step (str_error bytes pos) = record { text = bytes; at = pos } ∷ []

-- the messages of a tree, by its steps
abbrev pub reports_of : List StrStepValue → List ReportValue
reports_of [] = []
reports_of (s ∷ ss) = reports_of_step s ++ reports_of ss

-- the messages of the lexer, each at the start of its token
abbrev pub lexer_reports : List Token → List Message → List ReportValue
lexer_reports ts ms = reports_of (error_steps ts ms)

-- all messages: those of the tree, and after them those of the lexer
abbrev pub all_reports : Lexed → List StrStepValue → List ReportValue
all_reports lexed steps = reports_of steps ++ lexer_reports lexed.tokens lexed.errors
