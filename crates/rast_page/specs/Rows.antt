-- A tree and its messages as the page's script reads them.
use Rattle.std.specs.Prelude.{ℕ, List, [], ◌∷◌, ◌++◌, codes, chars}
use Rattle.std.specs.Fmt.{decimal}
use Rattle.rap_base.specs.Names.{name_of}
use Rattle.rap_lexed.specs.ErrorSteps.{error_steps}
use Rattle.rap_lexed.specs.LexedStr.{Token, Message}
use Rattle.rap_lexed.specs.StrStep.{StrStepValue, str_enter, str_exit, str_token, str_error}
use Rattle.rast_page.specs.Json.{json_text}

-- the items of a step
abbrev pub step_row : StrStepValue → List ℕ
step_row (str_enter kind) = codes ",1," ++ json_text (chars (name_of kind))
step_row (str_token kind text) =
    codes ",2," ++ (json_text (chars (name_of kind)) ++ (codes "," ++ json_text (chars text)))
step_row str_exit = codes ",0"
step_row (str_error text pos) = []

-- the items of a tree
abbrev pub step_rows : List StrStepValue → List ℕ
step_rows [] = []
step_rows (step ∷ steps) = step_row step ++ step_rows steps

-- the items of a message: its position in bytes, and its text
abbrev pub message_row : ℕ → List ℕ → List ℕ
message_row pos text = codes "," ++ (decimal pos ++ (codes "," ++ json_text (chars text)))

-- the items that a step adds to the messages
abbrev pub step_message_row : StrStepValue → List ℕ
step_message_row (str_enter kind) = []
step_message_row (str_token kind text) = []
step_message_row str_exit = []
step_message_row (str_error text pos) = message_row pos text

-- the items of a tree's messages
abbrev pub message_rows : List StrStepValue → List ℕ
message_rows [] = []
message_rows (step ∷ steps) = step_message_row step ++ message_rows steps

-- the items of the lexer's messages, each at the start of its token
abbrev pub lexer_message_rows : List Token → List Message → List ℕ
lexer_message_rows tokens messages = message_rows (error_steps tokens messages)
