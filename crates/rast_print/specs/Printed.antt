-- A tree as the program prints it.
use Rattle.std.specs.Prelude.{ℕ, ◌+◌, ◌-◌, ◌^◌, List, [], ◌∷◌, ◌++◌, codes, chars, min}
use Rattle.rap_base.specs.Names.{name_of}
use Rattle.rast_common.specs.Indented.{indent}
use Rattle.rast_common.specs.Message.{message_line}
use Rattle.rast_common.specs.Quote.{quoted}
use Rattle.rap_lexed.specs.ErrorSteps.{error_steps}
use Rattle.rap_lexed.specs.LexedStr.{Token, Message}
use Rattle.rap_lexed.specs.StrStep.{StrStepValue, str_enter, str_exit, str_token, str_error}

-- the line of a step, after two spaces for each open node
abbrev pub line : ℕ → StrStepValue → List ℕ
line depth (str_enter kind) = indent depth ++ (name_of kind ++ codes "\n")
line depth (str_token kind text) = indent depth ++ (name_of kind ++ (codes " " ++ (quoted (chars text) ++ codes "\n")))
line depth str_exit = []
line depth (str_error text pos) = []

-- the number of open nodes after a step, or the largest machine number if there are more
abbrev pub depth_after : ℕ → StrStepValue → ℕ
depth_after depth (str_enter kind) = min (depth + 1) (2 ^ 64 - 1)
depth_after depth (str_token kind text) = depth
depth_after depth str_exit = depth - 1
depth_after depth (str_error text pos) = depth

-- the lines of a tree
abbrev pub printed : ℕ → List StrStepValue → List ℕ
printed depth [] = []
printed depth (step ∷ steps) = line depth step ++ printed (depth_after depth step) steps

-- the line that a step adds to the messages
abbrev pub reported_line : StrStepValue → List ℕ
reported_line (str_enter kind) = []
reported_line (str_token kind text) = []
reported_line str_exit = []
reported_line (str_error text pos) = message_line pos text

-- the lines of a tree's messages
abbrev pub reported : List StrStepValue → List ℕ
reported [] = []
reported (step ∷ steps) = reported_line step ++ reported steps

-- the lines of the lexer's messages, each at the start of its token
abbrev pub lexer_reported : List Token → List Message → List ℕ
lexer_reported tokens messages = reported (error_steps tokens messages)
