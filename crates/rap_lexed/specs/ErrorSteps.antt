-- The lexer's messages as steps.
use Rattle.std.specs.Prelude.{List, [], ◌∷◌}
use Rattle.rap_lexed.specs.LexedStr.{Token, Message, start_of}
use Rattle.rap_lexed.specs.StrStep.{StrStepValue, str_error}

-- each message, at the beginning of its token
abbrev pub error_steps : List Token → List Message → List StrStepValue
error_steps ts [] = []
error_steps ts (m ∷ ms) = str_error m.text (start_of ts m.token) ∷ error_steps ts ms
