-- The texts of steps.
use Rattle.std.specs.Prelude.{IsUtf8}
use Rattle.rap_lexed.specs.StrStep.{StrStepValue, str_enter, str_exit, str_token, str_error}

-- a token's bytes are text
abbrev pub IsText : StrStepValue → Type 0
IsText (str_enter kind) = Unit {0}
IsText str_exit = Unit {0}
IsText (str_token kind text) = IsUtf8 text
IsText (str_error bytes pos) = Unit {0}
