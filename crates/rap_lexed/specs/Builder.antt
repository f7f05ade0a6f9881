-- What a builder hands out at a step of an output, and where it stands then.
-- (What calls promise one another; no promise of the library rests on it.)
use Rattle.std.specs.Prelude.{ℕ, ◌+◌, ◌<◌, ◌≤◌, List, [], ◌∷◌, ◌++◌, Bool, true, false, length, codes, if◌then◌else◌, ◌≡◌}
use Rattle.rap_events.specs.StepValue.{StepValue, enter, exit, token, float_split, error}
use Rattle.rap_lexed.specs.declared.shortcuts.builder.State.{State}
use Rattle.rap_lexed.specs.declared.shortcuts.builder.State.TheVariants.{PendingEnter, Normal, PendingExit}
use Rattle.rap_lexed.specs.declared.shortcuts.builder.Builder.{Builder}
use Rattle.std.specs.List.{before_first, after_first}
use Rattle.rap_base.specs.TokenKind.{DOT, ERROR, FLOAT_NUMBER, INT_NUMBER}
use Rattle.rap_base.specs.NodeKind.{NAME_REF}
use Rattle.rap_lexed.specs.Attached.{attached_tail, before_tail}
use Rattle.rap_lexed.specs.FloatParts.{is_dot, has_dot, without_dot, illegal}
use Rattle.rap_lexed.specs.Input.{ends_with_dot}
use Rattle.rap_lexed.specs.LexedStr.{Token, start_of}
use Rattle.rap_lexed.specs.StrStep.{StrStepValue, str_enter, str_exit, str_token, str_error}
use Rattle.rap_lexed.specs.Trivia.{trivia_at, past_trivia, text_of}

-- the step that waits
abbrev pub held : State → List StrStepValue
held PendingEnter = []
held Normal = []
held PendingExit = str_exit ∷ []

-- tokens as they are
abbrev pub leaves_of : List Token → List StrStepValue
leaves_of [] = []
leaves_of (t ∷ ts) = str_token t.kind t.text ∷ leaves_of ts

-- what is handed out right before a token
abbrev pub before_next : List Token → State → ℕ → List StrStepValue
before_next ts state at = held state ++ leaves_of (trivia_at ts at)

-- what is handed out at the beginning of a node that is not the root
abbrev pub enter_steps : List Token → State → ℕ → ℕ → List StrStepValue
enter_steps ts state at kind =
    held state ++
    (leaves_of (before_tail kind (trivia_at ts at)) ++ str_enter kind ∷
    leaves_of (attached_tail kind (trivia_at ts at)))

-- a number as the name of a field
abbrev pub number_steps : List ℕ → List StrStepValue
number_steps number = str_enter NAME_REF ∷ str_token INT_NUMBER number ∷ str_exit ∷ []

-- the same, the end of the node around it, and the dot
abbrev pub dotted_steps : List ℕ → List StrStepValue
dotted_steps number = number_steps number ++ str_exit ∷ str_token DOT (codes ".") ∷ []

-- a message, the float in an `ERROR`, and the end of the node around it
abbrev pub illegal_steps : List ℕ → ℕ → List StrStepValue
illegal_steps text pos =
    str_error illegal pos ∷ str_enter ERROR ∷ str_token FLOAT_NUMBER text ∷ str_exit ∷ str_exit ∷ []

-- what is handed out of a float that is taken apart
abbrev pub float_steps : Bool → List ℕ → ℕ → List StrStepValue
float_steps true text pos = dotted_steps (without_dot text)
float_steps false text pos =
    if has_dot text then dotted_steps (before_first is_dot text) ++ number_steps (after_first is_dot text)
    else illegal_steps text pos

-- what is handed out last, of a float: where it does not end in a dot, the end of the outer node waits
abbrev pub after_float : Bool → State
after_float true = Normal
after_float false = PendingExit

-- what is handed out at a step, from a place on
abbrev pub made_of : List Token → State → ℕ → StepValue → List StrStepValue
made_of ts PendingEnter at (enter kind) = str_enter kind ∷ []
made_of ts Normal at (enter kind) = enter_steps ts Normal at kind
made_of ts PendingExit at (enter kind) = enter_steps ts PendingExit at kind
made_of ts state at exit = held state
made_of ts state at (token kind width) =
    before_next ts state at ++ str_token kind (text_of ts (past_trivia ts at) width) ∷ []
made_of ts state at (float_split ends_in_dot) =
    before_next ts state at ++ float_steps ends_in_dot (text_of ts (past_trivia ts at) 1)
    (start_of ts (past_trivia ts at))
made_of ts state at (error bytes) = str_error bytes (start_of ts at) ∷ []

-- what was handed out last, after a step
abbrev pub state_after : State → StepValue → State
state_after state (enter kind) = Normal
state_after state exit = PendingExit
state_after state (token kind width) = Normal
state_after state (float_split ends_in_dot) = after_float ends_in_dot
state_after state (error bytes) = state

-- the place after a step
abbrev pub place_after : List Token → State → ℕ → StepValue → ℕ
place_after ts PendingEnter at (enter kind) = at
place_after ts Normal at (enter kind) = past_trivia ts at
place_after ts PendingExit at (enter kind) = past_trivia ts at
place_after ts state at exit = at
place_after ts state at (token kind width) = past_trivia ts at + width
place_after ts state at (float_split ends_in_dot) = past_trivia ts at + 1
place_after ts state at (error bytes) = at

-- a step can be handed out from a place on: the tokens of a leaf are there, and a float with a dot at its end if it
-- must have one
abbrev pub CanMake : List Token → ℕ → StepValue → Type 0
CanMake ts at (enter kind) = Unit {0}
CanMake ts at exit = Unit {0}
CanMake ts at (token kind width) = (0 < width) × (past_trivia ts at + width ≤ length ts)
CanMake ts at (float_split ends_in_dot) =
    (past_trivia ts at + 1 ≤ length ts) × (ends_with_dot (text_of ts (past_trivia ts at) 1) ≡ ends_in_dot)
CanMake ts at (error bytes) = Unit {0}

-- what a builder hands out at a step
abbrev pub made_by : Builder → StepValue → List StrStepValue
made_by b x = made_of b.lexed.now.tokens b.state b.pos x

-- the builder after a step
abbrev pub moved : Builder → StepValue → Builder
moved b x = record b { pos = place_after b.lexed.now.tokens b.state b.pos x; state = state_after b.state x }
