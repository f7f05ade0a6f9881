-- The items of an output to a caller, in order, and the numbers of each.
use Rattle.std.specs.Prelude.{ℕ, ◌+◌, ◌-◌, ◌^◌, Bool, List, [], ◌∷◌, ◌++◌, length, map, min, if◌then◌else◌}
use Rattle.rap_events.specs.StepValue as raw
use Rattle.rap_lexed.specs.ErrorSteps.{error_steps}
use Rattle.rap_lexed.specs.LexedStr.{Token, Message}
use Rattle.rap_lexed.specs.StrStep.{StrStepValue, str_enter, str_exit, str_token, str_error}
use Rattle.rap_c.specs.declared.step.RapStep.{RapStep}

-- A node begins; the newest open node ends; a token of n bytes of the text, or of n input tokens; a float that is
-- split, and whether it ends in a dot; a message, and its position in bytes; a message at the place after the items
-- so far.
pub data Item : Type 0 where
  enter : ℕ → Item
  exit : Item
  token : ℕ → ℕ → Item
  split : Bool → Item
  message : List ℕ → ℕ → Item
  remark : List ℕ → Item

-- the number of bytes or tokens of an item
abbrev pub width_of : Item → ℕ
width_of (enter kind) = 0
width_of exit = 0
width_of (token kind width) = width
width_of (split ends_in_dot) = 1
width_of (message bytes at) = 0
width_of (remark bytes) = 0

-- the bytes of an item's message
abbrev pub said_by : Item → List ℕ
said_by (enter kind) = []
said_by exit = []
said_by (token kind width) = []
said_by (split ends_in_dot) = []
said_by (message bytes at) = bytes
said_by (remark bytes) = bytes

-- a number, or 2^64 - 1 if it is larger
abbrev pub counted : ℕ → ℕ
counted n = min n (2 ^ 64 - 1)

-- the step of an item, at the place after the items so far, after n bytes of messages
abbrev pub row : ℕ → ℕ → Item → RapStep
row place said (enter kind) = record { what = 0; kind = kind; at = counted place; start = counted place; end = counted place }
row place said exit = record { what = 1; kind = 0; at = counted place; start = counted place; end = counted place }
row place said (token kind width) = record { what = 2; kind = kind; at = counted place; start = counted place; end = counted (place + width) }
row place said (message bytes at) = record { what = 3; kind = 0; at = at; start = counted said; end = counted (said + length bytes) }
row place said (remark bytes) = record { what = 3; kind = 0; at = counted place; start = counted said; end = counted (said + length bytes) }
row place said (split ends_in_dot) =
    record { what = 4; kind = (if ends_in_dot then 1 else 0); at = counted place; start = counted place; end = counted (place + 1) }

-- the steps of items, from a place on, after n bytes of messages
abbrev pub rows : ℕ → ℕ → List Item → List RapStep
rows place said [] = []
rows place said (x ∷ xs) = row place said x ∷ rows (place + width_of x) (said + length (said_by x)) xs

-- the bytes of their messages, one after another
abbrev pub all_said : List Item → List ℕ
all_said [] = []
all_said (x ∷ xs) = said_by x ++ all_said xs

-- a step of a tree over a text
abbrev pub text_item : StrStepValue → Item
text_item (str_enter kind) = enter kind
text_item str_exit = exit
text_item (str_token kind text) = token kind (length text)
text_item (str_error bytes pos) = message bytes pos

abbrev pub text_items : List StrStepValue → List Item
text_items steps = map text_item steps

-- a step of an output
abbrev pub output_item : raw.StepValue → Item
output_item (raw.enter kind) = enter kind
output_item raw.exit = exit
output_item (raw.token kind width) = token kind width
output_item (raw.float_split ends_in_dot) = split ends_in_dot
output_item (raw.error bytes) = remark bytes

abbrev pub output_items : List raw.StepValue → List Item
output_items steps = map output_item steps

-- a text's tokens
abbrev pub token_items : List Token → List Item
token_items ts = map (λ t. token t.kind (length t.text)) ts

-- the lexer's messages, each at the start of its token
abbrev pub lexer_items : List Token → List Message → List Item
lexer_items ts ms = text_items (error_steps ts ms)
