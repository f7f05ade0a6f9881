-- What is listed of calls, and when nothing is listed.
use Rattle.std.specs.Prelude.{◌≡◌, ◌⊎◌, ◌≤◌, ◌+◌, ℕ, zero, suc, List, [], ◌∷◌, ◌++◌, length, codes, string_bytes}
use Rattle.std.specs.Fmt.{decimal}
use Rattle.std.specs.declared.ops.Range.{Range}
use Rattle.rap_events.specs.Forest.{Forest, flat}
use Rattle.rap_events.specs.StepValue.{StepValue, enter, exit, token, float_split, error}
use Rattle.rast_print.specs.Listed.{step_lines}
use Rattle.rast_calls.specs.Built.{ComesOfBuild, IsBuilt}
use Rattle.rast_calls.specs.Closed.{ComesOfClosed, IsListedClosed}
use Rattle.rast_calls.specs.Held.{ComesOfSteps, IsHeld}
use Rattle.rast_calls.specs.Made.{ComesOfInput, ComesOfOutput, IsMade, pushed}
use Rattle.rast_calls.specs.declared.asked.Asked.{Asked}
use Rattle.rast_calls.specs.declared.asked.Asked.TheVariants.{Capacity, Frontmatter, Push, Kept, Count, Sink, Build, Closed}
use Rattle.rast_calls.specs.declared.asked.Tokens.{Tokens}
use Rattle.rast_calls.specs.declared.asked.Way.{Way}
use Rattle.rast_calls.specs.declared.pushed.CallFault.{CallFault}
use Rattle.rast_calls.specs.declared.pushed.CallFault.TheVariants.{NoMemory}

-- an input to which no token was pushed
abbrev pub capacity_lines : List ℕ
capacity_lines = codes "length " ++ (decimal 0 ++ codes "\n")

abbrev pub span : ℕ → ℕ → Range ℕ
span start end = record { start = start; end = end }

-- n spans of one byte, from the start of the text on
abbrev pub spans : ℕ → List (Range ℕ)
spans zero = []
spans (suc n) = spans n ++ span n (n + 1) ∷ []

abbrev pub places : ℕ → ℕ → List ℕ
places start end = decimal start ++ (codes ".." ++ decimal end)

-- spans, each after a space
abbrev pub shown_spans : List (Range ℕ) → List ℕ
shown_spans [] = []
shown_spans (r ∷ rs) = codes " " ++ (places r.start r.end ++ shown_spans rs)

-- a refusal's message, the span that it is about, and those beside it
abbrev pub refusal_lines : List ℕ → ℕ → ℕ → ℕ → List ℕ
refusal_lines message start end count =
    codes "refused " ++ (message
    ++ (codes "\nprimary " ++ (places start end
    ++ (codes "\nvisible" ++ (shown_spans (spans count) ++ codes "\n")))))

-- how many messages these steps have
abbrev pub messages_in : List StepValue → ℕ
messages_in [] = 0
messages_in (enter kind ∷ ss) = messages_in ss
messages_in (exit ∷ ss) = messages_in ss
messages_in (token kind width ∷ ss) = messages_in ss
messages_in (float_split ends_in_dot ∷ ss) = messages_in ss
messages_in (error bytes ∷ ss) = messages_in ss + 1

abbrev pub count_lines : List StepValue → List ℕ
count_lines steps = codes "steps " ++ (decimal (length steps) ++ (codes "\nmessages " ++ (decimal (messages_in steps) ++ codes "\n")))

abbrev pub kept_lines : ℕ → ℕ → List ℕ
kept_lines count length = codes "pushed " ++ (decimal count ++ (codes "\nlength " ++ (decimal length ++ codes "\n")))

-- the steps of an input of all the tokens
pub record IsStepped (way : Way) (tokens : Tokens) (lines : List ℕ) : Type 0 where
  pub output : Forest
  pub made : IsMade way (pushed tokens.token tokens.every tokens.count) output
  pub is : lines ≡ step_lines (flat output)

-- how many steps and messages it has
pub record IsCounted (way : Way) (tokens : Tokens) (lines : List ℕ) : Type 0 where
  pub output : Forest
  pub made : IsMade way (pushed tokens.token tokens.every tokens.count) output
  pub is : lines ≡ count_lines (flat output)

-- The first of the tokens, as many as the input has, and its steps: a refused push does not change the input.
pub record IsKept (way : Way) (tokens : Tokens) (lines : List ℕ) : Type 0 where
  pub count : ℕ
  pub few : count ≤ tokens.count
  pub output : Forest
  pub made : IsMade way (pushed tokens.token tokens.every count) output
  pub is : lines ≡ kept_lines count count ++ step_lines (flat output)

-- when a fault occurs for an input of all the tokens
abbrev pub ComesOfTokens : Way → Tokens → CallFault → Type 0
ComesOfTokens way tokens fault = ComesOfInput tokens fault ⊎ ComesOfOutput way (pushed tokens.token tokens.every tokens.count) fault

-- when a fault occurs for one of the first of them
abbrev pub ComesOfKept : Way → Tokens → CallFault → Type 0
ComesOfKept way tokens fault =
    ComesOfInput tokens fault ⊎ ((count : ℕ) × (count ≤ tokens.count) × ComesOfOutput way (pushed tokens.token tokens.every count) fault)

-- what is requested is listed
abbrev pub Lists : List ℕ → Asked → List ℕ → Type 0
Lists text (Capacity capacity) lines = lines ≡ capacity_lines
Lists text (Frontmatter message start end count) lines = lines ≡ refusal_lines (string_bytes message) start end count
Lists text (Push way tokens) lines = IsStepped way tokens lines
Lists text (Kept way tokens) lines = IsKept way tokens lines
Lists text (Count way tokens) lines = IsCounted way tokens lines
Lists text (Sink count entry edition) lines = IsHeld text edition entry count lines
Lists text (Build entry edition) lines = IsBuilt text edition entry lines
Lists text (Closed reparser edition) lines = IsListedClosed text edition reparser lines

-- when a fault occurs
abbrev pub Comes : List ℕ → Asked → CallFault → Type 0
Comes text (Capacity capacity) fault = fault ≡ NoMemory
Comes text (Frontmatter message start end count) fault = fault ≡ NoMemory
Comes text (Push way tokens) fault = ComesOfTokens way tokens fault
Comes text (Kept way tokens) fault = ComesOfKept way tokens fault
Comes text (Count way tokens) fault = ComesOfTokens way tokens fault
Comes text (Sink count entry edition) fault = ComesOfSteps text edition fault
Comes text (Build entry edition) fault = ComesOfBuild text edition fault
Comes text (Closed reparser edition) fault = ComesOfClosed text edition reparser fault
