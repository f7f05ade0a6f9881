-- What a sink holds that accepts a number of steps of a text's tree.
use Rattle.std.specs.Prelude.{◌≡◌, ◌⊎◌, ◌≤◌, ◌<◌, ◌+◌, ℕ, Bool, true, false, List, [], ◌∷◌, ◌++◌, length, codes, chars, string_bytes}
use Rattle.rap_base.specs.Names.{name_of}
use Rattle.rap_base.specs.declared.edition.Edition.{Edition}
use Rattle.rap_events.specs.Forest.{Forest}
use Rattle.rap_lexed.specs.LexedStr.{Lexed}
use Rattle.rap_lexed.specs.StrForest.{str_flat}
use Rattle.rap_lexed.specs.StrStep.{StrStepValue, str_enter, str_exit, str_token, str_error}
use Rattle.rap_lexed.specs.Trivia.{with_trivia}
use Rattle.ra_ap_parser.specs.Headline.{HasTooManyTokens, IsParsed}
use Rattle.ra_ap_parser.specs.declared.entry_point.TopEntryPoint.{TopEntryPoint}
use Rattle.rast_common.specs.Message.{message_line}
use Rattle.rast_common.specs.Quote.{quoted}
use Rattle.rast_calls.specs.declared.pushed.CallFault.{CallFault}
use Rattle.rast_calls.specs.declared.pushed.CallFault.TheVariants.{TextTooLong, TooManyTokens, NoBrace, NoToken, NoMemory}
use Rattle.rast_calls.specs.declared.sink.Holder.{Holder}
use Rattle.rast_calls.specs.declared.sink.Refusal.{Refusal}
use Rattle.rast_calls.specs.declared.sink.Refusal.TheVariants as refusal

-- the line of a step
abbrev pub str_line : StrStepValue → List ℕ
str_line (str_enter kind) = codes "enter " ++ (name_of kind ++ codes "\n")
str_line (str_token kind text) = codes "token " ++ (name_of kind ++ (codes " " ++ (quoted (chars text) ++ codes "\n")))
str_line str_exit = codes "exit\n"
str_line (str_error text pos) = message_line pos text

-- the lines of steps
abbrev pub str_lines : List StrStepValue → List ℕ
str_lines [] = []
str_lines (step ∷ steps) = str_line step ++ str_lines steps

-- the line that says whether all of the text was passed to the sink
abbrev pub answer_line : Bool → List ℕ
answer_line true = codes "answer true\n"
answer_line false = codes "answer false\n"

-- a step is accepted: its line is added, and one step fewer is accepted after it
pub record Holds (old : Holder) (step : StrStepValue) (new : Holder) : Type 0 where
  pub lines : string_bytes new.lines ≡ string_bytes old.lines ++ str_line step
  pub left : new.left + 1 ≡ old.left

-- a step is refused: no more steps are accepted, and the lines do not change; out of memory, nothing is specified
abbrev pub Refuses : Holder → StrStepValue → Refusal → Holder → Type 0
Refuses old step refusal.Full new = (old.left ≡ 0) × (string_bytes new.lines ≡ string_bytes old.lines)
Refuses old step refusal.NoMemory new = Unit {0}

-- all steps of the text's tree were accepted, and the result is true
pub record HoldsAll (text : List ℕ) (edition : Edition) (entry : TopEntryPoint) (count : ℕ) (lines : List ℕ) : Type 0 where
  pub lexed : Lexed
  pub forest : Forest
  pub parsed : IsParsed text edition entry lexed forest
  pub few : length (str_flat (with_trivia lexed.tokens forest)) ≤ count
  pub is : lines ≡ str_lines (str_flat (with_trivia lexed.tokens forest)) ++ codes "answer true\n"

-- a number of them were accepted, and there is one more, which was refused
pub record HoldsFirst (text : List ℕ) (edition : Edition) (entry : TopEntryPoint) (count : ℕ) (lines : List ℕ) : Type 0 where
  pub lexed : Lexed
  pub forest : Forest
  pub parsed : IsParsed text edition entry lexed forest
  pub prefix : List StrStepValue
  pub next : StrStepValue
  pub back : List StrStepValue
  pub split : str_flat (with_trivia lexed.tokens forest) ≡ prefix ++ next ∷ back
  pub many : length prefix ≡ count
  pub is : lines ≡ str_lines prefix ++ codes "refused\n"

abbrev pub IsHeld : List ℕ → Edition → TopEntryPoint → ℕ → List ℕ → Type 0
IsHeld text edition entry count lines = HoldsAll text edition entry count lines ⊎ HoldsFirst text edition entry count lines

-- when a fault occurs for a text whose steps are passed to the sink
abbrev pub ComesOfSteps : List ℕ → Edition → CallFault → Type 0
ComesOfSteps text edition TextTooLong = 4294967295 < length text
ComesOfSteps text edition TooManyTokens = HasTooManyTokens text edition
ComesOfSteps text edition NoBrace = ⊥
ComesOfSteps text edition NoToken = ⊥
ComesOfSteps text edition NoMemory = length text ≤ 4294967295
