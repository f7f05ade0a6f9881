-- All lines of a text, and when there are none.
use Rattle.std.specs.Prelude.{◌≡◌, ◌==◌, ℕ, ◌<◌, ◌≤◌, if◌then◌else◌, List, ◌++◌, length, string_bytes, string_len}
use Rattle.rap_base.specs.declared.edition.Edition.{Edition}
use Rattle.rap_events.specs.Forest.{Forest}
use Rattle.ra_ap_parser.specs.Headline.{HasTooManyTokens, IsParsed}
use Rattle.rap_lexed.specs.LexedStr.{Lexed}
use Rattle.rap_lexed.specs.StrForest.{str_flat}
use Rattle.rap_lexed.specs.Trivia.{with_trivia}
use Rattle.ra_ap_parser.specs.declared.entry_point.TopEntryPoint.{TopEntryPoint}
use Rattle.ra_ap_parser.specs.declared.whole_text.TextFault.{TextFault}
use Rattle.ra_ap_parser.specs.declared.whole_text.TextFault.TheVariants.{TextTooLong, TooManyTokens, NoMemory, Refused}
use Rattle.rast_common.specs.Shown.{Shown}
use Rattle.rast_common.specs.declared.fault.Fault.{Fault}
use Rattle.rast_common.specs.declared.fault.Fault.TheVariants as common
use Rattle.rast_print.specs.Printed.{printed, reported, lexer_reported}
use Rattle.rast_print.specs.declared.printer.Printer.{Printer}

-- the lines of all messages: those of the tree, and after them those of the lexer
abbrev pub all_reported : Lexed → Forest → List ℕ
all_reported lexed forest = reported (str_flat (with_trivia lexed.tokens forest)) ++ lexer_reported lexed.tokens lexed.errors

-- The lines of the text's one tree, and those of its messages.
pub record IsPrinted (text : List ℕ) (edition : Edition) (entry : TopEntryPoint) (printer : Printer) : Type 0 where
  pub lexed : Lexed
  pub forest : Forest
  pub parsed : IsParsed text edition entry lexed forest
  pub tree : printer.tree ≡ printed 0 (str_flat (with_trivia lexed.tokens forest))
  pub messages : string_bytes printer.messages ≡ all_reported lexed forest

-- when a fault occurs; the printer refuses a step only when out of memory
abbrev pub Comes : {R : Type 0} → List ℕ → Edition → TextFault R → Type 0
Comes text edition TextTooLong = 4294967295 < length text
Comes text edition TooManyTokens = HasTooManyTokens text edition
Comes text edition NoMemory = (length text ≤ 4294967295) × ¬ HasTooManyTokens text edition
Comes text edition (Refused e) = (length text ≤ 4294967295) × ¬ HasTooManyTokens text edition

-- what is reported about a fault
abbrev pub fault_of : {R : Type 0} → TextFault R → Fault
fault_of TextTooLong = common.TextTooLong
fault_of TooManyTokens = common.TooManyTokens
fault_of NoMemory = common.NoMemory
fault_of (Refused e) = common.NoMemory

-- what is shown: the tree's lines and then those of the messages, and the status 0 if there is no message, else 1
abbrev pub shown_of : Printer → Shown
shown_of printer = record {
  bytes = printer.tree ++ string_bytes printer.messages;
  status = if string_len printer.messages == 0 then 0 else 1;
}
