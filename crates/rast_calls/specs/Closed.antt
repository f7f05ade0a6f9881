-- Whether a node that is made of a text again is closed.
use Rattle.std.specs.Prelude.{◌≡◌, ◌<◌, ℕ, List, length, codes, if◌then◌else◌}
use Rattle.rap_base.specs.declared.edition.Edition.{Edition}
use Rattle.rap_events.specs.Forest.{Forest}
use Rattle.rap_grammar.specs.declared.entry.part.Part.{Part}
use Rattle.rap_lexed.specs.Input.{records}
use Rattle.rap_lexed.specs.LexedStr.{Lexed, IsLexing}
use Rattle.ra_ap_parser.specs.Closed.{is_closed}
use Rattle.rast_calls.specs.Built.{HasTooMany}
use Rattle.rast_calls.specs.Made.{IsMade, LacksBrace}
use Rattle.rast_calls.specs.declared.asked.Way.TheVariants.{Node}
use Rattle.rast_calls.specs.declared.pushed.CallFault.{CallFault}
use Rattle.rast_calls.specs.declared.pushed.CallFault.TheVariants.{TextTooLong, TooManyTokens, NoBrace, NoToken, NoMemory}

-- the node that is made of the text's tokens ends with its own closing brace, or it does not
pub record IsListedClosed (text : List ℕ) (edition : Edition) (part : Part) (lines : List ℕ) : Type 0 where
  pub lexed : Lexed
  pub lexing : IsLexing text edition lexed
  pub output : Forest
  pub made : IsMade (Node part) (records lexed.tokens edition) output
  pub is : lines ≡ (if is_closed part lexed.tokens output then codes "closed\n" else codes "open\n")

-- the node must begin with a brace, and the text does not
pub record HasNoBrace (text : List ℕ) (edition : Edition) (part : Part) : Type 0 where
  pub lexed : Lexed
  pub lexing : IsLexing text edition lexed
  pub lacks : LacksBrace (Node part) (records lexed.tokens edition)

-- when a fault occurs for a text of which a node is made
abbrev pub ComesOfClosed : List ℕ → Edition → Part → CallFault → Type 0
ComesOfClosed text edition part TextTooLong = 4294967295 < length text
ComesOfClosed text edition part TooManyTokens = HasTooMany text edition
ComesOfClosed text edition part NoBrace = HasNoBrace text edition part
ComesOfClosed text edition part NoToken = ⊥
ComesOfClosed text edition part NoMemory = Unit {0}
