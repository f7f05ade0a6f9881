-- What is listed of a text, and whether a message is listed.
use Rattle.std.specs.Prelude.{◌≡◌, ◌≢◌, ◌⊎◌, ◌↔◌, ◌<◌, ◌≤◌, if◌then◌else◌, IsTrue, IsFalse, ℕ, List, [], ◌++◌, Option, None, Result, length, codes, string_bytes}
use Rattle.rap_base.specs.declared.edition.Edition.{Edition}
use Rattle.rap_frontmatter.specs.Refusal.{Refusal, IsRefused}
use Rattle.rap_frontmatter.specs.Script.{Script, IsScript}
use Rattle.rap_lexed.specs.Input.{records}
use Rattle.rap_lexed.specs.LexedStr.{Lexed, IsLexing}
use Rattle.rap_lexed.specs.SingleToken.{IsOneToken, IsNotOneToken}
use Rattle.rast_lex.specs.Listed.{lines, token_line, message_lines, record_line, single_line, script_lines, refusal_lines}
use Rattle.rap_lexed.specs.declared.lexed_str.LexFault.{LexFault}
use Rattle.rap_lexed.specs.declared.lexed_str.LexFault.TheVariants.{TextTooLong, NoMemory}
use Rattle.rast_common.specs.Ran.{IsMade}
use Rattle.rast_common.specs.Shown.{Shown}
use Rattle.rast_common.specs.declared.fault.Fault.{Fault}
use Rattle.rast_common.specs.declared.fault.Fault.TheVariants as common
use Rattle.rast_lex.specs.declared.listing.Page.{Page}
use Rattle.rast_lex.specs.declared.run.Listing.{Listing}
use Rattle.rast_lex.specs.declared.run.Listing.TheVariants.{Tokens, Input, Single, Script as script}

-- the text's tokens, a line each, and then the lexer's messages
pub record ListsTokens (text : List ℕ) (edition : Edition) (page : Page) : Type 0 where
  pub lexed : Lexed
  pub lexing : IsLexing text edition lexed
  pub is : string_bytes page.lines ≡ lines (token_line lexed.tokens) (length lexed.tokens) ++ message_lines lexed.errors
  pub reported : IsTrue page.has_message ↔ (lexed.errors ≢ [])

-- the parser's input for the text, a line for each token that is no trivia
pub record ListsInput (text : List ℕ) (edition : Edition) (page : Page) : Type 0 where
  pub lexed : Lexed
  pub lexing : IsLexing text edition lexed
  pub is : string_bytes page.lines ≡ lines (record_line (records lexed.tokens edition)) (length (records lexed.tokens edition))
  pub quiet : IsFalse page.has_message

-- the text is not one token, and the line says so
pub record ListsNone (text : List ℕ) (edition : Edition) (page : Page) : Type 0 where
  pub none : IsNotOneToken edition text
  pub is : string_bytes page.lines ≡ codes "none\n"
  pub quiet : IsFalse page.has_message

-- the text is one token, and the line has its kind and its last message
pub record ListsOne (text : List ℕ) (edition : Edition) (page : Page) : Type 0 where
  pub kind : ℕ
  pub message : Option (List ℕ)
  pub one : IsOneToken edition text kind message
  pub is : string_bytes page.lines ≡ single_line kind message
  pub reported : IsTrue page.has_message ↔ (message ≢ None)

abbrev pub ListsSingle : List ℕ → Edition → Page → Type 0
ListsSingle text edition page = ListsNone text edition page ⊎ ListsOne text edition page

-- the text is a script source, and the lines have the ranges of its parts
pub record ListsParts (text : List ℕ) (page : Page) : Type 0 where
  pub script : Script
  pub accepted : IsScript text script
  pub is : string_bytes page.lines ≡ script_lines script
  pub quiet : IsFalse page.has_message

-- the text is refused as a script source, and the lines say why
pub record ListsRefusal (text : List ℕ) (page : Page) : Type 0 where
  pub refusal : Refusal
  pub refused : IsRefused text refusal
  pub is : string_bytes page.lines ≡ refusal_lines refusal
  pub reported : IsTrue page.has_message

abbrev pub ListsScript : List ℕ → Page → Type 0
ListsScript text page = ListsParts text page ⊎ ListsRefusal text page

-- what is requested is listed
abbrev pub Lists : List ℕ → Edition → Listing → Page → Type 0
Lists text edition Tokens page = ListsTokens text edition page
Lists text edition Input page = ListsInput text edition page
Lists text edition Single page = ListsSingle text edition page
Lists text edition script page = ListsScript text page

-- when a fault occurs: the parts of a script are listed of a text of any length
abbrev pub Comes : List ℕ → Listing → LexFault → Type 0
Comes text listing TextTooLong = (4294967295 < length text) × (listing ≢ script)
Comes text listing NoMemory = (length text ≤ 4294967295) ⊎ (listing ≡ script)

-- what is reported about a fault
abbrev pub fault_of : LexFault → Fault
fault_of TextTooLong = common.TextTooLong
fault_of NoMemory = common.NoMemory

-- what is made of a text
abbrev pub Makes : List ℕ → Edition → Listing → Result Page Fault → Type 0
Makes text edition listing made = IsMade (Lists text edition listing) (Comes text listing) fault_of made

-- what is shown of a page: its lines, and the status 1 if a message is listed, and 0 otherwise
abbrev pub shown_of : Page → Shown
shown_of page = record { bytes = string_bytes page.lines; status = if page.has_message then 1 else 0 }
