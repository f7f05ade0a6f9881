-- What is listed of a text, and when nothing is listed.
use Rattle.std.specs.Prelude.{◌≡◌, ◌≢◌, ◌<◌, ◌≤◌, ℕ, List, Option, Some, None, length, codes, true}
use Rattle.rap_base.specs.declared.edition.Edition.{Edition}
use Rattle.rap_base.specs.TokenKind.{L_CURLY}
use Rattle.rap_events.specs.Forest.{Forest, flat}
use Rattle.rap_events.specs.Record.{next_kind}
use Rattle.rap_grammar.specs.Part.{IsPrefixOf, part_script, part_kind, asks_brace}
use Rattle.rap_grammar.specs.declared.entry.part.Part.{Part}
use Rattle.ra_ap_parser.specs.EntryScript.{IsOutputOf, IsPrefixOutputOf}
use Rattle.ra_ap_parser.specs.Headline.{HasTooManyTokens}
use Rattle.rap_lexed.specs.Input.{records}
use Rattle.rap_lexed.specs.LexedStr.{Lexed, IsLexing}
use Rattle.ra_ap_parser.specs.Reparsed.{reparsed}
use Rattle.ra_ap_parser.specs.declared.entry_point.PrefixEntryPoint.{PrefixEntryPoint}
use Rattle.ra_ap_parser.specs.declared.entry_point.TopEntryPoint.{TopEntryPoint}
use Rattle.rast_print.specs.Listed.{step_lines, prefix_lines, node_lines}
use Rattle.rast_print.specs.declared.asked.Asked.{Asked}
use Rattle.rast_print.specs.declared.asked.Asked.TheVariants.{Steps, Prefix, Reparse}
use Rattle.rast_print.specs.declared.listing.ListFault.{ListFault}
use Rattle.rast_print.specs.declared.listing.ListFault.TheVariants.{TextTooLong, TooManyTokens, NoBrace, NoMemory}
use Rattle.rap_base.specs.Limits.{max_tokens}

-- the text's tokens, few enough for the parser
pub record IsRead (text : List ℕ) (edition : Edition) (lexed : Lexed) : Type 0 where
  pub lexing : IsLexing text edition lexed
  pub few : length (records lexed.tokens edition) ≤ max_tokens

-- the steps of a whole input
pub record ListsSteps (text : List ℕ) (edition : Edition) (entry : TopEntryPoint) (lines : List ℕ) : Type 0 where
  pub lexed : Lexed
  pub output : Forest
  pub is_read : IsRead text edition lexed
  pub made : IsOutputOf entry (records lexed.tokens edition) output
  pub is : lines ≡ step_lines (flat output)

-- the prefix of an input that is parsed
pub record ListsPrefix (text : List ℕ) (edition : Edition) (entry : PrefixEntryPoint) (lines : List ℕ) : Type 0 where
  pub lexed : Lexed
  pub output : Forest
  pub is_read : IsRead text edition lexed
  pub made : IsPrefixOutputOf entry (records lexed.tokens edition) output
  pub is : lines ≡ prefix_lines lexed.tokens output

-- a node that is parsed again
pub record ListsNode (text : List ℕ) (edition : Edition) (part : Part) (lines : List ℕ) : Type 0 where
  pub lexed : Lexed
  pub output : Forest
  pub is_read : IsRead text edition lexed
  pub brace : asks_brace part ≡ true → next_kind (records lexed.tokens edition) ≡ L_CURLY
  pub made : IsPrefixOf (part_script part) (records lexed.tokens edition) output
  pub is : lines ≡ node_lines lexed.tokens output

-- the node of this kind if it can be parsed again, and otherwise that it cannot
abbrev pub ListsReparsed : List ℕ → Edition → Option ℕ → List ℕ → Type 0
ListsReparsed text edition None lines = lines ≡ codes "none\n"
ListsReparsed text edition (Some kind) lines = (part : Part) × (part_kind part ≡ kind) × ListsNode text edition part lines

-- what is requested is listed
abbrev pub Lists : List ℕ → Edition → Asked → List ℕ → Type 0
Lists text edition (Steps entry) lines = ListsSteps text edition entry lines
Lists text edition (Prefix entry) lines = ListsPrefix text edition entry lines
Lists text edition (Reparse node first_child parent) lines = ListsReparsed text edition (reparsed node first_child parent) lines

-- a node of this kind must begin with a brace, and the text does not
pub record LacksBrace (text : List ℕ) (edition : Edition) (kind : ℕ) : Type 0 where
  pub part : Part
  pub is_part : part_kind part ≡ kind
  pub asks : asks_brace part ≡ true
  pub lexed : Lexed
  pub lexing : IsLexing text edition lexed
  pub lacks : next_kind (records lexed.tokens edition) ≢ L_CURLY

-- when a fault occurs for a text that is read; the last argument is the condition under which a brace is missing
abbrev pub ComesOf : List ℕ → Edition → Type 0 → ListFault → Type 0
ComesOf text edition Lacks TextTooLong = 4294967295 < length text
ComesOf text edition Lacks TooManyTokens = HasTooManyTokens text edition
ComesOf text edition Lacks NoBrace = Lacks
ComesOf text edition Lacks NoMemory = length text ≤ 4294967295

-- the same for a node that is parsed again; if it cannot be, the text is not read
abbrev pub ComesOfNode : List ℕ → Edition → Option ℕ → ListFault → Type 0
ComesOfNode text edition None fault = fault ≡ NoMemory
ComesOfNode text edition (Some kind) fault = ComesOf text edition (LacksBrace text edition kind) fault

-- when a fault occurs
abbrev pub Comes : List ℕ → Edition → Asked → ListFault → Type 0
Comes text edition (Steps entry) fault = ComesOf text edition ⊥ fault
Comes text edition (Prefix entry) fault = ComesOf text edition ⊥ fault
Comes text edition (Reparse node first_child parent) fault = ComesOfNode text edition (reparsed node first_child parent) fault
