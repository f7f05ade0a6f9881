-- What is returned of records that are parsed.
use Rattle.std.specs.Prelude.{◌≡◌, ◌≢◌, ℕ, ◌+◌, ◌*◌, ◌≤◌, ◌<◌, List, Option, Some, None, true, length, if◌then◌else◌}
use Rattle.rap_base.specs.TokenKind.{L_CURLY}
use Rattle.rap_events.specs.Forest.{Forest, flat, one_tree, used}
use Rattle.rap_events.specs.Record.{Record, next_kind}
use Rattle.rap_grammar.specs.Part.{IsOneNode, IsPrefixOf, IsPrefixOver, part_script, part_kind, asks_brace}
use Rattle.rap_grammar.specs.Top.{IsTreeOver}
use Rattle.rap_grammar.specs.declared.entry.part.Part.{Part}
use Rattle.rap_grammar_ends.specs.Dots.{dots_inside}
use Rattle.ra_ap_parser.specs.EntryScript.{IsOutputOf, IsPrefixOutputOf}
use Rattle.ra_ap_parser.specs.declared.entry_point.PrefixEntryPoint.{PrefixEntryPoint}
use Rattle.ra_ap_parser.specs.declared.entry_point.TopEntryPoint.{TopEntryPoint}
use Rattle.rap_c.specs.Given.{IsGiven}
use Rattle.rap_c.specs.Item.{output_items}
use Rattle.rap_c.specs.Numbers.{IsTopOf, IsNoTop, IsNoPrefix}
use Rattle.rap_c.specs.Numbers as numbers
use Rattle.rap_c.specs.Record.{IsInputOf, IsNoInput}
use Rattle.rap_c.specs.declared.answer.Fault.{Fault}
use Rattle.rap_c.specs.declared.answer.Fault.TheVariants.{NoEdition, NoEntry, NotUtf8, TextTooLong, TooManyTokens, NoMemory, NoNode, NoBrace, NoRecord, NoSteps}
use Rattle.rap_c.specs.declared.answer.RapAnswer.{RapAnswer}
use Rattle.rap_c.specs.declared.record.RapRecord.{RapRecord}
use Rattle.rap_c.specs.declared.step.RapStep.{RapStep}
use Rattle.rap_base.specs.Limits.{max_tokens}

-- whether an output is one tree, as a status
abbrev pub status_of : Forest → ℕ
status_of output = if one_tree output then 0 else 1

-- The output's own steps are returned, and the number of tokens that it consumed.
pub record IsRawOutput (output : Forest) (steps steps_after : List RapStep) (messages messages_after : List ℕ) (answer : RapAnswer) : Type 0 where
  pub given : IsGiven (output_items (flat output)) steps steps_after messages messages_after answer
  pub status : answer.status ≡ status_of output
  pub used_is : answer.used ≡ used output

-- The numbers are those of records, few enough for the parser, and the output of their parse is returned. There are at
-- most 256 steps for each record, and 256 more.
pub record IsFilledParse (Makes : List Record → Forest → Type 0) (rows : List RapRecord) (steps steps_after : List RapStep) (messages messages_after : List ℕ) (answer : RapAnswer) : Type 0 where
  pub records : List Record
  pub output : Forest
  pub input : IsInputOf rows records
  pub few : length records ≤ max_tokens
  pub made : Makes records output
  pub is : IsRawOutput output steps steps_after messages messages_after answer
  pub few_steps : answer.steps ≤ 256 * (length rows + 1)

-- The output is the entry's, and one tree over all records.
pub record IsTopTreeOf (entry : TopEntryPoint) (records : List Record) (output : Forest) : Type 0 where
  pub made : IsOutputOf entry records output
  pub tree : IsTreeOver records output

-- The output is the entry's, over records at the front and over no others; and no node at its top ends with a float that
-- ends in a dot.
pub record IsFrontOf (entry : PrefixEntryPoint) (records : List Record) (output : Forest) : Type 0 where
  pub made : IsPrefixOutputOf entry records output
  pub front : IsPrefixOver records output
  pub dots : dots_inside output ≡ true

-- The number is that of a top entry, and its one tree over all records is returned.
pub record IsParse (rows : List RapRecord) (entry_number : ℕ) (steps steps_after : List RapStep) (messages messages_after : List ℕ) (answer : RapAnswer) : Type 0 where
  pub entry : TopEntryPoint
  pub is_entry : IsTopOf entry_number entry
  pub filled : IsFilledParse (IsTopTreeOf entry) rows steps steps_after messages messages_after answer

-- The number is that of a prefix entry, and its output is returned.
pub record IsParsePrefix (rows : List RapRecord) (entry_number : ℕ) (steps steps_after : List RapStep) (messages messages_after : List ℕ) (answer : RapAnswer) : Type 0 where
  pub entry : PrefixEntryPoint
  pub is_entry : numbers.IsPrefixOf entry_number entry
  pub filled : IsFilledParse (IsFrontOf entry) rows steps steps_after messages messages_after answer

-- The node begins as it must, and this is its output, over records at the front and over no others: exactly one node of
-- its kind where a brace comes first.
pub record IsNodeOutputOf (part : Part) (records : List Record) (output : Forest) : Type 0 where
  pub brace : asks_brace part ≡ true → next_kind records ≡ L_CURLY
  pub made : IsPrefixOf (part_script part) records output
  pub front : IsPrefixOver records output
  pub dots : dots_inside output ≡ true
  pub one : next_kind records ≡ L_CURLY → IsOneNode (part_kind part) output

-- The node of this kind is returned.
pub record IsParseNode (rows : List RapRecord) (kind : Option ℕ) (steps steps_after : List RapStep) (messages messages_after : List ℕ) (answer : RapAnswer) : Type 0 where
  pub part : Part
  pub is_part : kind ≡ Some (part_kind part)
  pub filled : IsFilledParse (IsNodeOutputOf part) rows steps steps_after messages messages_after answer

-- the numbers are those of more records than a parse accepts
pub record AreTooMany (rows : List RapRecord) : Type 0 where
  pub records : List Record
  pub input : IsInputOf rows records
  pub many : max_tokens < length records

-- the same, and the node begins as it must
pub record AreTooManyInBraces (rows : List RapRecord) (part : Part) : Type 0 where
  pub records : List Record
  pub input : IsInputOf rows records
  pub many : max_tokens < length records
  pub brace : asks_brace part ≡ true → next_kind records ≡ L_CURLY

-- the node must begin with a brace, and the records do not
pub record LackBrace (rows : List RapRecord) (part : Part) : Type 0 where
  pub asks : asks_brace part ≡ true
  pub records : List Record
  pub input : IsInputOf rows records
  pub lacks : next_kind records ≢ L_CURLY

-- when a fault occurs for records
abbrev pub ComesOfRows : List RapRecord → Fault → Type 0
ComesOfRows rows NoEdition = ⊥
ComesOfRows rows NoEntry = ⊥
ComesOfRows rows NotUtf8 = ⊥
ComesOfRows rows TextTooLong = ⊥
ComesOfRows rows TooManyTokens = AreTooMany rows
ComesOfRows rows NoMemory = Unit {0}
ComesOfRows rows NoNode = ⊥
ComesOfRows rows NoBrace = ⊥
ComesOfRows rows NoRecord = IsNoInput rows
ComesOfRows rows NoSteps = ⊥

-- the same for a node
abbrev pub ComesOfNodeRows : List RapRecord → Part → Fault → Type 0
ComesOfNodeRows rows part NoEdition = ⊥
ComesOfNodeRows rows part NoEntry = ⊥
ComesOfNodeRows rows part NotUtf8 = ⊥
ComesOfNodeRows rows part TextTooLong = ⊥
ComesOfNodeRows rows part TooManyTokens = AreTooManyInBraces rows part
ComesOfNodeRows rows part NoMemory = Unit {0}
ComesOfNodeRows rows part NoNode = ⊥
ComesOfNodeRows rows part NoBrace = LackBrace rows part
ComesOfNodeRows rows part NoRecord = IsNoInput rows
ComesOfNodeRows rows part NoSteps = ⊥

-- when a fault occurs for a number and records
abbrev pub ComesOfParse : List RapRecord → ℕ → Fault → Type 0
ComesOfParse rows entry_number NoEdition = ⊥
ComesOfParse rows entry_number NoEntry = IsNoTop entry_number
ComesOfParse rows entry_number NotUtf8 = ⊥
ComesOfParse rows entry_number TextTooLong = ⊥
ComesOfParse rows entry_number TooManyTokens = ((entry : TopEntryPoint) × IsTopOf entry_number entry) × AreTooMany rows
ComesOfParse rows entry_number NoMemory = (entry : TopEntryPoint) × IsTopOf entry_number entry
ComesOfParse rows entry_number NoNode = ⊥
ComesOfParse rows entry_number NoBrace = ⊥
ComesOfParse rows entry_number NoRecord = ((entry : TopEntryPoint) × IsTopOf entry_number entry) × IsNoInput rows
ComesOfParse rows entry_number NoSteps = ⊥

abbrev pub ComesOfParsePrefix : List RapRecord → ℕ → Fault → Type 0
ComesOfParsePrefix rows entry_number NoEdition = ⊥
ComesOfParsePrefix rows entry_number NoEntry = IsNoPrefix entry_number
ComesOfParsePrefix rows entry_number NotUtf8 = ⊥
ComesOfParsePrefix rows entry_number TextTooLong = ⊥
ComesOfParsePrefix rows entry_number TooManyTokens = ((entry : PrefixEntryPoint) × numbers.IsPrefixOf entry_number entry) × AreTooMany rows
ComesOfParsePrefix rows entry_number NoMemory = (entry : PrefixEntryPoint) × numbers.IsPrefixOf entry_number entry
ComesOfParsePrefix rows entry_number NoNode = ⊥
ComesOfParsePrefix rows entry_number NoBrace = ⊥
ComesOfParsePrefix rows entry_number NoRecord = ((entry : PrefixEntryPoint) × numbers.IsPrefixOf entry_number entry) × IsNoInput rows
ComesOfParsePrefix rows entry_number NoSteps = ⊥

-- The node can be parsed again, and this holds for it.
pub record IsAskedPart (kind : Option ℕ) (Holds : Part → Type 0) : Type 0 where
  pub part : Part
  pub is_part : kind ≡ Some (part_kind part)
  pub holds : Holds part

abbrev pub ComesOfParseNode : List RapRecord → Option ℕ → Fault → Type 0
ComesOfParseNode rows kind NoEdition = ⊥
ComesOfParseNode rows kind NoEntry = ⊥
ComesOfParseNode rows kind NotUtf8 = ⊥
ComesOfParseNode rows kind TextTooLong = ⊥
ComesOfParseNode rows kind TooManyTokens = IsAskedPart kind (λ part. AreTooManyInBraces rows part)
ComesOfParseNode rows kind NoMemory = IsAskedPart kind (λ part. Unit {0})
ComesOfParseNode rows kind NoNode = kind ≡ None
ComesOfParseNode rows kind NoBrace = IsAskedPart kind (λ part. LackBrace rows part)
ComesOfParseNode rows kind NoRecord = IsAskedPart kind (λ part. IsNoInput rows)
ComesOfParseNode rows kind NoSteps = ⊥
