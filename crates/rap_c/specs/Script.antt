-- What is returned of a script source.
use Rattle.std.specs.Prelude.{◌≡◌, ℕ, ◌+◌, List, [], ◌∷◌, Option, Some, None, map, length, IsUtf8, unwrap_or}
use Rattle.std.specs.declared.ops.Range.{Range}
use Rattle.rap_frontmatter.specs.OneAnswer.{IsOnlyScript, IsOnlyFault}
use Rattle.rap_frontmatter.specs.Refusal.{Refusal, IsRefused}
use Rattle.rap_frontmatter.specs.Script as source
use Rattle.rap_frontmatter.specs.declared.frontmatter.error.ScriptFault as fault
use Rattle.rap_c.specs.Filling.{overwritten}
use Rattle.rap_c.specs.declared.answer.Fault.{Fault}
use Rattle.rap_c.specs.declared.answer.Fault.TheVariants.{NoEdition, NoEntry, NotUtf8, TextTooLong, TooManyTokens, NoMemory, NoNode, NoBrace, NoRecord, NoSteps}
use Rattle.rap_c.specs.declared.answer.RapAnswer.{RapAnswer}
use Rattle.rap_c.specs.declared.part.RapPart.{RapPart}

-- a part that is there
abbrev pub part_at : Range ℕ → RapPart
part_at span = record { there = 1; start = span.start; end = span.end }

-- a part, there or not
abbrev pub part_of : Option (Range ℕ) → RapPart
part_of None = record { there = 0; start = 0; end = 0 }
part_of (Some span) = part_at span

-- the six parts of a script source
abbrev pub parts_of : source.Script → List RapPart
parts_of s = part_of s.shebang ∷ part_of s.opening ∷ part_of s.info ∷ part_of s.frontmatter ∷ part_of s.close ∷ part_at s.content ∷ []

-- what a refusal shows: its range, and those beside it
abbrev pub shown_of : Refusal → List RapPart
shown_of e = part_at e.primary ∷ map part_at e.visible

-- The text is a script source, and its parts are returned, without a message.
pub record IsCut (text : List ℕ) (parts parts_after : List RapPart) (messages messages_after : List ℕ) (answer : RapAnswer) : Type 0 where
  pub script : source.Script
  pub is : source.IsScript text script
  pub only : IsOnlyScript text script
  pub parts_are : parts_after ≡ overwritten parts (parts_of script)
  pub messages_are : messages_after ≡ messages
  pub answer_is : answer ≡ record { status = 0; steps = 6; message_bytes = 0; used = length text }

-- A refusal is returned, with its message.
pub record IsReport (refusal : Refusal) (size : ℕ) (parts parts_after : List RapPart) (messages messages_after : List ℕ) (answer : RapAnswer) : Type 0 where
  pub parts_are : parts_after ≡ overwritten parts (shown_of refusal)
  pub messages_are : messages_after ≡ overwritten messages refusal.message
  pub answer_is : answer ≡ record { status = 12; steps = 1 + length refusal.visible; message_bytes = length refusal.message; used = size }

-- The text is no script source, and the refusal is returned.
pub record IsReported (text : List ℕ) (parts parts_after : List RapPart) (messages messages_after : List ℕ) (answer : RapAnswer) : Type 0 where
  pub refusal : Refusal
  pub is : IsRefused text refusal
  pub only : IsOnlyFault text (fault.TheVariants.Refused refusal)
  pub report : IsReport refusal (length text) parts parts_after messages messages_after answer

-- the room is unchanged
pub record ArePartsUntouched (parts parts_after : List RapPart) (messages messages_after : List ℕ) : Type 0 where
  pub parts_are : parts_after ≡ parts
  pub messages_are : messages_after ≡ messages

-- when a fault occurs for a text
abbrev pub ComesOfCutting : List ℕ → Fault → Type 0
ComesOfCutting text fault = (fault ≡ NoMemory) × ((e : Refusal) × IsRefused text e)

-- when a fault occurs for bytes
abbrev pub ComesOfScript : List ℕ → Fault → Type 0
ComesOfScript text NoEdition = ⊥
ComesOfScript text NoEntry = ⊥
ComesOfScript text NotUtf8 = ¬ IsUtf8 text
ComesOfScript text TextTooLong = ⊥
ComesOfScript text TooManyTokens = ⊥
ComesOfScript text NoMemory = IsUtf8 text × ((e : Refusal) × IsRefused text e)
ComesOfScript text NoNode = ⊥
ComesOfScript text NoBrace = ⊥
ComesOfScript text NoRecord = ⊥
ComesOfScript text NoSteps = ⊥

-- The bytes are UTF-8, and `used` is where this ends, or 0 if there is none.
pub record IsEndGiven (Ends : List ℕ → Option ℕ → Type 0) (text : List ℕ) (answer : RapAnswer) : Type 0 where
  pub utf8 : IsUtf8 text
  pub end : Option ℕ
  pub ends : Ends text end
  pub answer_is : answer ≡ record { status = 0; steps = 0; message_bytes = 0; used = unwrap_or end 0 }

-- when a fault occurs in such a call
abbrev pub ComesOfBytes : List ℕ → Fault → Type 0
ComesOfBytes text NoEdition = ⊥
ComesOfBytes text NoEntry = ⊥
ComesOfBytes text NotUtf8 = ¬ IsUtf8 text
ComesOfBytes text TextTooLong = ⊥
ComesOfBytes text TooManyTokens = ⊥
ComesOfBytes text NoMemory = ⊥
ComesOfBytes text NoNode = ⊥
ComesOfBytes text NoBrace = ⊥
ComesOfBytes text NoRecord = ⊥
ComesOfBytes text NoSteps = ⊥
