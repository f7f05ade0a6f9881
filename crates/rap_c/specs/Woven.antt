-- What is returned of a tree whose trivia are put back.
use Rattle.std.specs.Prelude.{ℕ, ◌≤◌, ◌<◌, List, length, IsUtf8}
use Rattle.rap_base.specs.declared.edition.Edition.{Edition}
use Rattle.rap_events.specs.Forest.{Forest}
use Rattle.rap_lexed.specs.LexedStr.{Lexed, IsLexing}
use Rattle.rap_c.specs.Numbers.{IsEditionOf, IsNoEdition}
use Rattle.rap_c.specs.Output.{IsOutput}
use Rattle.rap_c.specs.Shown.{IsTreeOf}
use Rattle.rap_c.specs.declared.answer.Fault.{Fault}
use Rattle.rap_c.specs.declared.answer.Fault.TheVariants.{NoEdition, NoEntry, NotUtf8, TextTooLong, TooManyTokens, NoMemory, NoNode, NoBrace, NoRecord, NoSteps}
use Rattle.rap_c.specs.declared.answer.RapAnswer.{RapAnswer}
use Rattle.rap_c.specs.declared.step.RapStep.{RapStep}

-- The steps given are those of a tree over the text, and it is returned with the trivia put back.
pub record IsFilledWeave (text : List ℕ) (edition : Edition) (given : List RapStep) (given_messages : List ℕ) (steps steps_after : List RapStep) (messages messages_after : List ℕ) (answer : RapAnswer) : Type 0 where
  pub lexed : Lexed
  pub lexing : IsLexing text edition lexed
  pub small : length text ≤ 4294967295
  pub tree : Forest
  pub shown : IsTreeOf lexed.tokens edition given given_messages tree
  pub is : IsOutput lexed.tokens tree steps steps_after messages messages_after answer

-- The bytes are UTF-8, the number is that of an edition, and the tree is returned.
pub record IsWeave (text : List ℕ) (year : ℕ) (given : List RapStep) (given_messages : List ℕ) (steps steps_after : List RapStep) (messages messages_after : List ℕ) (answer : RapAnswer) : Type 0 where
  pub edition : Edition
  pub is_edition : IsEditionOf year edition
  pub utf8 : IsUtf8 text
  pub filled : IsFilledWeave text edition given given_messages steps steps_after messages messages_after answer

-- the steps given are not those of a tree over the text
pub record AreNoTree (text : List ℕ) (edition : Edition) (given : List RapStep) (given_messages : List ℕ) : Type 0 where
  pub lexed : Lexed
  pub lexing : IsLexing text edition lexed
  pub small : length text ≤ 4294967295
  pub other : (tree : Forest) → ¬ IsTreeOf lexed.tokens edition given given_messages tree

-- when a fault occurs for a text and of steps
abbrev pub ComesOfWeaving : List ℕ → Edition → List RapStep → List ℕ → Fault → Type 0
ComesOfWeaving text edition given given_messages NoEdition = ⊥
ComesOfWeaving text edition given given_messages NoEntry = ⊥
ComesOfWeaving text edition given given_messages NotUtf8 = ⊥
ComesOfWeaving text edition given given_messages TextTooLong = 4294967295 < length text
ComesOfWeaving text edition given given_messages TooManyTokens = ⊥
ComesOfWeaving text edition given given_messages NoMemory = length text ≤ 4294967295
ComesOfWeaving text edition given given_messages NoNode = ⊥
ComesOfWeaving text edition given given_messages NoBrace = ⊥
ComesOfWeaving text edition given given_messages NoRecord = ⊥
ComesOfWeaving text edition given given_messages NoSteps = AreNoTree text edition given given_messages

-- The bytes are UTF-8, and the number is that of an edition; and this holds for it.
pub record IsAskedText (text : List ℕ) (year : ℕ) (Holds : Edition → Type 0) : Type 0 where
  pub edition : Edition
  pub is_edition : IsEditionOf year edition
  pub utf8 : IsUtf8 text
  pub holds : Holds edition

-- when a fault occurs for a number, bytes and steps
abbrev pub ComesOfWeave : List ℕ → ℕ → List RapStep → List ℕ → Fault → Type 0
ComesOfWeave text year given given_messages NoEdition = IsNoEdition year
ComesOfWeave text year given given_messages NoEntry = ⊥
ComesOfWeave text year given given_messages NotUtf8 = ((edition : Edition) × IsEditionOf year edition) × (¬ IsUtf8 text)
ComesOfWeave text year given given_messages TextTooLong = IsAskedText text year (λ edition. ComesOfWeaving text edition given given_messages TextTooLong)
ComesOfWeave text year given given_messages TooManyTokens = ⊥
ComesOfWeave text year given given_messages NoMemory = IsAskedText text year (λ edition. ComesOfWeaving text edition given given_messages NoMemory)
ComesOfWeave text year given given_messages NoNode = ⊥
ComesOfWeave text year given given_messages NoBrace = ⊥
ComesOfWeave text year given given_messages NoRecord = ⊥
ComesOfWeave text year given given_messages NoSteps = IsAskedText text year (λ edition. ComesOfWeaving text edition given given_messages NoSteps)
