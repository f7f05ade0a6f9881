-- What is returned of whether a text is in the core grammar.
use Rattle.std.specs.Prelude.{◌≡◌, ℕ, List, ◌++◌, length, map, IsUtf8}
use Rattle.rap_base.specs.declared.edition.Edition.{Edition}
use Rattle.rap_core.specs.Derived.{IsDerived, IsListed}
use Rattle.rap_core.specs.declared.listing.Place.{Place}
use Rattle.rap_core.specs.declared.listing.Places.{Places}
use Rattle.rap_c.specs.Answer.{number_of}
use Rattle.rap_c.specs.Filling.{overwritten}
use Rattle.rap_c.specs.Numbers.{IsEditionOf, IsNoEdition}
use Rattle.rap_c.specs.Tree.{ComesOfText}
use Rattle.rap_c.specs.declared.answer.Fault.{Fault}
use Rattle.rap_c.specs.declared.answer.Fault.TheVariants.{NoEdition, NoEntry, NotUtf8, TextTooLong, TooManyTokens, NoMemory, NoNode, NoBrace, NoRecord, NoSteps}
use Rattle.rap_c.specs.declared.derived.RapCoreAnswer.{RapCoreAnswer}
use Rattle.rap_c.specs.declared.derived.RapPlace.{RapPlace}

-- a place in numbers: 1 for a token, and 0 for a node
abbrev pub place_row : ℕ → Place → RapPlace
place_row is_token p = record { kind = p.kind; is_token = is_token; start = p.start; end = p.end }

-- the places in numbers: those of tokens, and after them those of nodes
abbrev pub place_rows : Places → List RapPlace
place_rows places = map (place_row 1) places.tokens.items ++ map (place_row 0) places.nodes.items

-- It is returned that the text is in the core grammar, and the room is unchanged. Or the first places of the room are
-- those of tokens of the text that the lexer has a message of, and of nodes of its tree, as many as fit; what is after
-- them does not change. The result has the number of all.
pub data IsToldTo (text : List ℕ) (edition : Edition) (room room_after : List RapPlace) (answer : RapCoreAnswer) : Type 0 where
  inside : IsDerived text edition → room_after ≡ room
      → answer ≡ record { status = 0; derived = 1; places = 0; used = length text }
      → IsToldTo text edition room room_after answer
  outside : (places : Places) → IsListed text edition places → room_after ≡ overwritten room (place_rows places)
      → answer ≡ record { status = 0; derived = 0; places = length (place_rows places); used = length text }
      → IsToldTo text edition room room_after answer

-- The bytes are UTF-8, the number is that of an edition, and this is returned of the text.
pub record IsCoreAnswer (text : List ℕ) (year : ℕ) (room room_after : List RapPlace) (answer : RapCoreAnswer) : Type 0 where
  pub edition : Edition
  pub is_edition : IsEditionOf year edition
  pub utf8 : IsUtf8 text
  pub told : IsToldTo text edition room room_after answer

-- The bytes are UTF-8, and the number is that of an edition; and this holds for it.
pub record IsAskedOf (text : List ℕ) (year : ℕ) (Holds : Edition → Type 0) : Type 0 where
  pub edition : Edition
  pub is_edition : IsEditionOf year edition
  pub utf8 : IsUtf8 text
  pub holds : Holds edition

-- when a fault occurs for a number and bytes
abbrev pub ComesOfCore : List ℕ → ℕ → Fault → Type 0
ComesOfCore text year NoEdition = IsNoEdition year
ComesOfCore text year NoEntry = ⊥
ComesOfCore text year NotUtf8 = ((edition : Edition) × IsEditionOf year edition) × (¬ IsUtf8 text)
ComesOfCore text year TextTooLong = IsAskedOf text year (λ edition. ComesOfText text edition TextTooLong)
ComesOfCore text year TooManyTokens = IsAskedOf text year (λ edition. ComesOfText text edition TooManyTokens)
ComesOfCore text year NoMemory = IsAskedOf text year (λ edition. ComesOfText text edition NoMemory)
ComesOfCore text year NoNode = ⊥
ComesOfCore text year NoBrace = ⊥
ComesOfCore text year NoRecord = ⊥
ComesOfCore text year NoSteps = ⊥

-- the result at a fault
abbrev pub core_refusal : Fault → RapCoreAnswer
core_refusal fault = record { status = number_of fault; derived = 0; places = 0; used = 0 }

-- the result is that of a fault, which occurred
pub record IsCoreRefusal (Comes : Fault → Type 0) (answer : RapCoreAnswer) : Type 0 where
  pub fault : Fault
  pub comes : Comes fault
  pub is : answer ≡ core_refusal fault
