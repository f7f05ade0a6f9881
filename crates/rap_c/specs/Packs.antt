-- What a packer does.
-- (Used in contracts between internal functions only; no public contract rests on it.)
use Rattle.std.specs.Prelude.{◌≡◌, ℕ, ◌+◌, ◌<◌, ◌^◌, List, length, slice_set}
use Rattle.rap_lexed.specs.StrStep.{StrStepValue}
use Rattle.rap_c.specs.Item.{counted}
use Rattle.rap_c.specs.Packing.{Packing, packed, packed_all}
use Rattle.rap_c.specs.Words.{words_of, bytes_of}
use Rattle.rap_c.specs.declared.packer.Packer.{Packer}

-- the room, as filled so far
abbrev pub packing_of : Packer → Packing
packing_of p = record { words = p.words.now; messages = p.messages.now; count = p.count; said = p.said }

-- the lengths of the room and the numbers so far are below 2^64
pub record Fits (p : Packer) : Type 0 where
  pub words : length p.words.now < 2 ^ 64
  pub messages : length p.messages.now < 2 ^ 64
  pub count : p.count < 2 ^ 64
  pub said : p.said < 2 ^ 64

-- this room, with nothing written yet
pub record IsPackStart (words messages : List ℕ) (p : Packer) : Type 0 where
  pub is : packing_of p ≡ record { words = words; messages = messages; count = 0; said = 0 }
  pub fits : Fits p

-- it is the same room
pub record IsSamePack (old new : Packer) : Type 0 where
  pub words : new.words.ghost_name ≡ old.words.ghost_name
  pub messages : new.messages.ghost_name ≡ old.messages.ghost_name

-- one word was added
pub record PutsWord (word : ℕ) (old new : Packer) : Type 0 where
  pub words : new.words.now ≡ slice_set old.words.now old.count word
  pub messages : new.messages.now ≡ old.messages.now
  pub count : new.count ≡ counted (old.count + 1)
  pub said : new.said ≡ old.said
  pub same : IsSamePack old new
  pub fits : Fits old

-- words and bytes of messages were added
pub record Packs (words bytes : List ℕ) (old new : Packer) : Type 0 where
  pub is : packing_of new ≡ packed (packing_of old) words bytes
  pub same : IsSamePack old new

-- a step of a tree over a text was added
abbrev pub PacksStep : Packer → StrStepValue → Packer → Type 0
PacksStep old step new = Packs (words_of step) (bytes_of step) old new

-- steps were added, one after another
pub record PacksAll (steps : List StrStepValue) (old new : Packer) : Type 0 where
  pub is : packing_of new ≡ packed_all (packing_of old) steps
  pub same : IsSamePack old new
