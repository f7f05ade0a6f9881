-- What a filler does.
-- (Used in contracts between internal functions only; no public contract rests on it.)
use Rattle.std.specs.Prelude.{◌≡◌, ℕ, ◌+◌, ◌<◌, ◌^◌, List, length, slice_set}
use Rattle.rap_lexed.specs.StrStep.{StrStepValue}
use Rattle.rap_c.specs.Item.{Item, counted, text_item}
use Rattle.rap_c.specs.Filling.{Filling, after, after_all}
use Rattle.rap_c.specs.declared.filler.Filler.{Filler}
use Rattle.rap_c.specs.declared.step.RapStep.{RapStep}

-- the room, as filled so far
abbrev pub filling_of : Filler → Filling
filling_of f = record { steps = f.steps.now; messages = f.messages.now; count = f.count; said = f.said; place = f.place }

-- this room, with nothing written yet
pub record IsStart (steps : List RapStep) (messages : List ℕ) (f : Filler) : Type 0 where
  pub is : filling_of f ≡ record { steps = steps; messages = messages; count = 0; said = 0; place = 0 }
  pub short_steps : length steps < 2 ^ 64
  pub short_messages : length messages < 2 ^ 64

-- it is the same room
pub record IsSame (old new : Filler) : Type 0 where
  pub steps : new.steps.ghost_name ≡ old.steps.ghost_name
  pub messages : new.messages.ghost_name ≡ old.messages.ghost_name

-- one item was added
pub record Adds (x : Item) (old new : Filler) : Type 0 where
  pub is : filling_of new ≡ after (filling_of old) x
  pub same : IsSame old new

-- items were added, one after another
pub record AddsAll (xs : List Item) (old new : Filler) : Type 0 where
  pub is : filling_of new ≡ after_all (filling_of old) xs
  pub same : IsSame old new

-- a step of a tree over a text was added
abbrev pub AddsStep : Filler → StrStepValue → Filler → Type 0
AddsStep old step new = Adds (text_item step) old new

-- a step that begins at the place after the steps so far was added, with this length
pub record Puts (what kind width : ℕ) (old new : Filler) : Type 0 where
  pub steps : new.steps.now ≡ slice_set old.steps.now old.count (record { what = what; kind = kind; at = old.place; start = old.place; end = counted (old.place + width) })
  pub messages : new.messages.now ≡ old.messages.now
  pub count : new.count ≡ counted (old.count + 1)
  pub said : new.said ≡ old.said
  pub place : new.place ≡ counted (old.place + width)
  pub same : IsSame old new
  pub said_fits : old.said < 2 ^ 64
  pub place_fits : old.place < 2 ^ 64
