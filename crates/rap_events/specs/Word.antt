-- Events and steps as words of 32 bits.
-- (What calls promise one another; no promise of the library rests on it.)
use Rattle.std.specs.Prelude.{◌≡◌, ◌≢◌, ℕ, ◌+◌, ◌*◌, ◌^◌, ◌/◌, ◌%◌, ◌≤◌, ◌<◌, ◌==◌, ⊤, [], Bool, true, false, if◌then◌else◌}
use Rattle.rap_base.specs.NodeKind.{PATH_META}
use Rattle.rap_events.specs.StepValue.{StepValue, enter, exit, token, float_split, error}
use Rattle.rap_events.specs.declared.event.Event.{Event}
use Rattle.rap_events.specs.declared.event.Event.TheVariants as event

-- A word that is no message: bit 0 is 1, bits 4 to 7 say what it is, bits 8 to 15 hold a byte, and bits 16 to 31 the
-- number of a kind.
abbrev pub fields : ℕ → ℕ → ℕ → ℕ
fields which byte kind = kind * 2 ^ 16 + byte * 2 ^ 8 + which * 2 ^ 4 + 1

-- the byte of a float that is taken apart
abbrev pub dot : Bool → ℕ
dot true = 1
dot false = 0

-- the word of a step; a message's is twice its number among the messages
abbrev pub word_of : StepValue → ℕ → ℕ
word_of (token kind width) number = fields 0 width kind
word_of (enter kind) number = fields 1 0 kind
word_of exit number = fields 2 0 0
word_of (float_split ends_in_dot) number = fields 3 (dot ends_in_dot) 0
word_of (error bytes) number = number * 2

-- the word of an event: of a step, or of a call that is none
abbrev pub word_of_event : Event → ℕ
word_of_event (event.Token width kind) = word_of (token kind width) 0
word_of_event (event.Enter kind) = word_of (enter kind) 0
word_of_event event.Exit = word_of exit 0
word_of_event (event.FloatSplit ends_in_dot) = word_of (float_split ends_in_dot) 0
word_of_event (event.Error message) = word_of (error []) message
word_of_event event.Start = fields 4 0 0
word_of_event event.Precede = fields 5 0 0
word_of_event (event.Finish kind) = fields 6 0 kind
word_of_event event.Extend = fields 7 0 0
word_of_event event.Abandon = fields 8 0 0

-- whether the lowest byte of its word is this one
abbrev pub has_byte : ℕ → Event → Bool
has_byte byte e = word_of_event e % 2 ^ 8 == byte

-- the event of these fields
abbrev pub event_of_fields : ℕ → ℕ → ℕ → Event
event_of_fields which byte kind =
    if which == 0 then event.Token byte kind else
    if which == 1 then event.Enter kind else
    if which == 2 then event.Exit else
    if which == 3 then event.FloatSplit (byte == 1) else
    if which == 4 then event.Start else
    if which == 5 then event.Precede else
    if which == 6 then event.Finish kind else
    if which == 7 then event.Extend else event.Abandon

-- the event of a word
abbrev pub event_of : ℕ → Event
event_of bits =
    if bits % 2 == 0 then event.Error (bits / 2) else event_of_fields (bits / 2 ^ 4 % 2 ^ 4) (bits / 2 ^ 8 % 2 ^ 8)
    (bits / 2 ^ 16)

-- the fields of an event are as wide as their bits
abbrev pub Fits : Event → Type 0
Fits (event.Token width kind) = (width < 2 ^ 8) × (kind ≤ PATH_META)
Fits (event.Enter kind) = kind ≤ PATH_META
Fits event.Exit = ⊤
Fits (event.FloatSplit ends_in_dot) = ⊤
Fits event.Start = ⊤
Fits event.Precede = ⊤
Fits (event.Finish kind) = kind ≤ PATH_META
Fits event.Extend = ⊤
Fits event.Abandon = ⊤
Fits (event.Error message) = ⊤

-- a message's number leaves bit 0 free
abbrev pub HasNumber : Event → Type 0
HasNumber (event.Token width kind) = ⊤
HasNumber (event.Enter kind) = ⊤
HasNumber event.Exit = ⊤
HasNumber (event.FloatSplit ends_in_dot) = ⊤
HasNumber event.Start = ⊤
HasNumber event.Precede = ⊤
HasNumber (event.Finish kind) = ⊤
HasNumber event.Extend = ⊤
HasNumber event.Abandon = ⊤
HasNumber (event.Error message) = message < 2 ^ 31

-- these bits are the word of their event
pub record IsWord (bits : ℕ) : Type 0 where
  pub word : word_of_event (event_of bits) ≡ bits
  pub kind : bits % 2 ≢ 0 → bits / 2 ^ 16 ≤ PATH_META
