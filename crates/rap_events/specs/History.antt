-- The calls that a parser recorded, in order. The number of a call is its place among them.
-- (What calls promise one another, but for what docs/ARCHITECTURE.md lists as to be believed.)
use Rattle.std.specs.Prelude.{ℕ, ◌+◌, List, [], ◌∷◌, drop, Bool}
use Rattle.rap_events.specs.declared.event.Event.{Event}
use Rattle.rap_events.specs.declared.event.Event.TheVariants as event

-- A marker is started; one is started before the last node; the newest marker becomes a node of a kind; the last
-- node begins where the newest marker does, and that marker is gone; the newest marker is forgotten; so many tokens
-- are taken under one kind; a float of a field access is taken apart, which ends in a dot or not; a message is
-- reported, by its bytes.
pub data Call : Type 0 where
  start : Call
  precede : Call
  finish : ℕ → Call
  extend : Call
  abandon : Call
  token : ℕ → ℕ → Call
  float_split : Bool → Call
  error : List ℕ → Call

-- how many messages an event reports
abbrev pub reports : Event → ℕ
reports event.Start = 0
reports event.Precede = 0
reports (event.Finish kind) = 0
reports event.Extend = 0
reports event.Abandon = 0
reports (event.Token width kind) = 0
reports (event.FloatSplit ends_in_dot) = 0
reports (event.Error number) = 1
reports (event.Enter kind) = 0
reports event.Exit = 0

-- the same of events one after another
abbrev pub reported_by : List Event → ℕ
reported_by [] = 0
reported_by (e ∷ es) = reports e + reported_by es

-- Events one after another, each shown with the messages that were not reported before it. So the first of these is
-- its own, if it reports one.
abbrev pub in_turn : {A : Type 0} → (List (List ℕ) → Event → A) → List Event → List (List ℕ) → List A
in_turn show [] ms = []
in_turn show (e ∷ es) ms = show ms e ∷ in_turn show es (drop (reports e) ms)

-- the first message, by its bytes, or none where there is no message
abbrev pub first_message : List (List ℕ) → List ℕ
first_message [] = []
first_message (m ∷ ms) = m

-- The call that an event shows, an error with the first of these messages. A step that is no call would be a start,
-- and no parser records one.
abbrev pub call_of : List (List ℕ) → Event → Call
call_of ms event.Start = start
call_of ms event.Precede = precede
call_of ms (event.Finish kind) = finish kind
call_of ms event.Extend = extend
call_of ms event.Abandon = abandon
call_of ms (event.Token width kind) = token kind width
call_of ms (event.FloatSplit ends_in_dot) = float_split ends_in_dot
call_of ms (event.Error number) = error (first_message ms)
call_of ms (event.Enter kind) = start
call_of ms event.Exit = start

-- the calls that the events show: the messages are those of the errors, in the same order
abbrev pub history : List Event → List (List ℕ) → List Call
history es ms = in_turn call_of es ms
