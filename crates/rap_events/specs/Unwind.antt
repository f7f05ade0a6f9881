-- Reading a history from its last call back: what is kept on the way, and what each call does to it.
-- (What calls promise one another; no promise of the library rests on it.)
use Rattle.std.specs.Prelude.{◌≡◌, ℕ, suc, ◌+◌, ◌≤◌, ◌<◌, List, [], ◌∷◌, ◌++◌, Bool, true, false, length, map, reverse, take, drop, String, string_bytes}
use Rattle.std.specs.declared.alloc.Global.{Global}
use Rattle.rap_events.specs.StepValue.{StepValue, enter, exit, token, float_split, error}
use Rattle.rap_events.specs.History.{Call, reports, reported_by, call_of, history}
use Rattle.rap_events.specs.History as call
use Rattle.rap_events.specs.Forest.{ended_by}
use Rattle.rap_events.specs.Interval.{without_exits}
use Rattle.rap_events.specs.Output.{values}
use Rattle.rap_events.specs.declared.event.Event.{Event}
use Rattle.rap_events.specs.declared.event.walk.Pending.{Pending}
use Rattle.rap_events.specs.declared.event.walk.Pending.TheVariants as pending
use Rattle.rap_events.specs.declared.event.walk.Walk as kept
use Rattle.rap_events.specs.Pending.{glue, others, begins_node, left_by, begun, inners, slot}

-- Whether the nodes that come first in the list are around the one that the next finish ends, and past how many open
-- markers that one begins; what is still to begin, the nearest first; and the steps so far.
pub record Walk : Type 0 where
  pub is_around : Bool
  pub skips : ℕ
  pub pending : List Pending
  pub steps : List StepValue

-- nodes of these kinds begin
abbrev pub enters : List ℕ → List StepValue
enters [] = []
enters (k ∷ ks) = enter k ∷ enters ks

-- all nodes at the newest open marker begin
abbrev pub entered : Bool → Walk → Walk
entered true w =
    record {
      is_around = w.is_around;
      skips = w.skips;
      pending = others w.pending;
      steps = enters (glue w.pending) ++ w.steps;
    }
entered false w = w

-- one call back
abbrev pub back : Call → Walk → Walk
back call.start w =
    record {
      is_around = false;
      skips = w.skips;
      pending = others w.pending;
      steps = enters (glue w.pending) ++ w.steps;
    }
back call.precede w =
    record {
      is_around = begins_node w.pending;
      skips = w.skips;
      pending = left_by (begins_node w.pending) w.pending;
      steps = w.steps;
    }
back (call.finish k) w =
    record { is_around = false; skips = 0; pending = begun w.skips w.is_around k w.pending; steps = exit ∷ w.steps }
back call.extend w = record { is_around = w.is_around; skips = suc w.skips; pending = w.pending; steps = w.steps }
back call.abandon w =
    record { is_around = false; skips = w.skips; pending = pending.Nothing ∷ w.pending; steps = w.steps }
back (call.token k width) w =
    record { is_around = w.is_around; skips = w.skips; pending = w.pending; steps = token k width ∷ w.steps }
back (call.float_split ends_in_dot) w =
    record {
      is_around = w.is_around;
      skips = w.skips;
      pending = w.pending;
      steps = float_split ends_in_dot ∷
          without_exits (ended_by ends_in_dot) w.steps;
    }
back (call.error bytes) w =
    record { is_around = w.is_around; skips = w.skips; pending = w.pending; steps = error bytes ∷ w.steps }

-- all calls back, the last one first
abbrev pub unwind : List Call → Walk → Walk
unwind [] w = w
unwind (x ∷ xs) w = back x (unwind xs w)

-- before the last call
abbrev pub nothing_yet : Walk
nothing_yet = record { is_around = false; skips = 0; pending = []; steps = [] }

-- the messages, by their bytes
abbrev pub texts : kept.Walk → List (List ℕ)
texts w = map string_bytes w.messages.items

-- the events that were not yet read
abbrev pub unread : kept.Walk → List Event
unread w = take w.left w.events.items

-- the messages that they do not report
abbrev pub texts_read : kept.Walk → List (List ℕ)
texts_read w = drop (reported_by (unread w)) (texts w)

-- what the code keeps: its list is kept the other way round, and the steps stand where events were, with these messages
abbrev pub walk_with : List (List ℕ) → kept.Walk → Walk
walk_with ms w = record {
  is_around = w.is_around;
  skips = w.skips;
  pending = reverse w.pending.items;
  steps = values (drop w.first w.events.items) ms;
}

-- each event that was read is in the steps, if it reports a message
abbrev pub walk_of : kept.Walk → Walk
walk_of w = walk_with (texts_read w) w

-- the same just after this event was read, whose message is in no step yet
abbrev pub walk_after : Event → kept.Walk → Walk
walk_after e w = walk_with (drop (reports e) (texts_read w)) w

-- an event was read whose place is still free
abbrev pub HasRoom : kept.Walk → Type 0
HasRoom w = w.left + (inners w.pending.items + slot w.is_around) < w.first

-- no event was read
pub record Started (es : List Event) (ms : List (String Global)) (w : kept.Walk) : Type 0 where
  pub events : w.events.items ≡ es
  pub left : w.left ≡ length es
  pub messages : w.messages.items ≡ ms
  pub walk : walk_of w ≡ nothing_yet

-- the events that were not yet read, and the messages, are as before
pub record Kept (old new : kept.Walk) : Type 0 where
  pub left : new.left ≡ old.left
  pub events : take old.left new.events.items ≡ take old.left old.events.items
  pub messages : new.messages.items ≡ old.messages.items
  pub texts : texts_read new ≡ texts_read old

-- a step stands before the others
pub record Written (step : Event) (old new : kept.Walk) : Type 0 where
  pub kept : Kept old new
  pub first : new.first + 1 ≡ old.first
  pub steps : drop new.first new.events.items ≡ step ∷ drop old.first old.events.items
  pub pending : new.pending.items ≡ old.pending.items
  pub is_around : new.is_around ≡ old.is_around
  pub skips : new.skips ≡ old.skips

-- an event was read, and nothing done yet
pub record Taken (e : Event) (old new : kept.Walk) : Type 0 where
  pub left : new.left + 1 ≡ old.left
  pub events : take old.left old.events.items ≡ take new.left new.events.items ++ e ∷ []
  pub messages : new.messages.items ≡ old.messages.items
  pub walk : walk_after e new ≡ walk_of old
  pub room : HasRoom new
  pub few : new.skips + new.left < length new.events.items

-- the last one of the list was taken, and whether nodes around it are still to begin there
pub record EnteredLast (is_more : Bool) (old new : kept.Walk) : Type 0 where
  pub kept : Kept old new
  pub room : new.left + (inners new.pending.items + slot new.is_around) + slot is_more ≤ new.first
  pub shorter : length new.pending.items + slot is_more ≤ length old.pending.items
  pub walk : entered is_more (walk_of new) ≡ entered true (walk_of old)

-- this call was taken back
pub record Backed (x : Call) (old new : kept.Walk) : Type 0 where
  pub kept : Kept old new
  pub walk : walk_of new ≡ back x (walk_of old)

-- an event was taken back
pub record EventBacked (e : Event) (old new : kept.Walk) : Type 0 where
  pub kept : Kept old new
  pub walk : walk_of new ≡ back (call_of (texts_read old) e) (walk_after e old)

-- the calls that were not yet taken back
abbrev pub calls_left : kept.Walk → List Call
calls_left w = history (unread w) (texts w)

-- one event fewer is left to take back, and to go on gives the same
pub record Same (old new : kept.Walk) : Type 0 where
  pub left : new.left + 1 ≡ old.left
  pub unwound : unwind (calls_left new) (walk_of new) ≡ unwind (calls_left old) (walk_of old)
