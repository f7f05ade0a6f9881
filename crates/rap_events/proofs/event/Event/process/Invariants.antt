use Rattle.std.proofs.Common.{◌≡◌, map}
use Rattle.std.specs.Prelude.{string_bytes}
use Rattle.rap_events.specs.History.{history}
use Rattle.rap_events.specs.Unwind.{walk_of, unwind, nothing_yet, calls_left}
use Rattle.rap_events.proofs.event.Event.process.Given as goal

abbrev pub invariant-loop-walk : goal.invariant-loop-walk
invariant-loop-walk l = record {
  so_far : unwind (calls_left l.walk) (walk_of l.walk) ≡ unwind (history l.fn.events.items (map string_bytes l.fn.messages.items)) nothing_yet;
}

abbrev pub decreases-loop-walk : goal.decreases-loop-walk
decreases-loop-walk l = l.walk.left
