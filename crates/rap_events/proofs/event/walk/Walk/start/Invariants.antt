use Rattle.std.proofs.Common.{◌≡◌, ◌+◌, ◌≤◌, length, true, false}
use Rattle.rap_events.specs.Pending.{inners, slot}
use Rattle.rap_events.specs.Unwind.{walk_of, entered, Kept}
use Rattle.rap_events.proofs.event.walk.Walk.start.Given as goal

abbrev pub invariant-loop-is_more : goal.invariant-loop-is_more
invariant-loop-is_more l = record {
  kept : Kept l.fn.self l.self;
  room : l.self.left + (inners l.self.pending.items + slot l.self.is_around) + slot l.is_more ≤ l.self.first;
  so_far : entered l.is_more (walk_of l.self) ≡ record (entered true (walk_of l.fn.self)) { is_around = false };
}

abbrev pub decreases-loop-is_more : goal.decreases-loop-is_more
decreases-loop-is_more l = length l.self.pending.items + slot l.is_more
