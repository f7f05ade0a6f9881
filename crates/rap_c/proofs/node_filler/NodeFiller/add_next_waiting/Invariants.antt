use Rattle.std.proofs.Common.{◌≡◌, ℕ, ◌-◌, List, drop, length}
use Rattle.rap_ranged.specs.Listing.{Noting}
use Rattle.rap_c.specs.Lays.{AreSameRooms, HoldsNotes, elements_of, messages_of}
use Rattle.rap_c.specs.declared.element.RapMessage.{RapMessage}
use Rattle.rap_c.proofs.Told.{Going}
use Rattle.rap_c.proofs.node_filler.NodeFiller.add_next_waiting.Given as goal

abbrev pub invariant-waiting : goal.invariant-waiting
invariant-waiting l = record {
  going : (room : List RapMessage) (byte_room : List ℕ) (n : Noting) → n.ranged ≡ length n.notes → HoldsNotes room byte_room n.notes n.ranged (messages_of l.fn.self) → drop l.fn.self.next l.fn.self.waiting.now ≡ n.waiting
      → Going l.start l.end room byte_room n (drop l.self.next l.self.waiting.now) (messages_of l.self);
  elements : elements_of l.self ≡ elements_of l.fn.self;
  waiting : l.self.waiting ≡ l.fn.self.waiting;
  place : l.self.at ≡ l.fn.self.at;
  same : AreSameRooms l.fn.self l.self;
}

abbrev pub decreases-waiting : goal.decreases-waiting
decreases-waiting l = length l.self.waiting.now - l.self.next
