use Rattle.std.proofs.Common.{ap, refl, arith}
use Rattle.rap_c.specs.declared.element_room.ElementCounts.{ElementCounts}
use Rattle.rap_c.specs.declared.message_room.MessageCounts.{MessageCounts}
use Rattle.rap_c.proofs.Cells.{nothing_held}
use Rattle.rap_c.proofs.Told.{nothing_noted}
use Rattle.rap_c.proofs.node_filler.NodeFiller.new.Goals as goal

pub returns-clause-start : goal.returns-clause-start
returns-clause-start c = record {
  elements =
      nothing_held c.args.elements.now _ refl (ap (λ (n : ElementCounts). n.count) c.new.ensures) (ap (λ (n : ElementCounts). n.newest) c.new.ensures) (ap (λ (n : ElementCounts). n.beyond) c.new.ensures);
  notes =
      nothing_noted c.args.messages.now c.args.bytes.now _ refl refl (ap (λ (n : MessageCounts). n.count) c.new-2.ensures) (ap (λ (n : MessageCounts). n.said) c.new-2.ensures) (ap (λ (n : MessageCounts). n.ranged) c.new-2.ensures)
      (omega arith) (omega arith);
  waits = refl;
  place = refl;
}
