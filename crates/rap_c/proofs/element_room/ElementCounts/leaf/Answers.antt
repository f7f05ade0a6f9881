use Rattle.std.proofs.Common.{refl, rules, arith}
use Rattle.rap_c.specs.Lays.{element_room}
use Rattle.rap_c.proofs.Cells.{leaf_at, leaf_out}
use Rattle.rap_c.proofs.element_room.ElementCounts.leaf.Goals as goal

pub returns-then-index-room : goal.returns-then-index-room
returns-then-index-room c = λ text end_is. record {
  holds = λ room l place few h.
      leaf_at c.args.kind c.args.at c.args.end text (element_room c.args.elements.now c.args.self.now) _ room l (omega arith) (omega arith) place end_is h (search rules) (search rules) refl (omega arith) refl;
}

pub returns-else-index-room : goal.returns-else-index-room
returns-else-index-room c = λ text end_is. record {
  holds = λ room l place few h. leaf_out c.args.kind text (element_room c.args.elements.now c.args.self.now) _ room l h (search rules) refl refl (omega (arith, h.count, few)) refl;
}
