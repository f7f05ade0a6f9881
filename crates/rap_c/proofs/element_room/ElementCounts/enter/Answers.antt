use Rattle.std.proofs.Common.{refl, rules, arith}
use Rattle.rap_c.specs.Lays.{element_room}
use Rattle.rap_c.proofs.Cells.{enter_at, enter_out}
use Rattle.rap_c.proofs.element_room.ElementCounts.enter.Goals as goal

pub returns-then-index-room : goal.returns-then-index-room
returns-then-index-room c = record {
  holds = λ room l place few h.
      enter_at c.args.kind c.args.at (element_room c.args.elements.now c.args.self.now) _ room l (omega arith) place h (search rules) (search rules) (omega arith) (omega arith) refl;
}

pub returns-else-index-room : goal.returns-else-index-room
returns-else-index-room c = record {
  holds = λ room l place few h. enter_out c.args.kind c.args.at (element_room c.args.elements.now c.args.self.now) _ room l h (search rules) refl refl (omega (arith, h.count, few)) (omega (arith, h.few, few));
}
