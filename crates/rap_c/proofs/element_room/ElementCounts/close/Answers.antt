use Rattle.std.proofs.Common.{refl, rules, arith}
use Rattle.rap_c.specs.Lays.{element_room}
use Rattle.rap_c.proofs.Cells.{exit_at, exit_out, numbered}
use Rattle.rap_c.proofs.element_room.ElementCounts.close.Goals as goal

pub returns-then-index-room : goal.returns-then-index-room
returns-then-index-room c = λ none. record {
  holds = λ room l place few h. exit_at c.args.at (element_room c.args.elements.now c.args.self.now) _ (numbered 0 0 0 0 0) room l (omega arith) place h none (search rules) (search rules) refl refl refl;
}

pub returns-else-index-room : goal.returns-else-index-room
returns-else-index-room c = λ none. record {
  holds = λ room l place few h. exit_out (element_room c.args.elements.now c.args.self.now) _ room l h none (search rules) refl refl refl refl;
}
