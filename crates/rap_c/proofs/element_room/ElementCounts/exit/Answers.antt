use Rattle.std.proofs.Common.{refl, arith}
use Rattle.rap_c.specs.Lays.{element_room}
use Rattle.rap_c.proofs.Cells.{exit_beyond}
use Rattle.rap_c.proofs.element_room.ElementCounts.exit.Goals as goal

pub returns-then-self-gt0 : goal.returns-then-self-gt0
returns-then-self-gt0 c = record {
  holds = λ room l place few h. exit_beyond c.args.at (element_room c.args.elements.now c.args.self.now) _ room l place h (omega arith) refl refl refl (omega arith);
}

pub returns-else-self-gt0 : goal.returns-else-self-gt0
returns-else-self-gt0 c = c.close.ensures (omega arith)
