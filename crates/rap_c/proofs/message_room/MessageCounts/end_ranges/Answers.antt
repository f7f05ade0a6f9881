use Rattle.std.proofs.Common.{arith}
use Rattle.rap_c.specs.Lays.{message_room}
use Rattle.rap_c.proofs.Noted.{all_ended}
use Rattle.rap_c.proofs.message_room.MessageCounts.end_ranges.Goals as goal

pub returns-then-self : goal.returns-then-self
returns-then-self c = λ bytes. all_ended c.args.end (message_room c.args.messages.now bytes c.args.self.now) (omega arith)
