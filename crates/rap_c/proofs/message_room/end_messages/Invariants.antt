use Rattle.std.proofs.Common.{◌≡◌, ◌-◌}
use Rattle.rap_c.specs.Lays.{ends_at}
use Rattle.rap_c.proofs.message_room.end_messages.Given as goal

abbrev pub invariant-messages : goal.invariant-messages
invariant-messages l = ends_at l.i (l.limit - l.i) l.end l.messages ≡ ends_at l.first (l.limit - l.first) l.end l.fn.messages
