use Rattle.std.proofs.Common.{◌≡◌, ◌++◌, string_bytes, drop}
use Rattle.rast.specs.Pending.{message_lines}
use Rattle.rast.proofs.ranges.push_messages.Given as goal

abbrev pub invariant-messages : goal.invariant-messages
invariant-messages l = string_bytes l.lines ++ message_lines (drop l.message-index l.messages) ≡ string_bytes l.fn.lines ++ message_lines l.messages
