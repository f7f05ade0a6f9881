use Rattle.std.proofs.Common.{◌≡◌, drop}
use Rattle.rap_lexed.specs.Reported.{holds}
use Rattle.rap_lexed.proofs.lexed_str.reported.holds.Given as goal

abbrev pub invariant-loop-next : goal.invariant-loop-next
invariant-loop-next l = holds l.byte (drop l.next-index l.text) ≡ holds l.byte l.text
