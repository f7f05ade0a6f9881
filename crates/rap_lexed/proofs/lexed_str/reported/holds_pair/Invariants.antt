use Rattle.std.proofs.Common.{◌≡◌, ◌&&◌, ◌||◌, drop}
use Rattle.rap_lexer.specs.Run.{next_is}
use Rattle.rap_lexed.specs.Reported.{holds_pair}
use Rattle.rap_lexed.proofs.lexed_str.reported.holds_pair.Given as goal

abbrev pub invariant-loop-next : goal.invariant-loop-next
invariant-loop-next l =
    ((l.after_first && next_is l.second (drop l.next-index l.text)) || holds_pair l.first l.second (drop l.next-index l.text)) ≡ holds_pair l.first l.second l.text
