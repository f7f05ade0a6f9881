use Rattle.std.proofs.Common.{◌≡◌, ◌+◌, ◌-◌, take, drop}
use Rattle.rap_lexed.specs.Attached.{item_tail_len}
use Rattle.rap_lexed.specs.Trivia.{past_trivia}
use Rattle.rap_lexed.proofs.shortcuts.attached.tail_begin.Given as goal

abbrev pub invariant-loop-i : goal.invariant-loop-i
invariant-loop-i l = record {
  begun : l.first + item_tail_len (take (l.i - l.start) (drop l.start l.lexed.tokens)) ≡ l.i;
  past : past_trivia l.lexed.tokens l.i ≡ past_trivia l.lexed.tokens l.start;
}
