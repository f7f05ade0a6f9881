use Rattle.std.proofs.Common.{◌≡◌, ◌||◌, take}
use Rattle.std.specs.List.{count_by}
use Rattle.rap_events.specs.Word.{has_byte}
use Rattle.rap_events.proofs.output.count_bytes.Given as goal

abbrev pub invariant-loop-word : goal.invariant-loop-word
invariant-loop-word l = l.count ≡ count_by (λ e. has_byte l.byte e || has_byte l.other e) (take l.word-index l.words)
