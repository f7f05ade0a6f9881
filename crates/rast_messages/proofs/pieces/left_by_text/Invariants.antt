use Rattle.std.proofs.Common.{◌≡◌, ◌+◌, drop, length}
use Rattle.json.specs.Print.{escape}
use Rattle.rast_messages.proofs.pieces.left_by_text.Given as goal

abbrev pub invariant-loop-byte : goal.invariant-loop-byte
invariant-loop-byte l =
    l.left + length (escape l.text) + length (drop l.byte-index l.text) ≡ l.bytes + length (escape (drop l.byte-index l.text))
