use Rattle.std.proofs.Common.{string_bytes}
use Rattle.rast_messages.proofs.Escapes.{IsEscapedTo}
use Rattle.rast_messages.proofs.pieces.push_escaped.Given as goal

abbrev pub invariant-loop-at : goal.invariant-loop-at
invariant-loop-at l = IsEscapedTo (string_bytes l.json) (string_bytes l.fn.json) l.text l.from l.at
