-- What an item leaves whose marker became a node.
use Rattle.std.proofs.Common.{ℕ, ◌+◌, sym, ◌∙◌, arith}
use Rattle.rap_events.specs.State.{State, Completed}
use Rattle.rap_grammar_frame.proofs.Growth.{gone}
use Rattle.rap_grammar_frame.specs.Grew.{Took, Ended}

pub ended : {s u t : State} {k room : ℕ} → Took s u (room + 1) → Completed u t k → Ended s t room
ended h d = record {
  input = d.recorded.input ∙ h.input;
  left = omega (arith, h.left, d.recorded.left);
  count = omega (arith, h.count, d.recorded.left, d.recorded.count);
  messages = omega (arith, h.messages, d.recorded.messages);
  below = gone (sym h.below ∙ d.below);
}
