use Rattle.std.proofs.Common.{◌≡◌, ◌+◌}
use Rattle.rap_events.specs.State.{state}
use Rattle.rap_grammar.specs.Top.{with_leaves}
use Rattle.rap_grammar.proofs.entry.take_rest.Given as goal

abbrev pub invariant-tokens : goal.invariant-tokens
invariant-tokens l = record {
  forest : with_leaves (state l.p).forest (state l.p).rest ≡ with_leaves (state l.fn.p).forest (state l.fn.p).rest;
  count : (state l.p).count + (state l.p).left ≡ (state l.fn.p).count + (state l.fn.p).left;
  input : (state l.p).input ≡ (state l.fn.p).input;
  messages : (state l.p).messages ≡ (state l.fn.p).messages;
  marker : (state l.p).marker ≡ (state l.fn.p).marker;
  below : (state l.p).below ≡ (state l.fn.p).below;
}

abbrev pub decreases-tokens : goal.decreases-tokens
decreases-tokens l = (state l.p).left
