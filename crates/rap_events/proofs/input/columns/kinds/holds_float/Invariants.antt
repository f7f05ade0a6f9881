use Rattle.std.proofs.Common.{◌≢◌, ◌↔◌, All, IsFalse, take}
use Rattle.rap_base.specs.TokenKind.{FLOAT_NUMBER}
use Rattle.rap_events.proofs.input.columns.kinds.holds_float.Given as goal

abbrev pub invariant-loop-kind : goal.invariant-loop-kind
invariant-loop-kind l = IsFalse l.found ↔ All (λ kind. kind ≢ FLOAT_NUMBER) (take l.kind-index l.kinds)
