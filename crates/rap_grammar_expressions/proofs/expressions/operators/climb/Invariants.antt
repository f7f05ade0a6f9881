use Rattle.std.proofs.Common.{◌≡◌, ◌≤◌, false}
use Rattle.rap_base.specs.NodeKind.{BIN_EXPR}
use Rattle.rap_events.specs.State.{state, IsLast, but_last, last_children}
use Rattle.rap_events.specs.Power.{power, operator}
use Rattle.rap_grammar_frame.specs.Climb.{Bound}
use Rattle.rap_grammar_scripts.specs.Operators.{climb_turn}
use Rattle.rap_grammar_frame.proofs.Steps.{Turns}
use Rattle.rap_grammar_expressions.proofs.expressions.operators.climb.Given as goal

abbrev pub invariant-operators : goal.invariant-operators
invariant-operators g l = record {
  left : (state l.p).left ≤ (state l.fn.p).left;
  last : IsLast (state l.p) l.lhs l.lhs.kind.value;
  one : but_last (state l.p).forest ≡ but_last (state l.fn.p).forest;
  least : (state l.p).messages ≡ 0 → l.lhs.kind.value ≡ BIN_EXPR →
      l.bp ≤ power (operator (last_children (state l.p).forest));
  bound : (state l.p).messages ≡ 0 → l.lhs.kind.value ≡ BIN_EXPR →
      Bound (state l.p) (power (operator (last_children (state l.p).forest)));
  script : Turns (g.G.Grammar.left l.g) (climb_turn l.r l.bp) false false false false l.fn.p l.p;
}

abbrev pub decreases-operators : goal.decreases-operators
decreases-operators g l = (state l.p).left
