-- What an expression's first part is, or that it is none: a token was taken. And the node that it becomes under the
-- expression's marker.
use Rattle.std.proofs.Common.{◌≡◌, ◌<◌, ℕ, Option, Some, None, sym, ◌∙◌, subst, arith}
use Rattle.std.specs.Prelude.{IfSome}
use Rattle.rap_events.specs.State.{State, state, Extended, IsLast, but_last}
use Rattle.rap_events.specs.declared.parser.CompletedMarker.{CompletedMarker}
use Rattle.rap_events.specs.declared.parser.Parser.{Parser}
use Rattle.rap_grammar_scripts.specs.Exec.{Does}
use Rattle.rap_grammar_scripts.specs.Expressions.{lhs}
use Rattle.rap_grammar_scripts.specs.Words.{of_expr}
use Rattle.rap_grammar_scripts.specs.declared.arguments.BlockLike.{BlockLike}
use Rattle.rap_grammar_scripts.specs.declared.arguments.Restrictions.{Restrictions}
use Rattle.rap_grammar_frame.specs.Grew.{Grew, Took, Closed}
use Rattle.rap_grammar_frame.specs.Room.{operand_room, marked_room}
use Rattle.rap_grammar_facts.specs.Nodes.{IsOperand, AtomIf}
use Rattle.rap_grammar_facts.proofs.Expressions.{took_lhs}

pub atom_if : (s t : State) (o : Option (CompletedMarker × BlockLike)) → IfSome o (λ e. IsOperand t e.0) →
    t.left < s.left → AtomIf s t o
atom_if s t (Some e) h l = record {
  last = h.last;
  plain = h.plain;
  less = l;
}
atom_if s t None h l = l

less_left : (s t : State) (o : Option (CompletedMarker × BlockLike)) → AtomIf s t o → t.left < s.left
less_left s t (Some e) a = a.less
less_left s t None a = a

pub taken : {n : ℕ} (r : Restrictions) (o : Option (CompletedMarker × BlockLike)) (p q : Parser) →
    Does n (lhs r) (of_expr o) (state p) (state q) → AtomIf (state p) (state q) o →
    Took (state p) (state q) operand_room
taken r o p q d a = took_lhs r p q d (less_left (state p) (state q) o a)

-- with what stands before it under the marker
pub extended : (s t u : State) (cm : CompletedMarker) (k : ℕ) → Took s t operand_room → Extended t u k → IsLast u cm k →
    Closed s u cm marked_room
extended s t u cm k a e l =
    record {
      input = e.recorded.input ∙ a.input;
      left = omega (arith, a.left, e.recorded.left);
      count = omega (arith, a.left, a.count, e.recorded.left, e.recorded.count);
      messages = omega (arith, a.messages, e.recorded.messages);
      last = subst (λ (j : ℕ). IsLast u cm j) (sym l.kind) l;
      below = sym a.below ∙ e.below;
    }

-- and the operators after it
pub operated : (s t u v : State) (cm : CompletedMarker) (k : ℕ) → Took s t operand_room → Extended t u k → Grew u v 0 →
    IsLast v cm cm.kind.value → but_last v.forest ≡ but_last u.forest → Closed s v cm marked_room
operated s t u v cm k a e g l one =
    record {
      input = g.input ∙ e.recorded.input ∙ a.input;
      left = omega (arith, a.left, e.recorded.left, g.left);
      count = omega (arith, a.left, a.count, e.recorded.left, e.recorded.count, g.left, g.count);
      messages = omega (arith, a.messages, e.recorded.messages, g.messages);
      last = l;
      below = rw (g.below, g.marker, one) (sym a.below ∙ e.below);
    }
