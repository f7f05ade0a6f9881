-- What climbing by powers knows of an expression, as long as no message was reported.
-- (What calls promise one another; no promise of the library rests on it.)
use Rattle.std.specs.Prelude.{◌≡◌, ◌≢◌, ℕ, ◌≤◌, ◌<◌, Bool, false}
use Rattle.rap_base.specs.NodeKind.{BIN_EXPR}
use Rattle.rap_events.specs.Forest.{Forest}
use Rattle.rap_events.specs.Power.{power, operator, open_ended}
use Rattle.rap_events.specs.State.{State, last_children}
use Rattle.rap_grammar_scripts.specs.Operator.{operator_at}

-- The last node, of this kind, has at least this power if it is a binary expression. No operator of that power follows,
-- unless the expression ends in the dots of a range, or may have stopped as a statement's block.
pub record Climbed (s : State) (kind : ℕ) (bp : ℕ) (prefer_stmt : Bool) : Type 0 where
  pub least : s.messages ≡ 0 → kind ≡ BIN_EXPR → bp ≤ power (operator (last_children s.forest))
  pub follows : s.messages ≡ 0 → prefer_stmt ≡ false → open_ended (last_children s.forest) ≡ false →
      power (operator_at s.rest) < bp

-- a node of this kind over these children may stand on the left of an operator of this power
abbrev pub LeftFits : ℕ → Forest → ℕ → Type 0
LeftFits kind children bp =
    kind ≡ BIN_EXPR → open_ended children ≡ false → (bp ≤ power (operator children)) × (power (operator children) ≢ 1)

-- The last node is a binary expression of this power. What follows binds no tighter, and after an assignment not at
-- all, unless the expression ends in the dots of a range.
pub record Bound (s : State) (bp : ℕ) : Type 0 where
  pub power_is : power (operator (last_children s.forest)) ≡ bp
  pub follows : open_ended (last_children s.forest) ≡ false → power (operator_at s.rest) ≤ bp
  pub not_twice : open_ended (last_children s.forest) ≡ false → bp ≡ 1 → power (operator_at s.rest) ≡ 0
