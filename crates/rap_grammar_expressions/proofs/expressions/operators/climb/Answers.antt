use Rattle.std.proofs.Common.{rules, arith, refl, ◌≡◌, ◌≢◌, ◌<◌}
use Rattle.rap_base.specs.TokenKind.{AS_KW}
use Rattle.rap_events.specs.State.{state}
use Rattle.rap_grammar_scripts.specs.Operators.{climb}
use Rattle.rap_grammar_scripts.specs.Operator.{operator_at}
use Rattle.rap_grammar_frame.proofs.Operating.{stops_low, goes_as, stops_range, goes_range, goes_binary}
use Rattle.rap_grammar_frame.proofs.Steps.{turn, last_turn}
use Rattle.rap_grammar_expressions.proofs.expressions.operators.climb.Goals as goal

pub returns-then-op_bp-bp-clause-script : goal.returns-then-op_bp-bp-clause-script
unfolding climb
returns-then-op_bp-bp-clause-script g c =
    last_turn c.operators.invariant.script
    (stops_low c.args.r c.args.bp c.current_op-op_bp.ensures.power c.if-op_bp-bp.true) refl

pub operators-preserved-then-eq : goal.operators-preserved-then-eq
operators-preserved-then-eq g c =
    let e = c.current_op-op_bp.ensures in
    let some : 0 < c.current_op-op_bp.result.0 = omega (arith, c.if-op_bp-bp.false, c.requires.power) in
    let cast : operator_at (state c.operators.p).rest ≡ AS_KW = search rules in
    record {
      left = search rules;
      last = search rules;
      one = search rules;
      least = search rules;
      bound = search rules;
      script =
          turn c.operators.invariant.script
          (goes_as c.args.r c.args.bp e.power some c.if-op_bp-bp.false cast c.in_ok-lhs.ensures.script) (search rules);
    }

pub returns-then-not-has_end-clause-script : goal.returns-then-not-has_end-clause-script
unfolding climb
returns-then-not-has_end-clause-script g c =
    let e = c.current_op-op_bp.ensures in
    let some : 0 < c.current_op-op_bp.result.0 = omega (arith, c.if-op_bp-bp.false, c.requires.power) in
    let no_cast : operator_at (state c.operators.p).rest ≢ AS_KW = search rules in
    (last_turn c.operators.invariant.script
    (stops_range c.args.r c.args.bp e.power some c.if-op_bp-bp.false no_cast c.if-op_bp-eq2.true
    (rw (e.op some) at c.in_ok-range.ensures.script) c.if-not-has_end.true) refl)

pub operators-preserved-then-op_bp-eq2 : goal.operators-preserved-then-op_bp-eq2
operators-preserved-then-op_bp-eq2 g c =
    let e = c.current_op-op_bp.ensures in
    let some : 0 < c.current_op-op_bp.result.0 = omega (arith, c.if-op_bp-bp.false, c.requires.power) in
    let no_cast : operator_at (state c.operators.p).rest ≢ AS_KW = search rules in
    record {
      left = search rules;
      last = search rules;
      one = search rules;
      least = search rules;
      bound = search rules;
      script =
          turn c.operators.invariant.script
          (goes_range c.args.r c.args.bp e.power some c.if-op_bp-bp.false no_cast c.if-op_bp-eq2.true
          (rw (e.op some) at c.in_ok-range.ensures.script) c.if-not-has_end.false) (search rules);
    }

pub bin_expr-requires-clause-left_side : goal.bin_expr-requires-clause-left_side
bin_expr-requires-clause-left_side g c = λ m k o.
    let e = c.current_op-op_bp.ensures in
    let some : 0 < c.current_op-op_bp.result.0 = omega (arith, c.if-op_bp-bp.false, c.requires.power) in
    let no_cast : operator_at (state c.operators.p).rest ≢ AS_KW = search rules in
    let b = c.operators.invariant.bound m k in
    (omega (arith, e.power, b.follows o), λ i. let z = b.not_twice o i in absurd (omega (arith, e.power)))

pub operators-preserved : goal.operators-preserved
operators-preserved g c =
    let e = c.current_op-op_bp.ensures in
    let some : 0 < c.current_op-op_bp.result.0 = omega (arith, c.if-op_bp-bp.false, c.requires.power) in
    let no_cast : operator_at (state c.operators.p).rest ≢ AS_KW = search rules in
    record {
      left = search rules;
      last = search rules;
      one = search rules;
      least = search rules;
      bound = search rules;
      script =
          turn c.operators.invariant.script
          (goes_binary c.args.r c.args.bp e.power some c.if-op_bp-bp.false no_cast c.if-op_bp-eq2.false
          (rw (e.op some) at c.in_ok-lhs-2.ensures.script)) (search rules);
    }
