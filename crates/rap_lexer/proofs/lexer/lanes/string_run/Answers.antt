use Rattle.std.proofs.Common.{◌≡◌, length, drop, ap, ◌∙◌, arith}
use Rattle.std.proofs.lemmas.List.{take_rest}
use Rattle.rap_lexer.specs.Class.{is_in}
use Rattle.rap_lexer.specs.Run.{run_of}
use Rattle.rap_lexer.specs.declared.lexer.run.Class.TheVariants.{InString}
use Rattle.rap_lexer.proofs.Lanes.{lane_hit, lane_miss}
use Rattle.rap_lexer.proofs.Runs.{run_within}
use Rattle.rap_lexer.proofs.lexer.lanes.string_run.Goals as goal

pub returns-then-others-ne0 : goal.returns-then-others-ne0
returns-then-others-ne0 c =
    let low = c.lowest.ensures in
    omega (arith, c.lanes.invariant.same, lane_hit (is_in InString) c.args.bytes.now c.lanes.n c.not_string-others.result (omega arith) c.not_string-others.ensures c.lowest.result low.set low.below, run_within (is_in InString) c.args.bytes.now)

pub lanes-preserved : goal.lanes-preserved
lanes-preserved c =
    let more = lane_miss (is_in InString) c.args.bytes.now c.lanes.n c.not_string-others.result (omega arith) c.not_string-others.ensures c.if-others-ne0.false in
    record { within = omega arith; same = omega (arith, c.lanes.invariant.same, more) }

pub returns : goal.returns
returns c =
    let rest : c.any_run.result ≡ length (run_of (is_in InString) (drop c.lanes.n c.args.bytes.now)) = c.any_run.ensures.run ∙ ap (λ l. length (run_of (is_in InString) l)) (take_rest c.args.bytes.now c.lanes.n) in
    omega (arith, c.lanes.invariant.same, rest, run_within (is_in InString) c.args.bytes.now)
