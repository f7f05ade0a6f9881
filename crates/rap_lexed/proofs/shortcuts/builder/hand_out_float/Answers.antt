use Rattle.std.proofs.Common.{ap, ◌∙◌}
use Rattle.rap_lexed.specs.Builder.{number_steps, dotted_steps}
use Rattle.rap_lexed.proofs.FloatTexts.{stripped, float_steps-dotted, split_once_text, float_steps-split}
use Rattle.rap_lexed.proofs.Handed.{hands-refused, stops-within, hands-after}
use Rattle.rap_lexed.proofs.shortcuts.builder.hand_out_float.Goals as goal

pub returns-then-ends_in_dot : goal.returns-then-ends_in_dot
returns-then-ends_in_dot g c =
    let text = c.args.text.now in
    let number = ap (λ x. x.now) c.unwrap_or.ensures ∙ stripped text c.strip_suffix.result c.args.text c.strip_suffix.ensures.cases (c.requires ∙ c.if-ends_in_dot.true) in
    rw (float_steps-dotted c.args.ends_in_dot text c.args.pos c.if-ends_in_dot.true, ← number) c.hand_out_dotted.ensures

pub returns-in_err-hand_out_dotted-in-Some : goal.returns-in_err-hand_out_dotted-in-Some
returns-in_err-hand_out_dotted-in-Some g c =
    let text = c.args.text.now in
    let parts = split_once_text text c.in-Some.left c.in-Some.right c.in-Some.ensures.cases in
    rw (float_steps-split c.args.ends_in_dot text c.args.pos c.if-ends_in_dot.false parts.dot, ← parts.left, ← parts.right)
    (hands-refused g.S.StrSink.takes g.S.StrSink.refuses _ _ _ c.from_residual.result _ c.from_residual.ensures.1
    (stops-within g.S.StrSink.takes g.S.StrSink.refuses (dotted_steps c.in-Some.left.now) (number_steps c.in-Some.right.now) _ _ _ c.in_err-hand_out_dotted-in-Some.ensures))

pub returns-in_ok-hand_out_dotted-in-Some : goal.returns-in_ok-hand_out_dotted-in-Some
returns-in_ok-hand_out_dotted-in-Some g c =
    let text = c.args.text.now in
    let parts = split_once_text text c.in-Some.left c.in-Some.right c.in-Some.ensures.cases in
    rw (float_steps-split c.args.ends_in_dot text c.args.pos c.if-ends_in_dot.false parts.dot, ← parts.left, ← parts.right)
    (hands-after g.S.StrSink.takes g.S.StrSink.refuses (dotted_steps c.in-Some.left.now) (number_steps c.in-Some.right.now) c.args.sink.now c.hand_out_dotted-in-Some.new.sink c.hand_out_number.new.sink c.hand_out_number.result c.in_ok-hand_out_dotted-in-Some.ensures c.hand_out_number.ensures)
