use Rattle.std.proofs.Common.{◌≡◌, Bool, true, false, ◌&&◌, ◌==◌, sym, ap, ◌∙◌, length, ◌≤◌, arith}
use Rattle.std.proofs.lemmas.Bool.{not-true, not-false}
use Rattle.rap_events.specs.Record.{kind_at, joint_at}
use Rattle.rap_events.proofs.Composites.{touches_next-drop, joint_at-past}
use Rattle.rap_events.proofs.Truth.{and_false}
use Rattle.rap_events.proofs.parser.composite.touching.Goals as goal

pub returns-then-ne-clause-touches : goal.returns-then-ne-clause-touches
returns-then-ne-clause-touches c =
    let input = c.args.input.now in
    let joint : Bool = joint_at input c.args.place in
    let other : (kind_at input c.args.place == c.args.kind) ≡ false = rw (← c.requires) (not-true _ (sym c.ne.ensures ∙ c.if-ne.true)) in
    sym (touches_next-drop input c.args.place c.args.kind ∙ ap (λ (b : Bool). b && joint) other)

pub returns-then-place-len-clause-touches : goal.returns-then-place-len-clause-touches
returns-then-place-len-clause-touches c =
    let input = c.args.input.now in
    let here : Bool = kind_at input c.args.place == c.args.kind in
    let past : length input ≤ c.args.place = omega (arith, c.len.ensures.len) in
    sym (touches_next-drop input c.args.place c.args.kind ∙ ap (λ (b : Bool). here && b) (joint_at-past input c.args.place past) ∙ and_false here)

pub returns-clause-touches : goal.returns-clause-touches
returns-clause-touches c =
    let input = c.args.input.now in
    let joint : Bool = joint_at input c.args.place in
    let here : (kind_at input c.args.place == c.args.kind) ≡ true = rw (← c.requires) (not-false _ (sym c.ne.ensures ∙ c.if-ne.false)) in
    c.is_joint.ensures ∙ sym (touches_next-drop input c.args.place c.args.kind ∙ ap (λ (b : Bool). b && joint) here)
