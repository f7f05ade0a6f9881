use Rattle.std.proofs.Common.{ap, ◌∙◌, arith, string_bytes}
use Rattle.rast_answers.specs.Jumps.{is_body, label_in}
use Rattle.rast_answers.specs.Kinds.{after_at}
use Rattle.rast_answers.specs.Reaches.{stops_label, stops_loop}
use Rattle.rast_answers.proofs.ReachLaws.{reach_grown}
use Rattle.rast_answers.proofs.about.reach_past.Goals as goal

pub returns : goal.returns
returns c =
    let after = after_at c.args.elements.now in
    let labelled = stops_label (string_bytes c.args.document.now.text) c.args.elements.now in
    let label = c.stops_label-ends_label.ensures ∙ ap (λ o. labelled o c.args.index) c.requires.label in
    record {
      bodies = reach_grown after (is_body c.args.elements.now) c.args.node c.args.index _ _ _ _ (omega (arith, c.if-index-node.false))
          c.requires.reach.bodies c.after_at-after.ensures.value c.is_body-body.ensures c.reach_with.ensures;
      loops = reach_grown after (stops_loop c.args.elements.now) c.args.node c.args.index _ _ _ _ (omega (arith, c.if-index-node.false))
          c.requires.reach.loops c.after_at-after.ensures.value c.stops_loop-ends_loop.ensures c.reach_with-2.ensures;
      labels = reach_grown after (labelled (label_in c.args.elements.now c.args.node)) c.args.node c.args.index _ _ _ _
          (omega (arith, c.if-index-node.false)) c.requires.reach.labels c.after_at-after.ensures.value label c.reach_with-3.ensures;
    }
