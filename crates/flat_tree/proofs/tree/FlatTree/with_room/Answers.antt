use Rattle.std.proofs.Common.{◌∙◌}
use Rattle.rap_lexed.specs.Trivia.{with_trivia}
use Rattle.ra_ap_parser.proofs.Parsed.{headed}
use Rattle.rap_ranged.proofs.Seats.{tree_seated}
use Rattle.flat_tree.specs.Collects.{Collects}
use Rattle.flat_tree.proofs.Collected.{errors_along, headed_by, text_order, text_tree}
use Rattle.flat_tree.proofs.tree.FlatTree.with_room.Goals as goal

pub returns-in-Ok-all_messages-clause-tree : goal.returns-in-Ok-all_messages-clause-tree
returns-in-Ok-all_messages-clause-tree c =
    let lexed = c.in_ok-parsed.parsed.lexed in
    let head =
    headed_by c.args.text.now c.args.edition c.args.entry lexed c.in_ok-parsed.parsed.output c.in-Ok._whole c.with_hint-collector.result c.intersperse_trivia.new.sink
    c.in_ok-parsed.ensures.parsed c.in-Ok.ensures.steps c.in-Ok.ensures.answer c.in-Ok.ensures.whole in
    text_tree c.args.text.now c.args.edition c.args.entry lexed c.in-Ok._whole c.with_hint-collector.result c.intersperse_trivia.new.sink _ c.report_errors.new.sink.reports.items _
    c.with_hint-collector.ensures.tree c.with_hint-collector.ensures.reports head
    c.into_elements-elements.ensures
    (errors_along lexed.tokens lexed.errors c.with_hint-of_lexer.result c.report_errors.new.sink c.with_hint-of_lexer.ensures.reports c.in-Ok-report_errors.ensures)
    (λ root r is. c.in-Ok-all_messages.ensures (with_trivia lexed.tokens head.forest) root r (c.as_slice.ensures.value ∙ is))
    (tree_seated lexed.tokens c.in_ok-parsed.parsed.output c.in_ok-parsed.ensures.parsed.one c.of.ensures c.intersperse_trivia.ensures.touching)

pub invariant_of-result : goal.invariant_of-result
invariant_of-result c =
    let lexed = c.in_ok-parsed.parsed.lexed in
    let o =
    text_order c.args.text.now c.args.edition c.args.entry lexed c.in-Ok._whole c.with_hint-collector.result c.intersperse_trivia.new.sink c.into_elements-elements.result.items
    c.with_hint-collector.ensures.tree
    (headed Collects c.args.text.now c.args.edition c.args.entry lexed c.in_ok-parsed.parsed.output c.in-Ok._whole c.with_hint-collector.result c.intersperse_trivia.new.sink
    c.in_ok-parsed.ensures.parsed c.in-Ok.ensures.steps c.in-Ok.ensures.answer c.in-Ok.ensures.whole)
    c.into_elements-elements.ensures
    in record { parents = o.parents; forward = o.forward; within = o.within }
