use Rattle.std.proofs.Common.{sym, ◌∙◌}
use Rattle.syntax_tree.proofs.Collected.{node_of_text, row_of_text, text_tree, same_after_errors, more_after_errors}
use Rattle.syntax_tree.proofs.tree.Tree.of_text.Goals as goal

pub only_node-root-requires : goal.only_node-root-requires
only_node-root-requires c =
    let one = node_of_text c.args.text.now c.args.edition c.args.entry c.in_ok-parsed.parsed.lexed c.in_ok-parsed.parsed.whole c.new-collector.result c.parse_text.new.sink c.new-collector.ensures.tree c.in_ok-parsed.ensures.parsed in
    let same = same_after_errors c.in_ok-parsed.parsed.lexed.tokens c.in_ok-parsed.parsed.lexed.errors c.parse_text.new.sink c.report_errors.new.sink c.in-Ok.ensures in
    (one.0, c.into_children.ensures ∙ (same ∙ one.1))

pub all_placed-requires : goal.all_placed-requires
all_placed-requires c =
    let same = same_after_errors c.in_ok-parsed.parsed.lexed.tokens c.in_ok-parsed.parsed.lexed.errors c.parse_text.new.sink c.report_errors.new.sink c.in-Ok.ensures in
    let r =
    row_of_text c.args.text.now c.args.edition c.args.entry c.in_ok-parsed.parsed.lexed c.in_ok-parsed.parsed.whole c.new-collector.result c.parse_text.new.sink c.only_node-root.result
    c.new-collector.ensures.tree c.in_ok-parsed.ensures.parsed
    (sym same ∙ (sym c.into_children.ensures ∙ c.only_node-root.ensures))
    in record { row = r.0; begins = r.1 }

pub returns-in-Ok-all_placed-clause-tree : goal.returns-in-Ok-all_placed-clause-tree
returns-in-Ok-all_placed-clause-tree c =
    let same = same_after_errors c.in_ok-parsed.parsed.lexed.tokens c.in_ok-parsed.parsed.lexed.errors c.parse_text.new.sink c.report_errors.new.sink c.in-Ok.ensures in
    text_tree c.args.text.now c.args.edition c.args.entry c.in_ok-parsed.parsed.lexed c.in_ok-parsed.parsed.whole c.new-collector.result c.parse_text.new.sink c.only_node-root.result c.report_errors.new.sink.reports.items _
    c.new-collector.ensures.tree c.new-collector.ensures.reports c.in_ok-parsed.ensures.parsed
    (sym same ∙ (sym c.into_children.ensures ∙ c.only_node-root.ensures))
    (more_after_errors c.in_ok-parsed.parsed.lexed.tokens c.in_ok-parsed.parsed.lexed.errors c.parse_text.new.sink c.report_errors.new.sink c.in-Ok.ensures) c.in-Ok-all_placed.ensures
