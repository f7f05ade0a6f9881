use Rattle.std.proofs.Common.{Some, leb, ap, sym, ◌∙◌, rules}
use Rattle.std.proofs.lemmas.List.Sorted.{IsPartitionPoint-from_clause, IsPartitionedBy-leb}
use Rattle.syntax_tree.specs.ChildEnds.{child_end}
use Rattle.syntax_tree.proofs.ChildRows.{ends_after_at, ends_after_none}
use Rattle.syntax_tree.proofs.leaf_at.child_after.Goals as goal

pub returns-then-at-children : goal.returns-then-at-children
returns-then-at-children c =
    let parted = IsPartitionedBy-leb child_end c.args.children.now c.args.offset c.requires in
    let point = IsPartitionPoint-from_clause (λ x. leb (child_end x) c.args.offset) _ _ c.partition_point-at.ensures.partitioned parted (λ a r q k. search rules) in
    ap Some c.index-children-at.is ∙ sym (ends_after_at c.args.children.now c.args.offset c.partition_point-at.result c.index-children-at.result point c.if-at-children.true)

pub returns-else-at-children : goal.returns-else-at-children
returns-else-at-children c =
    let parted = IsPartitionedBy-leb child_end c.args.children.now c.args.offset c.requires in
    let point = IsPartitionPoint-from_clause (λ x. leb (child_end x) c.args.offset) _ _ c.partition_point-at.ensures.partitioned parted (λ a r q k. search rules) in
    sym (ends_after_none c.args.children.now c.args.offset c.partition_point-at.result point c.if-at-children.false)
