use Rattle.std.proofs.Common.{Some, ap, sym, ◌∙◌}
use Rattle.syntax_tree.specs.ChildEnds.{ends_after}
use Rattle.syntax_tree.proofs.ChildRows.{follow, ends_rise, child_smaller, at_leaf, at_node, at_none}
use Rattle.syntax_tree.proofs.leaf_at.leaf_below.Goals as goal

pub child_after-requires : goal.child_after-requires
child_after-requires c =
    let n = c.down.node.now in
    ends_rise c.children.result.now n.start n.end (follow c.children.result.now n.children n.start n.end c.children.ensures c.down.invariant.row)

pub down-smaller : goal.down-smaller
down-smaller c =
    child_smaller c.children.result.now c.down.node.now.children (ends_after c.args.offset) c.in-Some-Node.inner c.children.ensures
    (sym c.in-Some-Node.ensures ∙ ap Some c.in-Some-Node.field-0-is)

pub down-preserved : goal.down-preserved
down-preserved c =
    let n = c.down.node.now in
    let found =
    at_node c.children.result.now n.children n.start n.end c.args.offset c.in-Some-Node.inner c.children.ensures c.down.invariant.row c.down.invariant.begins
    (sym c.in-Some-Node.ensures ∙ ap Some c.in-Some-Node.field-0-is)
    in record { row = found.1; begins = found.2; same = c.down.invariant.same ∙ found.0 }

pub returns-in-Some-Leaf : goal.returns-in-Some-Leaf
returns-in-Some-Leaf c =
    let n = c.down.node.now in
    let found =
    at_leaf c.children.result.now n.children n.start n.end c.args.offset c.in-Some-Leaf.kind c.in-Some-Leaf.range c.children.ensures c.down.invariant.row c.down.invariant.begins
    (sym c.in-Some-Leaf.ensures ∙ ap Some c.in-Some-Leaf.field-0-is)
    in ap Some c.new.ensures ∙ sym (c.down.invariant.same ∙ found)

pub returns-in-None : goal.returns-in-None
returns-in-None c =
    let n = c.down.node.now in
    let found = at_none c.children.result.now n.children n.start n.end c.args.offset c.children.ensures c.down.invariant.row c.down.invariant.begins (sym c.in-None.ensures) in
    sym (c.down.invariant.same ∙ found)
