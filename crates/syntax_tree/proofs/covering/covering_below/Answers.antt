use Rattle.std.proofs.Common.{◌≤◌, ◌<◌, Some, ap, sym, ◌∙◌, arith}
use Rattle.std.specs.Option.{option_or}
use Rattle.syntax_tree.specs.ChildEnds.{child_end}
use Rattle.syntax_tree.specs.Elements.{node_element, leaf_element}
use Rattle.syntax_tree.proofs.ChildRows.{follow, ends_rise}
use Rattle.syntax_tree.proofs.Covers.{at_node, at_leaf, at_short, at_none, reached_smaller}
use Rattle.syntax_tree.proofs.covering.covering_below.Goals as goal

pub child_reaching-requires : goal.child_reaching-requires
child_reaching-requires c =
    let n = c.down.node.now in
    ends_rise c.children.result.now n.start n.end (follow c.children.result.now n.children n.start n.end c.children.ensures c.down.invariant.row)

pub down-smaller : goal.down-smaller
down-smaller c =
    reached_smaller c.children.result.now c.down.node.now.children c.args.start c.in-Node.inner c.children.ensures
    (sym c.in-Some.ensures ∙ ap Some c.in-Node.is)

pub down-preserved : goal.down-preserved
down-preserved c =
    let n = c.down.node.now in
    let long : c.args.end ≤ c.in-Node.inner.end = omega (arith, c.if-end_of-end.false, c.end_of.ensures, ap child_end c.in-Node.is) in
    let found =
    at_node c.children.result.now n.children n.start n.end c.args.start c.args.end c.in-Node.inner (node_element n) c.children.ensures c.down.invariant.row c.down.invariant.begins
    (sym c.in-Some.ensures ∙ ap Some c.in-Node.is) long
    in record { row = found.1; begins = found.2; ends = long; same = c.down.invariant.same ∙ found.0 }

pub returns-in_default : goal.returns-in_default
returns-in_default c =
    let n = c.down.node.now in
    let none = at_none c.children.result.now n.children n.start n.end c.args.start c.args.end c.children.ensures c.down.invariant.row c.down.invariant.begins (sym c.in_default.ensures) in
    sym (c.down.invariant.same ∙ ap (λ o. option_or o (Some (node_element n))) none)

pub returns-then-end_of-end : goal.returns-then-end_of-end
returns-then-end_of-end c =
    let n = c.down.node.now in
    let short : child_end c.in-Some.child.now < c.args.end = omega (arith, c.if-end_of-end.true, c.end_of.ensures) in
    let none = at_short c.children.result.now n.children n.start n.end c.args.start c.args.end c.in-Some.child.now c.children.ensures c.down.invariant.row c.down.invariant.begins (sym c.in-Some.ensures) short in
    sym (c.down.invariant.same ∙ ap (λ o. option_or o (Some (node_element n))) none)

pub returns-in-Leaf : goal.returns-in-Leaf
returns-in-Leaf c =
    let n = c.down.node.now in
    let long : c.args.end ≤ c.in-Leaf.range.end = omega (arith, c.if-end_of-end.false, c.end_of.ensures, ap child_end c.in-Leaf.is) in
    let found =
    at_leaf c.children.result.now n.children n.start n.end c.args.start c.args.end c.in-Leaf.kind c.in-Leaf.range (node_element n) c.children.ensures c.down.invariant.row c.down.invariant.begins
    (sym c.in-Some.ensures ∙ ap Some c.in-Leaf.is) long
    in ap (λ l. Some (leaf_element l)) c.new.ensures ∙ sym (c.down.invariant.same ∙ found)
