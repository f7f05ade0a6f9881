use Rattle.std.proofs.Common.{ap, refl, ◌∙◌, append-nil, arith}
use Rattle.syntax_tree.proofs.Weights.{weight, outer_weight, outer_weight-le, weight-leaf, weight-node, outer_weight-leaf, outer_weight-node}
use Rattle.syntax_tree.specs.Children.{children_of}
use Rattle.syntax_tree.proofs.node.discard.Goals as goal

pub loop-node-smaller-in-Some-Leaf : goal.loop-node-smaller-in-Some-Leaf
loop-node-smaller-in-Some-Leaf c =
    let e = weight-leaf c.pop.new.self.items c.loop-node.list.items c.in-Some-Leaf.field-0 c.in-Some-Leaf.field-0-0 c.in-Some-Leaf.field-0-1 c.in-Some-Leaf.ensures.items c.in-Some-Leaf.field-0-is in
    omega (arith, e)

pub loop-node-smaller-in-Some-Node : goal.loop-node-smaller-in-Some-Node
loop-node-smaller-in-Some-Node c =
    let e = weight-node c.pop.new.self.items c.loop-node.list.items c.in-Some-Node.field-0 c.in-Some-Node.node c.in-Some-Node.ensures.items c.in-Some-Node.field-0-is in
    let o = outer_weight-node c.pop.new.self.items c.push_reserved.new.self.items _ c.holding.result c.push_reserved.ensures.items refl in
    let made = ap outer_weight c.holding.ensures in
    let inner = ap weight c.into_children-inner.ensures in
    omega (arith, e, o, made, inner)

pub loop-node-smaller-in-Some-Leaf-pop : goal.loop-node-smaller-in-Some-Leaf-pop
loop-node-smaller-in-Some-Leaf-pop c =
    let e = outer_weight-leaf c.pop-in-None.new.self.items c.loop-node.outer.items c.in-Some-Leaf-pop.field-0 c.in-Some-Leaf-pop.field-0-0 c.in-Some-Leaf-pop.field-0-1 c.in-Some-Leaf-pop.ensures.items c.in-Some-Leaf-pop.field-0-is in
    let less = outer_weight-le (children_of c.pop-in-None.new.self.items) in
    let same = ap (λ l. weight (children_of l)) (c.in-None.ensures.items ∙ append-nil c.pop.new.self.items) in
    omega (arith, e, less, same)

pub loop-node-smaller : goal.loop-node-smaller
loop-node-smaller c =
    let e = outer_weight-node c.pop-in-None.new.self.items c.loop-node.outer.items c.in-Some-Node-pop.field-0 c.in-Some-Node-pop.node c.in-Some-Node-pop.ensures.items c.in-Some-Node-pop.field-0-is in
    let inner = ap outer_weight c.into_children-outer.ensures in
    omega (arith, e, inner)
