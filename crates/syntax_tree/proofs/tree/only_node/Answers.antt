use Rattle.std.proofs.Common.{ap}
use Rattle.syntax_tree.specs.Children.{children_of, with_child}
use Rattle.syntax_tree.proofs.ChildLists.{children-snoc}
use Rattle.syntax_tree.proofs.tree.only_node.Goals as goal

pub unreachable-requires : goal.unreachable-requires
unreachable-requires c =
    let e = children-snoc c.pop.new.self.items c.args.children.items c.in-Some-Leaf.field-0 c.in-Some-Leaf.ensures.items in
    let is = ap (λ d. with_child (children_of c.pop.new.self.items) d) c.in-Some-Leaf.field-0-is in
    let one = c.requires.1 in
    cc

pub returns : goal.returns
returns c =
    let e = children-snoc c.pop.new.self.items c.args.children.items c.in-Some-Node.field-0 c.in-Some-Node.ensures.items in
    let is = ap (λ d. with_child (children_of c.pop.new.self.items) d) c.in-Some-Node.field-0-is in
    let one = c.requires.1 in
    cc
