use Rattle.std.proofs.Common.{◌<◌, arith, ◌∙◌}
use Rattle.syntax_tree.proofs.Walks.{deep_node, deep_leaf}
use Rattle.syntax_tree.proofs.node.depth_of.Goals as goal
use Rattle.syntax_tree.proofs.node.depth_of.Goals.{in-Node, in-Leaf}

pub children-preserved : goal.children-preserved
children-preserved c =
    elim c.match-child.branch [
      | in-Node w ↦ λ few.
          deep_node c.args.children.now c.children.child-index c.children.most w.saturating_add.result c.match-child.most w.depth.result c.child-item.result w.in-Node.node c.children-test.true c.child-item.is w.in-Node.is
          c.children.invariant w.depth.ensures w.saturating_add.ensures (w.most-is ∙ w.max-most.ensures) few
      | in-Leaf w ↦ λ few.
          let low : c.children.most < 4294967295 = omega (arith, few, w.most-is) in
          omega (arith, w.most-is, deep_leaf c.args.children.now c.children.child-index c.children.most c.child-item.result _ _ c.children-test.true c.child-item.is w.in-Leaf.is c.children.invariant low)
    ]
