use Rattle.std.proofs.Common.{◌+◌}
use Rattle.syntax_tree.specs.Children.{children_of}
use Rattle.syntax_tree.proofs.Weights.{weight, outer_weight}
use Rattle.syntax_tree.proofs.node.discard.Given as goal

abbrev pub decreases-loop-node : goal.decreases-loop-node
decreases-loop-node l = weight (children_of l.list.items) + outer_weight (children_of l.outer.items)
