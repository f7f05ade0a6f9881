use Rattle.std.proofs.Common.{◌<◌, ◌≤◌, take}
use Rattle.syntax_tree.specs.Children.{children_of}
use Rattle.syntax_tree.specs.Walking.{levels}
use Rattle.syntax_tree.proofs.node.depth_of.Given as goal

abbrev pub invariant-children : goal.invariant-children
invariant-children l = l.most < 4294967295 → levels (children_of (take l.child-index l.children)) ≤ l.most
