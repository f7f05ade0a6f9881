use Rattle.std.proofs.Common.{ap}
use Rattle.std.specs.List.{find}
use Rattle.syntax_tree.specs.Queries.{has_kind}
use Rattle.syntax_tree.proofs.NodeLists.{nodes-children_of}
use Rattle.syntax_tree.proofs.node.Node.child_of_kind.Goals as goal

pub loop-child-init : goal.loop-child-init
loop-child-init c = ap (find (has_kind c.args.kind)) (nodes-children_of c.children-child-items.result.now c.args.self.now.children c.children-child-items.ensures)
