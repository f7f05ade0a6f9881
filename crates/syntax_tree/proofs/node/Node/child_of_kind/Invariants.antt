use Rattle.std.proofs.Common.{◌≡◌, drop}
use Rattle.std.specs.List.{find}
use Rattle.syntax_tree.specs.Queries.{has_kind, first_of_kind}
use Rattle.syntax_tree.proofs.NodeLists.{child_nodes}
use Rattle.syntax_tree.proofs.node.Node.child_of_kind.Given as goal

abbrev pub invariant-loop-child : goal.invariant-loop-child
invariant-loop-child l = first_of_kind l.kind l.self.children ≡ find (has_kind l.kind) (child_nodes (drop l.child-index l.child-items))
