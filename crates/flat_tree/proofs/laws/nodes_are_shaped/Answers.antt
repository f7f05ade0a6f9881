use Rattle.flat_tree.proofs.NodeShapes.{built_nodes_are_shaped, nodes_are_shaped}
use Rattle.flat_tree.proofs.laws.nodes_are_shaped.Goals as goal

pub returns-clause-texts : goal.returns-clause-texts
returns-clause-texts c = nodes_are_shaped

pub returns-clause-built : goal.returns-clause-built
returns-clause-built c = built_nodes_are_shaped
