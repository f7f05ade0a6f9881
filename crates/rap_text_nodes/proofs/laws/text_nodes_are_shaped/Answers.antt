use Rattle.rap_text_nodes.proofs.Nodes.{text_nodes}
use Rattle.rap_text_nodes.proofs.laws.text_nodes_are_shaped.Goals as goal

pub returns : goal.returns
returns c = text_nodes
