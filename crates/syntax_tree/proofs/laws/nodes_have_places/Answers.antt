use Rattle.syntax_tree.proofs.LeafPlaces.{node_placed}
use Rattle.syntax_tree.specs.RangedForest.{alone}
use Rattle.syntax_tree.proofs.laws.nodes_have_places.Goals as goal

pub returns : goal.returns
returns c = λ text root n h s. node_placed text (alone root) n h s
