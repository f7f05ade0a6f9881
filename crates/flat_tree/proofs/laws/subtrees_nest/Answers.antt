use Rattle.flat_tree.proofs.ListLaws.{nest}
use Rattle.flat_tree.proofs.laws.subtrees_nest.Goals as goal

pub returns : goal.returns
returns c = nest
