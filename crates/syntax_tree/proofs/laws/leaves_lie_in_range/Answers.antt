use Rattle.syntax_tree.proofs.LeavesInRange.{leaves_in_range}
use Rattle.syntax_tree.proofs.laws.leaves_lie_in_range.Goals as goal

pub returns : goal.returns
returns c = leaves_in_range
