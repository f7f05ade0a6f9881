use Rattle.std.proofs.Common.{◌≡◌, length}
use Rattle.syntax_tree.specs.Walking.{leaves_in}
use Rattle.syntax_tree.proofs.next.next_leaf.Given as goal

abbrev pub invariant-nodes : goal.invariant-nodes
invariant-nodes l = leaves_in l.walk ≡ leaves_in l.fn.walk

abbrev pub decreases-nodes : goal.decreases-nodes
decreases-nodes l = length l.walk
