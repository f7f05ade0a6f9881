use Rattle.std.proofs.Common.{◌≡◌, length}
use Rattle.syntax_tree.specs.Walking.{nodes_in}
use Rattle.syntax_tree.proofs.next.next_node.Given as goal

abbrev pub invariant-leaves : goal.invariant-leaves
invariant-leaves l = nodes_in l.walk ≡ nodes_in l.fn.walk

abbrev pub decreases-leaves : goal.decreases-leaves
decreases-leaves l = length l.walk
