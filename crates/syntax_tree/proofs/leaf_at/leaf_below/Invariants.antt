use Rattle.std.proofs.Common.{◌≡◌, ◌≤◌}
use Rattle.syntax_tree.specs.InRow.{InRow}
use Rattle.syntax_tree.specs.Leaves.{leaf_of_byte}
use Rattle.syntax_tree.specs.RangedForest.{forest_size}
use Rattle.syntax_tree.proofs.leaf_at.leaf_below.Given as goal

abbrev pub invariant-down : goal.invariant-down
invariant-down l = record {
  row : InRow l.node.start l.node.children l.node.end;
  begins : l.node.start ≤ l.fn.offset;
  same : leaf_of_byte l.fn.offset l.fn.root.children ≡ leaf_of_byte l.fn.offset l.node.children;
}

abbrev pub decreases-down : goal.decreases-down
decreases-down l = forest_size l.node.children
