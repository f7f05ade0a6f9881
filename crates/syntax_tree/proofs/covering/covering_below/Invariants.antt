use Rattle.std.proofs.Common.{◌≡◌, ◌≤◌, Some}
use Rattle.std.specs.Option.{option_or}
use Rattle.syntax_tree.specs.Covering.{smallest_holding}
use Rattle.syntax_tree.specs.Elements.{node_element}
use Rattle.syntax_tree.specs.InRow.{InRow}
use Rattle.syntax_tree.specs.RangedForest.{forest_size}
use Rattle.syntax_tree.proofs.covering.covering_below.Given as goal

abbrev pub invariant-down : goal.invariant-down
invariant-down l = record {
  row : InRow l.node.start l.node.children l.node.end;
  begins : l.node.start ≤ l.fn.start;
  ends : l.fn.end ≤ l.node.end;
  same : option_or (smallest_holding l.fn.start l.fn.end l.fn.root.children) (Some (node_element l.fn.root))
      ≡ option_or (smallest_holding l.fn.start l.fn.end l.node.children) (Some (node_element l.node));
}

abbrev pub decreases-down : goal.decreases-down
decreases-down l = forest_size l.node.children
