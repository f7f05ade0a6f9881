use Rattle.std.proofs.Common.{◌≡◌, ◌++◌, ◌∷◌, string_bytes}
use Rattle.rast_calls.specs.Built.{node_lines}
use Rattle.syntax_tree.specs.Elements.{descendants_of}
use Rattle.rast_calls.proofs.built.push_nodes.Given as goal

abbrev pub invariant-nodes : goal.invariant-nodes
invariant-nodes l =
    (goal.iterator-nodes).can_next l.node-iterator ×
    (goal.iterator-nodes).is_finite l.node-iterator ×
    (string_bytes l.lines ++ node_lines l.node-iterator ≡ string_bytes l.fn.lines ++ node_lines (l.fn.root ∷ descendants_of l.fn.root.children))
