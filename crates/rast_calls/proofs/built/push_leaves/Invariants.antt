use Rattle.std.proofs.Common.{◌≡◌, ◌++◌, string_bytes}
use Rattle.rast_calls.specs.Built.{leaf_lines}
use Rattle.syntax_tree.specs.Leaves.{leaves_of}
use Rattle.rast_calls.proofs.built.push_leaves.Given as goal

abbrev pub invariant-leaves : goal.invariant-leaves
invariant-leaves l =
    (goal.iterator-leaves).can_next l.leaf-iterator ×
    (goal.iterator-leaves).is_finite l.leaf-iterator ×
    (string_bytes l.lines ++ leaf_lines l.leaf-iterator ≡ string_bytes l.fn.lines ++ leaf_lines (leaves_of l.fn.root.children))
