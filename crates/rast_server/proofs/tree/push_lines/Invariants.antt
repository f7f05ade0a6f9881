use Rattle.std.proofs.Common.{◌≡◌, ◌++◌, string_bytes}
use Rattle.json.specs.Print.{escape}
use Rattle.rast_server.specs.TreeText.{tree_text}
use Rattle.rast_server.proofs.TreeLines.{rest_of_lines}
use Rattle.rast_server.proofs.tree.push_lines.Given as goal

abbrev pub invariant-loop-index : goal.invariant-loop-index
invariant-loop-index l =
    string_bytes l.json ++ escape (rest_of_lines l.text l.elements l.index) ≡ string_bytes l.fn.json ++ escape (tree_text l.text l.elements)
