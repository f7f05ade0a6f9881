use Rattle.std.proofs.Common.{◌≡◌, ◌+◌, length}
use Rattle.json.specs.Print.{escape}
use Rattle.rast_server.specs.TreeText.{tree_text}
use Rattle.rast_server.proofs.TreeLines.{rest_of_lines}
use Rattle.rast_server.proofs.tree.left_by_lines.Given as goal

abbrev pub invariant-loop-index : goal.invariant-loop-index
invariant-loop-index l =
    l.left + length (escape (tree_text l.text l.elements)) ≡ l.bytes + length (escape (rest_of_lines l.text l.elements l.index))
