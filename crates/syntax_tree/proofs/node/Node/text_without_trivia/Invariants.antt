use Rattle.std.proofs.Common.{◌≡◌, ◌++◌, string_bytes}
use Rattle.syntax_tree.specs.Leaves.{leaves_of}
use Rattle.syntax_tree.specs.PlainText.{plain_text}
use Rattle.syntax_tree.proofs.LeafPlaces.{ArePlaced}
use Rattle.syntax_tree.proofs.node.Node.text_without_trivia.Given as goal

abbrev pub invariant-leaves : goal.invariant-leaves
invariant-leaves l =
    (goal.iterator-leaves).can_next l.leaf-iterator ×
    (goal.iterator-leaves).is_finite l.leaf-iterator ×
    ArePlaced l.fn.tree.text.now l.leaf-iterator ×
    (string_bytes l.plain ++ plain_text l.fn.tree.text.now l.leaf-iterator ≡ plain_text l.fn.tree.text.now (leaves_of l.fn.self.children))
