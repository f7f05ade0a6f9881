use Rattle.std.proofs.Common.{◌≡◌, ◌++◌, ap, subst, sym, ◌∙◌}
use Rattle.syntax_tree.specs.Leaves.{leaves_of}
use Rattle.syntax_tree.specs.PlainText.{plain_text}
use Rattle.syntax_tree.proofs.LeafPlaces.{ArePlaced, leaves_placed}
use Rattle.syntax_tree.proofs.node.Node.text_without_trivia.Goals as goal

pub leaves-init : goal.leaves-init
leaves-init c =
    let text = c.args.tree.now.text.now in
    let children = c.args.self.now.children in
    let gives = c.into_iter-leaf-iterator.ensures.into_iter_gives in
    let items = c.in_ok-leaf-items.ensures in
    let same : c.into_iter-leaf-iterator.result ≡ leaves_of children = cc in (
      tt,
      tt,
      subst (ArePlaced text) (sym same) (leaves_placed text children c.requires),
      ap (λ b. b ++ plain_text text c.into_iter-leaf-iterator.result) c.new-plain.ensures.bytes ∙ ap (plain_text text) same,
    )
