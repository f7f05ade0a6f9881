use Rattle.std.proofs.Common.{◌≡◌, [], ◌∷◌, ◌++◌, ap, ◌∙◌, reverse}
use Rattle.syntax_tree.specs.Building.{newest_of}
use Rattle.syntax_tree.specs.RangedForest.{ranged_leaf}
use Rattle.syntax_tree.specs.declared.node.Child.{Child}
use Rattle.syntax_tree.specs.declared.node.Child.TheVariants.{Leaf as a_leaf}
use Rattle.syntax_tree.proofs.Frames.{frames-push, newest-push, same_building}
use Rattle.syntax_tree.proofs.builder.Builder.token.Goals as goal

pub returns-clause-built : goal.returns-clause-built
returns-clause-built c =
    let old = c.args.self.now in
    let os = reverse old.open.items in
    let one = c.in_ok-inside.ensures in
    let leaf : Child = a_leaf c.args.kind (record { start = old.at; end = c.in_ok-end.end }) in
    let more : c.push_reserved.new.self.items ≡ old.children.items ++ leaf ∷ [] = c.push_reserved.ensures.items ∙ ap (λ l. l ++ leaf ∷ []) c.in_ok-reserve.ensures.items in
    let frames = frames-push os old.inside c.in_ok-inside.inside old.children.items c.push_reserved.new.self.items leaf one more in
    let forest = newest-push os old.inside c.in_ok-inside.inside old.children.items c.push_reserved.new.self.items leaf one more ∙ ap (λ e. ranged_leaf (newest_of os old.inside old.children.items) c.args.kind old.at e) c.in_ok-end.ensures in
    same_building _ _ _ _ _ _ frames forest c.in_ok-end.ensures
