use Rattle.std.proofs.Common.{[], ◌++◌, ◌≡◌, ◌∷◌, ◌-◌, length, take, drop, reverse, ap, sym, ◌∙◌, refl, arith}
use Rattle.syntax_tree.specs.Building.{ended, frames_of, newest_of, rest_of}
use Rattle.syntax_tree.specs.Children.{children_of}
use Rattle.syntax_tree.specs.RangedForest.{RangedNode, ranged_node}
use Rattle.syntax_tree.specs.declared.node.Child.TheVariants.{Node as a_node}
use Rattle.syntax_tree.proofs.Frames.{newest_first, frames-push, newest-push, same_building}
use Rattle.syntax_tree.proofs.builder.Builder.exit.Goals as goal

pub returns : goal.returns
returns c =
    let old = c.args.self.now in
    let opened = c.in-Some.open in
    let os = reverse c.pop.new.self.items in
    let cs = old.children.items in
    let rest = rest_of old.inside cs in
    let cut : c.saturating_sub-before.result ≡ length cs - old.inside = omega (arith, c.saturating_sub-before.ensures, c.len.ensures, old.children.ok.0) in
    let order : reverse old.open.items ≡ opened ∷ os = newest_first c.pop.new.self.items old.open.items opened c.in-Some.ensures.items in
    let left : c.split_off.new.self.items ≡ rest = c.in_ok-children.ensures.items ∙ ap (λ k. take k cs) cut in
    let inner : children_of c.in_ok-children.children.items ≡ newest_of (opened ∷ os) old.inside old.children.items = ap children_of (c.in_ok-children.ensures.tail ∙ ap (λ k. drop k cs) cut) in
    let node = a_node c.new-node.result in
    let more : c.push_reserved.new.self.items ≡ c.split_off.new.self.items ++ node ∷ [] = c.push_reserved.ensures.items ∙ ap (λ l. l ++ node ∷ []) c.in_ok-reserve.ensures.items in
    let frames = frames-push os opened.before c.in_ok-inside.inside c.split_off.new.self.items c.push_reserved.new.self.items node c.in_ok-inside.ensures more in
    let forest = newest-push os opened.before c.in_ok-inside.inside c.split_off.new.self.items c.push_reserved.new.self.items node c.in_ok-inside.ensures more in
    let kind = ap (λ (n : RangedNode). n.kind) c.new-node.ensures in
    let start = ap (λ (n : RangedNode). n.start) c.new-node.ensures in
    let end = ap (λ (n : RangedNode). n.end) c.new-node.ensures in
    let children = ap (λ (n : RangedNode). n.children) c.new-node.ensures in
    let frames_is : frames_of os c.in_ok-inside.inside c.push_reserved.new.self.items ≡ frames_of os opened.before rest = frames ∙ ap (λ l. frames_of os opened.before l) left in
    let forest_is : newest_of os c.in_ok-inside.inside c.push_reserved.new.self.items ≡ ranged_node (newest_of os opened.before rest) opened.kind opened.start old.at (newest_of (opened ∷ os) old.inside old.children.items) = cc in
    same_building _ _ _ _ _ _ frames_is forest_is refl
    ∙ sym (ap (λ l. ended (frames_of l old.inside old.children.items) (newest_of l old.inside old.children.items) old.at) order)
