use Rattle.std.proofs.Common.{◌≡◌, ◌+◌, ◌*◌, ◌<◌, ◌++◌, ◌∷◌, List, [], Bor, ap, sym, subst, ◌∙◌, arith}
use Rattle.rast.specs.Pending.{AllPlaced, pending_size}
use Rattle.rast.proofs.Walks.{node-step, size-snoc, placed-snoc, children_placed}
use Rattle.syntax_tree.specs.Children.{with_child, children_of}
use Rattle.syntax_tree.specs.Places.{HavePlaces}
use Rattle.syntax_tree.specs.RangedForest.{RangedNode, ranged_none, forest_size}
use Rattle.syntax_tree.specs.declared.node.Child.{Child}
use Rattle.syntax_tree.specs.declared.node.Child.TheVariants.{Node as a_node}
use Rattle.rast.proofs.ranges.push_child.Goals as goal

-- a node's children are fewer than the node with them
fewer : (c : Child) (n : RangedNode) (fs gs : List (Bor (List Child))) (f : Bor (List Child)) → c ≡ a_node n → gs ≡ fs ++ f ∷ [] → children_of f.now ≡ n.children
    → pending_size gs < pending_size fs + 2 * forest_size (with_child ranged_none c)
fewer c n fs gs f is more same =
    let all : pending_size gs ≡ pending_size fs + (1 + 2 * forest_size (children_of f.now)) = ap pending_size more ∙ size-snoc fs f in
    let own : forest_size (children_of f.now) ≡ forest_size n.children = ap forest_size same in
    let whole : forest_size (with_child ranged_none c) ≡ forest_size (with_child ranged_none (a_node n)) = ap (λ k. forest_size (with_child ranged_none k)) is in
    omega (arith, all, own, whole)

pub returns-in_ok-push-in-Node-clause-lines : goal.returns-in_ok-push-in-Node-clause-lines
returns-in_ok-push-in-Node-clause-lines c =
    node-step c.args.text.now c.args.depth c.args.child.now c.in-Node.node c.args.lines.now c.push_node.new.lines c.args.lists.now.items c.push.new.self.items c.children.result c.in-Node.is c.in_ok-push_node-in-Node.ensures c.in_ok-push-in-Node.ensures.items c.children.ensures c.requires.deep

pub returns-in_ok-push-in-Node-clause-placed : goal.returns-in_ok-push-in-Node-clause-placed
returns-in_ok-push-in-Node-clause-placed c =
    let P : List (Bor (List Child)) → Type 0 = λ l. AllPlaced c.args.text.now l in
    let Q : Child → Type 0 = λ k. HavePlaces c.args.text.now (with_child ranged_none k) in
    let here = subst Q c.in-Node.is c.requires.placed in
    subst P (sym {A = List (Bor (List Child))} c.in_ok-push-in-Node.ensures.items) (placed-snoc c.args.text.now c.args.lists.now.items c.children.result c.requires.all_placed (children_placed c.args.text.now c.children.result.now c.in-Node.node.children c.children.ensures here.2))

pub returns-in_ok-push-in-Node-clause-smaller : goal.returns-in_ok-push-in-Node-clause-smaller
returns-in_ok-push-in-Node-clause-smaller c =
    fewer c.args.child.now c.in-Node.node c.args.lists.now.items c.push.new.self.items c.children.result c.in-Node.is c.in_ok-push-in-Node.ensures.items c.children.ensures
