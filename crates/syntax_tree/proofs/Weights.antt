-- What is left to drop.
use Rattle.std.proofs.Common.{◌≡◌, ℕ, ◌+◌, ◌≤◌, List, [], ◌∷◌, ◌++◌, ap, ◌∙◌, arith}
use Rattle.std.specs.declared.ops.Range.{Range}
use Rattle.syntax_tree.specs.Children.{with_child, children_of}
use Rattle.syntax_tree.specs.RangedForest.{RangedForest, RangedNode, ranged_none, ranged_node, ranged_leaf}
use Rattle.syntax_tree.proofs.ChildLists.{children-snoc}
use Rattle.syntax_tree.specs.declared.node.Child.{Child}
use Rattle.syntax_tree.specs.declared.node.Child.TheVariants.{Node as a_node, Leaf as a_leaf}

-- two for each node and leaf
abbrev pub weight : RangedForest → ℕ
weight ranged_none = 0
weight (ranged_node before kind start end children) = weight before + (2 + weight children)
weight (ranged_leaf before kind start end) = weight before + 2

-- the same for a list that is left for the last node's children, and for the outer lists, which that node holds
abbrev pub outer_weight : RangedForest → ℕ
outer_weight ranged_none = 0
outer_weight (ranged_node before kind start end children) = weight before + (1 + outer_weight children)
outer_weight (ranged_leaf before kind start end) = weight before + 1

pub outer_weight-le : (f : RangedForest) → outer_weight f ≤ weight f
outer_weight-le ranged_none = omega arith
outer_weight-le (ranged_node before kind start end children) = omega (arith, outer_weight-le children)
outer_weight-le (ranged_leaf before kind start end) = omega arith

-- the weight of the last child
pub weight-leaf : (cs ds : List Child) (c : Child) (kind : ℕ) (range : Range ℕ) → ds ≡ cs ++ c ∷ [] → c ≡ a_leaf kind range → weight (children_of ds) ≡ weight (children_of cs) + 2
weight-leaf cs ds c kind range e is = ap weight (children-snoc cs ds c e ∙ ap (λ d. with_child (children_of cs) d) is)

pub weight-node : (cs ds : List Child) (c : Child) (n : RangedNode) → ds ≡ cs ++ c ∷ [] → c ≡ a_node n → weight (children_of ds) ≡ weight (children_of cs) + (2 + weight n.children)
weight-node cs ds c n e is = ap weight (children-snoc cs ds c e ∙ ap (λ d. with_child (children_of cs) d) is)

pub outer_weight-leaf : (cs ds : List Child) (c : Child) (kind : ℕ) (range : Range ℕ) → ds ≡ cs ++ c ∷ [] → c ≡ a_leaf kind range → outer_weight (children_of ds) ≡ weight (children_of cs) + 1
outer_weight-leaf cs ds c kind range e is = ap outer_weight (children-snoc cs ds c e ∙ ap (λ d. with_child (children_of cs) d) is)

pub outer_weight-node : (cs ds : List Child) (c : Child) (n : RangedNode) → ds ≡ cs ++ c ∷ [] → c ≡ a_node n → outer_weight (children_of ds) ≡ weight (children_of cs) + (1 + outer_weight n.children)
outer_weight-node cs ds c n e is = ap outer_weight (children-snoc cs ds c e ∙ ap (λ d. with_child (children_of cs) d) is)
