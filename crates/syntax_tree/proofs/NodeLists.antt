-- The nodes among children.
use Rattle.std.proofs.Common.{◌≡◌, List, [], ◌∷◌, ◌++◌, ap, sym, ◌∙◌, append_assoc, append-nil}
use Rattle.syntax_tree.specs.Children.{with_child, with_children, children_of}
use Rattle.syntax_tree.specs.Queries.{nodes_of}
use Rattle.syntax_tree.specs.RangedForest.{RangedForest, RangedNode, ranged_none}
use Rattle.syntax_tree.specs.declared.node.Child.{Child}
use Rattle.syntax_tree.specs.declared.node.Child.TheVariants.{Node as a_node, Leaf as a_leaf}

-- the nodes among children, in order
abbrev pub child_nodes : List Child → List RangedNode
child_nodes [] = []
child_nodes (a_node n ∷ cs) = n ∷ child_nodes cs
child_nodes (a_leaf kind range ∷ cs) = child_nodes cs

nodes-with_children : (cs : List Child) (f : RangedForest) → nodes_of (with_children f cs) ≡ nodes_of f ++ child_nodes cs
nodes-with_children [] f = sym (append-nil (nodes_of f))
nodes-with_children (a_node n ∷ cs) f = nodes-with_children cs (with_child f (a_node n)) ∙ append_assoc (nodes_of f) (n ∷ []) (child_nodes cs)
nodes-with_children (a_leaf kind range ∷ cs) f = nodes-with_children cs (with_child f (a_leaf kind range))

pub nodes-children_of : (cs : List Child) (f : RangedForest) → children_of cs ≡ f → nodes_of f ≡ child_nodes cs
nodes-children_of cs f e = ap nodes_of (sym e) ∙ nodes-with_children cs ranged_none
