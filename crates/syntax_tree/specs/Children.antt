-- A list of children as trees in a row.
use Rattle.std.specs.Prelude.{List, [], ◌∷◌}
use Rattle.syntax_tree.specs.RangedForest.{RangedForest, ranged_none, ranged_node, ranged_leaf}
use Rattle.syntax_tree.specs.declared.node.Child.{Child}
use Rattle.syntax_tree.specs.declared.node.Child.TheVariants.{Node as a_node, Leaf as a_leaf}

-- a forest, and a child after it
abbrev pub with_child : RangedForest → Child → RangedForest
with_child f (a_node n) = ranged_node f n.kind n.start n.end n.children
with_child f (a_leaf kind range) = ranged_leaf f kind range.start range.end

-- a forest, and children after it
abbrev pub with_children : RangedForest → List Child → RangedForest
with_children f [] = f
with_children f (c ∷ cs) = with_children (with_child f c) cs

-- the children alone
abbrev pub children_of : List Child → RangedForest
children_of cs = with_children ranged_none cs
