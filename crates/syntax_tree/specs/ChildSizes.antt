-- No child is deeper than there are nodes and leaves.
use Rattle.std.specs.Prelude.{ℕ, ◌+◌, ◌≤◌, List, [], ◌∷◌}
use Rattle.std.proofs.Common.{arith}
use denote.Param.Weighed.{most, w_this}
use Rattle.syntax_tree.specs.Children.{with_child, with_children}
use Rattle.syntax_tree.specs.RangedForest.{RangedForest, forest_size}
use Rattle.syntax_tree.specs.declared.node.Child.{Child}
use Rattle.syntax_tree.specs.declared.node.Child.TheVariants.{the_data, Node as a_node, Leaf as a_leaf}
use Rattle.syntax_tree.specs.declared.node.Node.TheDeep.{deep-Child}

-- how deep a child is
abbrev pub depth_of : Child → ℕ
depth_of c = (w_this).weight the_data deep-Child c

pub size-with_children : (cs : List Child) (f : RangedForest) → forest_size f ≤ forest_size (with_children f cs)
size-with_children [] f = omega arith
size-with_children (a_node n ∷ cs) f = omega (arith, size-with_children cs (with_child f (a_node n)))
size-with_children (a_leaf kind range ∷ cs) f = omega (arith, size-with_children cs (with_child f (a_leaf kind range)))

pub depth_le-size : (cs : List Child) (f : RangedForest) → most depth_of cs ≤ forest_size (with_children f cs) + 1
depth_le-size [] f = omega arith
depth_le-size (a_node n ∷ cs) f = omega (arith, depth_le-size cs (with_child f (a_node n)), size-with_children cs (with_child f (a_node n)))
depth_le-size (a_leaf kind range ∷ cs) f = omega (arith, depth_le-size cs (with_child f (a_leaf kind range)), size-with_children cs (with_child f (a_leaf kind range)))
