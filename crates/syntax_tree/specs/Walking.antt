-- A walk through a forest.
-- (Used in contracts between internal functions only; no public contract rests on it.)
use Rattle.std.specs.Prelude.{ℕ, ◌+◌, max, List, [], ◌∷◌, ◌++◌, Option, Some, None}
use Rattle.std.specs.Borrow.{Bor}
use Rattle.syntax_tree.specs.Children.{children_of}
use Rattle.syntax_tree.specs.Elements.{RangedElement, node_element, leaf_element, elements_of}
use Rattle.syntax_tree.specs.Leaves.{RangedLeaf}
use Rattle.syntax_tree.specs.RangedForest.{RangedForest, RangedNode, ranged_none, ranged_node, ranged_leaf}
use Rattle.syntax_tree.specs.declared.node.Child.{Child}
use Rattle.syntax_tree.specs.declared.node.Child.TheVariants.{Node as a_node, Leaf as a_leaf}

-- a child as a node or a leaf
abbrev pub element_of : Child → RangedElement
element_of (a_node n) = node_element n
element_of (a_leaf kind range) = leaf_element (record { kind = kind; start = range.start; end = range.end })

-- the nodes among nodes and leaves, and the leaves
abbrev pub nodes_in : List RangedElement → List RangedNode
nodes_in [] = []
nodes_in (node_element n ∷ es) = n ∷ nodes_in es
nodes_in (leaf_element l ∷ es) = nodes_in es

abbrev pub leaves_in : List RangedElement → List RangedLeaf
leaves_in [] = []
leaves_in (node_element n ∷ es) = leaves_in es
leaves_in (leaf_element l ∷ es) = l ∷ leaves_in es

-- the node of a walk that comes first, if there is one
abbrev pub first_node : Option (Bor RangedNode) → List RangedNode
first_node None = []
first_node (Some n) = n.now ∷ []

-- what is left of a walk that holds these lists of children, the innermost last
abbrev pub ahead : List (Bor (List Child)) → List RangedElement
ahead [] = []
ahead (s ∷ ss) = ahead ss ++ elements_of (children_of s.now)

-- the depth of the lists of children below a forest
abbrev pub levels : RangedForest → ℕ
levels ranged_none = 0
levels (ranged_node before kind start end children) = max (levels before) (levels children + 1)
levels (ranged_leaf before kind start end) = levels before

-- the largest number of lists that a walk holds, which holds these above n others
abbrev pub room : ℕ → List (Bor (List Child)) → ℕ
room held [] = 0
room held (s ∷ ss) = max (held + 1 + levels (children_of s.now)) (room (held + 1) ss)
