-- The nodes and leaves of a forest, each before those inside it.
use Rattle.std.specs.Prelude.{List, [], ◌∷◌, ◌++◌}
use Rattle.rap_ranged.specs.Leaves.{RangedLeaf}
use Rattle.rap_ranged.specs.RangedForest.{RangedForest, RangedNode, ranged_none, ranged_node, ranged_leaf}

-- a node or a leaf
pub data RangedElement : Type 0 where
  node_element : RangedNode → RangedElement
  leaf_element : RangedLeaf → RangedElement

-- all nodes and leaves of a forest, in preorder
abbrev pub elements_of : RangedForest → List RangedElement
elements_of ranged_none = []
elements_of (ranged_node before kind start end children) =
    elements_of before
    ++ node_element (record { kind = kind; start = start; end = end; children = children }) ∷ elements_of children
elements_of (ranged_leaf before kind start end) =
    elements_of before ++ leaf_element (record { kind = kind; start = start; end = end }) ∷ []

-- all nodes of a forest, in preorder
abbrev pub descendants_of : RangedForest → List RangedNode
descendants_of ranged_none = []
descendants_of (ranged_node before kind start end children) =
    descendants_of before ++ record { kind = kind; start = start; end = end; children = children } ∷ descendants_of children
descendants_of (ranged_leaf before kind start end) = descendants_of before
