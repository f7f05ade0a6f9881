-- The top nodes of a forest.
use Rattle.std.specs.Prelude.{Bool, ℕ, List, [], ◌∷◌, ◌++◌, Option, nat_eq}
use Rattle.std.specs.List.{find}
use Rattle.syntax_tree.specs.RangedForest.{RangedForest, RangedNode, ranged_none, ranged_node, ranged_leaf}

-- the top nodes of a forest, in order
abbrev pub nodes_of : RangedForest → List RangedNode
nodes_of ranged_none = []
nodes_of (ranged_node before kind start end children) =
    nodes_of before ++ record { kind = kind; start = start; end = end; children = children } ∷ []
nodes_of (ranged_leaf before kind start end) = nodes_of before

-- a node has the kind
abbrev pub has_kind : ℕ → RangedNode → Bool
has_kind kind n = nat_eq n.kind kind

-- the first of the top nodes of a forest that has the kind
abbrev pub first_of_kind : ℕ → RangedForest → Option RangedNode
first_of_kind kind f = find (has_kind kind) (nodes_of f)
