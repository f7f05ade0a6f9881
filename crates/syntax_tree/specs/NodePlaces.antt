-- The places of the nodes of a tree.
use Rattle.std.specs.Prelude.{ℕ, List}
use Rattle.syntax_tree.specs.InRange.{StandsIn}
use Rattle.syntax_tree.specs.Places.{IsPlace, HavePlaces}
use Rattle.syntax_tree.specs.RangedForest.{RangedNode, alone}

-- In a tree whose nodes and leaves have places, each node has one, and so have the nodes and leaves that stand in it.
abbrev pub NodesHavePlaces : Type 0
NodesHavePlaces =
    (text : List ℕ) (root n : RangedNode) → HavePlaces text (alone root) → StandsIn n (alone root)
    → IsPlace text n.start n.end × HavePlaces text n.children
