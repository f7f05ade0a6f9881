-- The leaves of a node, by their places.
use Rattle.std.specs.Prelude.{◌≡◌, ◌⊎◌, Bool, ◌&&◌, ℕ, filter, nat_le, nat_lt}
use Rattle.rap_lexed.specs.StrForest.{StrForest}
use Rattle.syntax_tree.specs.Leaves.{RangedLeaf, leaves_of}
use Rattle.syntax_tree.specs.Ranged.{Ranged}
use Rattle.syntax_tree.specs.RangedForest.{RangedForest, RangedNode, ranged_none, ranged_node, ranged_leaf, alone}

-- a node is in a forest, at its top or further inside
abbrev pub StandsIn : RangedNode → RangedForest → Type 0
StandsIn n ranged_none = ⊥
StandsIn n (ranged_node before kind start end children) =
    StandsIn n before ⊎ ((record { kind = kind; start = start; end = end; children = children } ≡ n) ⊎ StandsIn n children)
StandsIn n (ranged_leaf before kind start end) = StandsIn n before

-- a leaf is not empty
abbrev pub has_text : RangedLeaf → Bool
has_text leaf = nat_lt leaf.start leaf.end

-- a leaf that is not empty lies between two places
abbrev pub lies_in : ℕ → ℕ → RangedLeaf → Bool
lies_in start end leaf = (nat_le start leaf.start && nat_le leaf.end end) && has_text leaf

-- In a tree with the places of a text, the leaves of a node are those leaves of the tree that lie in its range. (No leaf
-- of a lexed text is empty; an empty one at the end of the range could be in the node or not.)
abbrev pub HasLeavesInRange : Type 0
HasLeavesInRange =
    (f : StrForest) (root n : RangedNode) → Ranged f root → StandsIn n (alone root)
    → filter (lies_in n.start n.end) (leaves_of root.children) ≡ filter has_text (leaves_of n.children)
