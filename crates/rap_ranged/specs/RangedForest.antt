-- Trees in a row, with the place of each node and leaf.
use Rattle.std.specs.Prelude.{ℕ, ◌+◌}

-- Empty, or a forest and one element after it: a node over a forest, or a leaf, each with its kind and with the bytes of
-- the text at which it begins and ends.
pub data RangedForest : Type 0 where
  ranged_none : RangedForest
  ranged_node : RangedForest → ℕ → ℕ → ℕ → RangedForest → RangedForest
  ranged_leaf : RangedForest → ℕ → ℕ → ℕ → RangedForest

-- A node: its kind, the bytes of the text at which it begins and ends, and its children.
pub record RangedNode : Type 0 where
  pub kind : ℕ
  pub start : ℕ
  pub end : ℕ
  pub children : RangedForest

-- how many nodes and leaves there are
abbrev pub forest_size : RangedForest → ℕ
forest_size ranged_none = 0
forest_size (ranged_node before kind start end children) = forest_size before + (forest_size children + 1)
forest_size (ranged_leaf before kind start end) = forest_size before + 1

abbrev pub node_size : RangedNode → ℕ
node_size n = forest_size n.children + 1

-- a forest of one node
abbrev pub alone : RangedNode → RangedForest
alone n = ranged_node ranged_none n.kind n.start n.end n.children
