-- The nodes and leaves of a tree in one list, each with what is inside it and what it is in.
use Rattle.std.specs.Prelude.{ℕ, ◌+◌, List, [], ◌∷◌, ◌++◌}
use Rattle.rap_ranged.specs.RangedForest.{RangedForest, RangedNode, ranged_none, ranged_node, ranged_leaf, forest_size, alone}

-- A node or a leaf: its kind, the bytes of the text at which it begins and ends, the index past all that is inside it,
-- and the index of the node that it is in.
pub record ListedElement : Type 0 where
  pub kind : ℕ
  pub start : ℕ
  pub end : ℕ
  pub after : ℕ
  pub parent : ℕ

-- the nodes and leaves of a forest in preorder, the first with this index, in the node with that index
abbrev pub listed : ℕ → ℕ → RangedForest → List ListedElement
listed first parent ranged_none = []
listed first parent (ranged_node before kind start end children) =
    listed first parent before
    ++ record {
      kind = kind;
      start = start;
      end = end;
      after = first + forest_size before + 1 + forest_size children;
      parent = parent;
    } ∷ listed (first + forest_size before + 1) (first + forest_size before) children
listed first parent (ranged_leaf before kind start end) =
    listed first parent before
    ++ record { kind = kind; start = start; end = end; after = first + forest_size before + 1; parent = parent } ∷ []

-- what stands for the parent of the root
abbrev pub no_parent : ℕ
no_parent = 4294967295

-- those of a whole tree
abbrev pub listed_tree : RangedNode → List ListedElement
listed_tree root = listed 0 no_parent (alone root)
