-- The places of nodes and leaves.
use Rattle.std.specs.Prelude.{◌≡◌, ℕ, ◌+◌, length}
use Rattle.rap_lexed.specs.StrForest.{StrForest, str_none, str_node, str_leaf, str_message, str_joined}
use Rattle.rap_ranged.specs.RangedForest.{RangedForest, RangedNode, ranged_none, ranged_node, ranged_leaf, alone}

-- where the last leaf of a forest ends that begins at a place
abbrev pub end_from : ℕ → StrForest → ℕ
end_from at f = at + length (str_joined f)

-- The nodes and leaves of a forest in order, without its messages. The first leaf begins at the place, each further one
-- where the leaf before it ends, and each is as long as its text. A node begins at the end of the leaves before it, and
-- ends where its own last leaf ends; without a leaf it is empty.
abbrev pub ranged : ℕ → StrForest → RangedForest
ranged at str_none = ranged_none
ranged at (str_node before kind children) =
    ranged_node (ranged at before) kind (end_from at before) (end_from (end_from at before) children)
    (ranged (end_from at before) children)
ranged at (str_leaf before kind text) =
    ranged_leaf (ranged at before) kind (end_from at before) (end_from at before + length text)
ranged at (str_message before bytes pos) = ranged at before

-- the node is the forest's one tree, with the places of a text from its beginning on
abbrev pub Ranged : StrForest → RangedNode → Type 0
Ranged f root = alone root ≡ ranged 0 f
