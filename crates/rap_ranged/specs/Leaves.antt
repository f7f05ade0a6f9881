-- The leaves of a forest.
use Rattle.std.specs.Prelude.{Bool, ◌&&◌, ℕ, List, [], ◌∷◌, ◌++◌, Option, nat_le, nat_lt}
use Rattle.std.specs.List.{find}
use Rattle.rap_ranged.specs.RangedForest.{RangedForest, ranged_none, ranged_node, ranged_leaf}

-- A leaf: its kind, and the bytes of the text at which it begins and ends.
pub record RangedLeaf : Type 0 where
  pub kind : ℕ
  pub start : ℕ
  pub end : ℕ

-- all leaves of a forest, in order
abbrev pub leaves_of : RangedForest → List RangedLeaf
leaves_of ranged_none = []
leaves_of (ranged_node before kind start end children) = leaves_of before ++ leaves_of children
leaves_of (ranged_leaf before kind start end) = leaves_of before ++ record { kind = kind; start = start; end = end } ∷ []

-- the leaf's place has the byte
abbrev pub has_byte : ℕ → RangedLeaf → Bool
has_byte offset leaf = nat_le leaf.start offset && nat_lt offset leaf.end

-- the first leaf of a forest whose place has the byte
abbrev pub leaf_of_byte : ℕ → RangedForest → Option RangedLeaf
leaf_of_byte offset f = find (has_byte offset) (leaves_of f)
