-- The smallest node or leaf that holds a range.
use Rattle.std.specs.Prelude.{Bool, ◌&&◌, ℕ, Option, nat_le, reverse}
use Rattle.std.specs.List.{find}
use Rattle.rap_ranged.specs.Elements.{RangedElement, node_element, leaf_element, elements_of}
use Rattle.rap_ranged.specs.RangedForest.{RangedForest}

-- the kind of a node or a leaf, and the bytes of the text at which it begins and ends
abbrev pub element_kind : RangedElement → ℕ
element_kind (node_element n) = n.kind
element_kind (leaf_element l) = l.kind

abbrev pub element_start : RangedElement → ℕ
element_start (node_element n) = n.start
element_start (leaf_element l) = l.start

abbrev pub element_end : RangedElement → ℕ
element_end (node_element n) = n.end
element_end (leaf_element l) = l.end

-- it begins where the range does or before, and ends where the range does or after
abbrev pub holds : ℕ → ℕ → RangedElement → Bool
holds start end e = nat_le (element_start e) start && nat_le end (element_end e)

-- Of the nodes and leaves of a forest that hold the range, the last one in preorder: none of the others is inside it.
abbrev pub smallest_holding : ℕ → ℕ → RangedForest → Option RangedElement
smallest_holding start end f = find (holds start end) (reverse (elements_of f))
