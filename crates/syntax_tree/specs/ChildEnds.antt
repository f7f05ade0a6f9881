-- Where children end.
-- (Used in contracts between internal functions only; no public contract rests on it.)
use Rattle.std.specs.Prelude.{Bool, ℕ, ◌-◌, List, Option, length, nat_lt}
use Rattle.std.specs.List.{find, slice_get}
use Rattle.std.specs.Option.{option_or}
use Rattle.syntax_tree.specs.declared.node.Child.{Child}
use Rattle.syntax_tree.specs.declared.node.Child.TheVariants.{Node as a_node, Leaf as a_leaf}

abbrev pub child_end : Child → ℕ
child_end (a_node n) = n.end
child_end (a_leaf kind range) = range.end

-- a child ends after the byte
abbrev pub ends_after : ℕ → Child → Bool
ends_after offset c = nat_lt offset (child_end c)

-- the first child that ends after the byte, or the last one
abbrev pub reaching : ℕ → List Child → Option Child
reaching offset cs = option_or (find (ends_after offset) cs) (slice_get cs (length cs - 1))
