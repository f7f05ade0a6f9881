-- How many nodes of a kind stand among children, and how many at least and at most where the children are of a shape.
use Rattle.std.specs.Prelude.{◌==◌, ◌+◌, ◌≤◌, ℕ, zero, suc, min, max, Bool, true, false, List, [], ◌∷◌, Option, Some, None}
use Rattle.rap_grammar_table.specs.Known.{among, every_one}
use Rattle.rap_grammar_table.specs.Shapes.{Child, leaf_child, node_child, message_child, float_child, Shape, nothing, leaf_of, any_leaf, node_of, a_float, ◌⋅◌, ◌or◌, any_of}

abbrev pub one_if : Bool → ℕ
one_if true = 1
one_if false = 0

abbrev pub nodes_of : ℕ → List Child → ℕ
nodes_of kind [] = 0
nodes_of kind (leaf_child k ∷ cs) = nodes_of kind cs
nodes_of kind (node_child k ∷ cs) = one_if (k == kind) + nodes_of kind cs
nodes_of kind (message_child ∷ cs) = nodes_of kind cs
nodes_of kind (float_child ∷ cs) = nodes_of kind cs

-- at least
abbrev pub fewest : ℕ → Shape → ℕ
fewest kind nothing = 0
fewest kind (leaf_of ks) = 0
fewest kind any_leaf = 0
fewest kind (node_of ks) = one_if (every_one (λ k. k == kind) ks)
fewest kind a_float = 0
fewest kind (a ⋅ b) = fewest kind a + fewest kind b
fewest kind (a or b) = min (fewest kind a) (fewest kind b)
fewest kind (any_of a) = 0

-- at most, where there is a bound
abbrev pub sum_of : Option ℕ → Option ℕ → Option ℕ
sum_of None b = None
sum_of (Some n) None = None
sum_of (Some n) (Some m) = Some (n + m)

abbrev pub larger_of : Option ℕ → Option ℕ → Option ℕ
larger_of None b = None
larger_of (Some n) None = None
larger_of (Some n) (Some m) = Some (max n m)

abbrev pub repeated : Option ℕ → Option ℕ
repeated None = None
repeated (Some zero) = Some 0
repeated (Some (suc n)) = None

abbrev pub most : ℕ → Shape → Option ℕ
most kind nothing = Some 0
most kind (leaf_of ks) = Some 0
most kind any_leaf = Some 0
most kind (node_of ks) = Some (one_if (among ks kind))
most kind a_float = Some 0
most kind (a ⋅ b) = sum_of (most kind a) (most kind b)
most kind (a or b) = larger_of (most kind a) (most kind b)
most kind (any_of a) = repeated (most kind a)

abbrev pub IsAtMost : ℕ → Option ℕ → Type 0
IsAtMost n None = Unit {0}
IsAtMost n (Some m) = n ≤ m

pub record AreBetween (kind : ℕ) (shape : Shape) (children : List Child) : Type 0 where
  pub at_least : fewest kind shape ≤ nodes_of kind children
  pub at_most : IsAtMost (nodes_of kind children) (most kind shape)
