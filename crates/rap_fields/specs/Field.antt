-- What a field of a node is: the kinds of the nodes that stand there, and how many there are at least and at most.
use Rattle.std.specs.Prelude.{ℕ, ◌+◌, ◌≤◌, ◌&&◌, Bool, true, List, [], ◌∷◌, ◌++◌, Option, Some, None}
use Rattle.rap_base.specs.NodeKind.{ATTR, DOC_COMMENT, NAME_REF}
use Rattle.rap_grammar_table.specs.Counts.{IsAtMost, one_if}
use Rattle.rap_grammar_table.specs.Known.{among}
use Rattle.rap_grammar_table.specs.Shapes.{Child, leaf_child, node_child, message_child, float_child}

pub record Field : Type 0 where
  pub kinds : List ℕ
  pub fewest : ℕ
  pub most : Option ℕ

abbrev pub between : ℕ → Option ℕ → List ℕ → Field
between n m ks = record { kinds = ks; fewest = n; most = m }

abbrev pub exactly_one : List ℕ → Field
exactly_one ks = between 1 (Some 1) ks

abbrev pub at_most_one : List ℕ → Field
at_most_one ks = between 0 (Some 1) ks

abbrev pub at_least_one : List ℕ → Field
at_least_one ks = between 1 None ks

abbrev pub any_number : List ℕ → Field
any_number ks = between 0 None ks

-- the attributes and the documentation of a node
abbrev pub attrs : Field
attrs = any_number (ATTR ∷ [])

abbrev pub doc_comments : Field
doc_comments = any_number (DOC_COMMENT ∷ [])

-- How many nodes of some kinds stand among children. A float that is taken apart is a name in its node.
abbrev pub nodes_among : List ℕ → List Child → ℕ
nodes_among ks [] = 0
nodes_among ks (leaf_child k ∷ cs) = nodes_among ks cs
nodes_among ks (node_child k ∷ cs) = one_if (among ks k) + nodes_among ks cs
nodes_among ks (message_child ∷ cs) = nodes_among ks cs
nodes_among ks (float_child ∷ cs) = one_if (among ks NAME_REF) + nodes_among ks cs

-- As many are there as the field says.
pub record Fills (f : Field) (children : List Child) : Type 0 where
  pub at_least : f.fewest ≤ nodes_among f.kinds children
  pub at_most : IsAtMost (nodes_among f.kinds children) f.most

-- kinds of several lists
abbrev pub together : List (List ℕ) → List ℕ
together [] = []
together (ks ∷ kss) = ks ++ together kss

-- whether each child that is a node is of these kinds
abbrev pub nodes_are : List ℕ → List Child → Bool
nodes_are ks [] = true
nodes_are ks (leaf_child k ∷ cs) = nodes_are ks cs
nodes_are ks (node_child k ∷ cs) = among ks k && nodes_are ks cs
nodes_are ks (message_child ∷ cs) = nodes_are ks cs
nodes_are ks (float_child ∷ cs) = nodes_are ks cs
