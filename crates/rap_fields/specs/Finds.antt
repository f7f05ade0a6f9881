-- The rule of a field finds what stands in the field's part of the children.
use Rattle.std.specs.Prelude.{◌≡◌, ◌&&◌, ◌≤◌, nat_lt, ℕ, suc, Bool, true, false, List, [], ◌∷◌, Option, None, length, map}
use Rattle.std.specs.List.{filter}
use Rattle.rap_base.specs.NodeKind.{NAME_REF}
use Rattle.rap_base.specs.TokenKind.{EOF, ERROR}
use Rattle.rap_fields.specs.Field.{Field}
use Rattle.rap_fields.specs.Filled.{IsOne}
use Rattle.rap_fields.specs.Place.{FieldRow, cut, is_mark, node_mark}
use Rattle.rap_fields.specs.PlacedRows.{placed}
use Rattle.rap_fields.specs.Rows.{fields}
use Rattle.rap_fields.specs.Rule.{Look, fitting, found, one_of, which_of}
use Rattle.rap_fields.specs.RuleOf.{rule_of}
use Rattle.rap_grammar_shapes.specs.Shapes.{shape_of}
use Rattle.rap_grammar_table.specs.Counts.{IsAtMost}
use Rattle.rap_grammar_table.specs.Known.{every_one}
use Rattle.rap_grammar_table.specs.Shapes.{Child, leaf_child, node_child, message_child, float_child, Spells}

-- each number is smaller than all behind it
abbrev pub grows : List ℕ → Bool
grows [] = true
grows (x ∷ xs) = every_one (nat_lt x) xs && grows xs

-- The kind of a leaf or a node. A message has none, and of a tree no float is taken apart.
abbrev pub kind_of : Child → ℕ
kind_of (leaf_child k) = k
kind_of (node_child k) = k
kind_of message_child = EOF
kind_of float_child = NAME_REF

-- A leaf of a token's kind, or a node of a node's. The kinds of tokens are up to ERROR, and those of nodes from there.
abbrev pub is_of_tree : Child → Bool
is_of_tree (leaf_child k) = nat_lt k (suc ERROR)
is_of_tree (node_child k) = nat_lt ERROR (suc k)
is_of_tree message_child = false
is_of_tree float_child = false

-- the children, by their numbers, that are nodes of a field's kinds in the field's part of them
abbrev pub nodes_there : FieldRow → (ℕ → Child) → List ℕ → List ℕ
nodes_there r child xs = filter (λ x. is_mark (node_mark r.field.kinds) (child x)) (cut child r.cut xs)

-- all that the last look of a rule is for, at the place that those before it tell
abbrev pub last_fitting : (ℕ → ℕ) → Option ℕ → List Look → List ℕ → List ℕ
last_fitting kind m [] xs = []
last_fitting kind m (l ∷ []) xs = fitting kind m l xs
last_fitting kind m (l ∷ k ∷ ls) xs = last_fitting kind (one_of (which_of l) (fitting kind m l xs)) (k ∷ ls) xs

-- as many as a field says
pub record AsMany (f : Field) (xs : List ℕ) : Type 0 where
  pub at_least : f.fewest ≤ length xs
  pub at_most : IsAtMost (length xs) f.most

-- The looks of a rule are for exactly the nodes of the field's kinds in its part of the children, and find the one of
-- them that the field is about: the first, or the last. Of a whole node there are as many as the field says.
pub record Finds (kind : ℕ) (r : FieldRow) (ls : List Look) (child : ℕ → Child) (xs : List ℕ) : Type 0 where
  pub fit : last_fitting (λ x. kind_of (child x)) None ls xs ≡ nodes_there r child xs
  pub finds : found (λ x. kind_of (child x)) None ls xs ≡ one_of r.which (nodes_there r child xs)
  pub as_many : Spells (shape_of kind) (map child xs) → AsMany r.field (nodes_there r child xs)

-- So it is of each field of each kind, and of any children, whole or not, that are named by growing numbers.
abbrev pub RulesFind : List (ℕ × List FieldRow) → Type 0
RulesFind rows =
    (kind : ℕ) (rs : List FieldRow) (r : FieldRow) → IsOne (kind, rs) rows → IsOne r rs →
    (child : ℕ → Child) (xs : List ℕ) → grows xs ≡ true → every_one (λ x. is_of_tree (child x)) xs ≡ true →
    Finds kind r (rule_of kind r.number) child xs

abbrev pub FieldRulesFind : Type 0
FieldRulesFind = RulesFind fields

abbrev pub PlacedRulesFind : Type 0
PlacedRulesFind = RulesFind placed
