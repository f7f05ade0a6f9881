-- What the shapes say of some kinds.
use Rattle.std.specs.Prelude.{◌≡◌, ℕ, true, List, [], ◌∷◌}
use Rattle.rap_base.specs.NodeKind.{BIN_EXPR, CONST_PARAM, ENUM, FN, IDENT_PAT, MACRO_DEF, MACRO_RULES, MODULE, NAME, RECORD_FIELD, SELF_PARAM, STATIC, STRUCT, TRAIT, TYPE_ALIAS, TYPE_PARAM, UNION}
use Rattle.rap_grammar_table.specs.Counts.{AreBetween, nodes_of}
use Rattle.rap_grammar_table.specs.Known.{among}
use Rattle.rap_grammar_table.specs.Shaped.{EndsInBody}
use Rattle.rap_grammar_table.specs.Shapes.{Child, leaf_child, node_child, Spells}
use Rattle.rap_grammar_shapes.specs.Shapes.{expressions, operators, shape_of}

-- This is so of whatever children the shape of a kind spells.
abbrev pub ShapeSays : ℕ → (List Child → Type 0) → Type 0
ShapeSays kind P = (children : List Child) → Spells (shape_of kind) children → P children

-- Of each kind of nodes as many are among them as the shape has, at least and at most.
abbrev pub ShapesCount : Type 0
ShapesCount = (kind counted : ℕ) → ShapeSays kind (AreBetween counted (shape_of kind))

-- kinds with exactly one name
abbrev pub named_kinds : List ℕ
named_kinds =
    MODULE ∷ TYPE_ALIAS ∷ MACRO_RULES ∷ MACRO_DEF ∷ FN ∷ STRUCT ∷ UNION ∷ ENUM ∷ RECORD_FIELD ∷ STATIC ∷ TRAIT ∷
    SELF_PARAM ∷ IDENT_PAT ∷ TYPE_PARAM ∷ CONST_PARAM ∷ []

abbrev pub ShapesName : Type 0
ShapesName = (kind : ℕ) → among named_kinds kind ≡ true → ShapeSays kind (λ cs. nodes_of NAME cs ≡ 1)

-- an expression, an operator, and an expression
pub record IsOperation (children : List Child) : Type 0 where
  pub left : ℕ
  pub operator : ℕ
  pub right : ℕ
  pub children_are : children ≡ node_child left ∷ leaf_child operator ∷ node_child right ∷ []
  pub left_is : among expressions left ≡ true
  pub operator_is : among operators operator ≡ true
  pub right_is : among expressions right ≡ true

-- A function ends in its body or a semicolon, and no other part of it is a block; a binary expression is an operation.
pub record ShapesHaveParts : Type 0 where
  pub functions : ShapeSays FN EndsInBody
  pub binaries : ShapeSays BIN_EXPR IsOperation
