-- Laws of the children of nodes in the table's trees.
use Rattle.std.specs.Prelude.{◌≡◌, ◌⊎◌, ◌<◌, ℕ, true, List, [], ◌∷◌, ◌++◌}
use Rattle.rap_base.specs.NodeKind.{ABI, ARRAY_EXPR, ATTR, AWAIT_EXPR, BECOME_EXPR, BIN_EXPR, BLOCK_EXPR, BREAK_EXPR, CALL_EXPR, CAST_EXPR, CLOSURE_EXPR, CONST_PARAM, CONTINUE_EXPR, DOC_COMMENT, ENUM, FIELD_EXPR, FN, FOR_EXPR, GENERIC_PARAM_LIST, IDENT_PAT, IF_EXPR, INDEX_EXPR, LET_EXPR, LITERAL, LOOP_EXPR, MACRO_EXPR, MACRO_RULES, MATCH_EXPR, METHOD_CALL_EXPR, MODULE, NAME, PARAM_LIST, PAREN_EXPR, PATH_EXPR, PREFIX_EXPR, RANGE_EXPR, RECORD_EXPR, RECORD_FIELD, REF_EXPR, RETURN_EXPR, RET_TYPE, SELF_PARAM, STATIC, STRUCT, TRAIT, TRY_EXPR, TUPLE_EXPR, TYPE_ALIAS, TYPE_PARAM, UNDERSCORE_EXPR, UNION, VARIANT, VISIBILITY, WHERE_CLAUSE, WHILE_EXPR, YIELD_EXPR}
use Rattle.rap_base.specs.TokenKind.{ASYNC_KW, CONST_KW, DEFAULT_KW, FN_KW, SEMICOLON, UNSAFE_KW}
use Rattle.rap_events.specs.Forest.{Forest}
use Rattle.rap_events.specs.Power.{power}
use Rattle.rap_events.specs.Record.{Record}
use Rattle.rap_grammar_ends.specs.StandsIn.{NodeAt}
use Rattle.rap_grammar_table.specs.Again.{IsTableTree}
use Rattle.rap_grammar_table.specs.Counts.{AreBetween, nodes_of}
use Rattle.rap_grammar_table.specs.Known.{among}
use Rattle.rap_grammar_table.specs.Shapes.{Child, leaf_child, node_child, children_of, Shape, nothing, leaf_of, node_of, ◌⋅◌, ◌or◌, any_of, shape, Spells}

-- This is so of the children of each node of a kind, wherever it stands in a tree of the table.
abbrev pub ChildrenAre : ℕ → (List Child → Type 0) → Type 0
ChildrenAre kind P =
    (tokens : List Record) (tree children : Forest) (place : ℕ) → IsTableTree tokens tree →
    NodeAt tree place kind children → P (children_of children)

-- They are of the shape of its kind.
abbrev pub HaveShapes : Type 0
HaveShapes = (kind : ℕ) → ChildrenAre kind (Spells (shape kind))

-- Of each kind of nodes as many are among them as the shape has.
abbrev pub HaveCounts : Type 0
HaveCounts = (kind counted : ℕ) → ChildrenAre kind (AreBetween counted (shape kind))

-- kinds with exactly one name
abbrev pub named_kinds : List ℕ
named_kinds =
    STRUCT ∷ UNION ∷ ENUM ∷ VARIANT ∷ RECORD_FIELD ∷ MODULE ∷ TYPE_ALIAS ∷ STATIC ∷ FN ∷ SELF_PARAM ∷ TRAIT ∷
    MACRO_RULES ∷ TYPE_PARAM ∷ CONST_PARAM ∷ IDENT_PAT ∷ []

abbrev pub HaveOneName : Type 0
HaveOneName = (kind : ℕ) → among named_kinds kind ≡ true → ChildrenAre kind (λ cs. nodes_of NAME cs ≡ 1)

-- The parts of a function, in order; the last is its body, or a semicolon, and no other part is a block.
abbrev pub optional : Shape → Shape
optional a = a or nothing

abbrev pub fn_qualifiers : Shape
fn_qualifiers =
    optional (leaf_of (CONST_KW ∷ [])) ⋅ optional (leaf_of (ASYNC_KW ∷ [])) ⋅ optional (leaf_of (UNSAFE_KW ∷ [])) ⋅
    optional (node_of (ABI ∷ []))

abbrev pub default_qualifiers : Shape
default_qualifiers =
    leaf_of (DEFAULT_KW ∷ []) ⋅ optional (leaf_of (ASYNC_KW ∷ [])) ⋅ optional (leaf_of (UNSAFE_KW ∷ []))

abbrev pub fn_head : Shape
fn_head =
    any_of (node_of (ATTR ∷ DOC_COMMENT ∷ [])) ⋅ optional (node_of (VISIBILITY ∷ [])) ⋅
    (fn_qualifiers or default_qualifiers) ⋅ leaf_of (FN_KW ∷ []) ⋅ node_of (NAME ∷ []) ⋅
    optional (node_of (GENERIC_PARAM_LIST ∷ [])) ⋅ node_of (PARAM_LIST ∷ []) ⋅ optional (node_of (RET_TYPE ∷ [])) ⋅
    optional (node_of (WHERE_CLAUSE ∷ []))

abbrev pub fn_shape : Shape
fn_shape = fn_head ⋅ (leaf_of (SEMICOLON ∷ []) or node_of (BLOCK_EXPR ∷ []))

pub record EndsInBody (children : List Child) : Type 0 where
  pub head : List Child
  pub body : Child
  pub children_are : children ≡ head ++ body ∷ []
  pub body_is : (body ≡ leaf_child SEMICOLON) ⊎ (body ≡ node_child BLOCK_EXPR)
  pub no_other : nodes_of BLOCK_EXPR head ≡ 0

-- a binary expression: an expression, an operator, and an expression
abbrev pub expr_kinds : List ℕ
expr_kinds =
    LITERAL ∷ PATH_EXPR ∷ MACRO_EXPR ∷ PAREN_EXPR ∷ TUPLE_EXPR ∷ ARRAY_EXPR ∷ UNDERSCORE_EXPR ∷ RECORD_EXPR ∷
    BLOCK_EXPR ∷ IF_EXPR ∷ MATCH_EXPR ∷ LOOP_EXPR ∷ WHILE_EXPR ∷ FOR_EXPR ∷ CALL_EXPR ∷ METHOD_CALL_EXPR ∷
    INDEX_EXPR ∷ FIELD_EXPR ∷ TRY_EXPR ∷ AWAIT_EXPR ∷ PREFIX_EXPR ∷ REF_EXPR ∷ CAST_EXPR ∷ BIN_EXPR ∷ RANGE_EXPR ∷
    LET_EXPR ∷ CLOSURE_EXPR ∷ RETURN_EXPR ∷ YIELD_EXPR ∷ BECOME_EXPR ∷ BREAK_EXPR ∷ CONTINUE_EXPR ∷ []

pub record IsBinary (children : List Child) : Type 0 where
  pub left : ℕ
  pub operator : ℕ
  pub right : ℕ
  pub children_are : children ≡ node_child left ∷ leaf_child operator ∷ node_child right ∷ []
  pub left_is : among expr_kinds left ≡ true
  pub operator_is : 0 < power operator
  pub right_is : among expr_kinds right ≡ true
