-- The small grammar: which tokens make which tree.
use Rattle.std.specs.Prelude.{◌≡◌, ◌≢◌, ◌⊎◌, ℕ, suc, List, [], ◌∷◌, ◌++◌, ◌≤◌, Bool, true, false, if◌then◌else◌}
use Rattle.rap_base.specs.TokenKind.{EOF, EQ, L_CURLY, R_CURLY, SEMICOLON, IDENT, AMP, STAR, BANG, MINUS, DOT, COLON, COLON2, COMMA, QUESTION, THIN_ARROW, L_PAREN, R_PAREN, L_BRACK, R_BRACK, MUT_KW, PUB_KW, MOD_KW, STRUCT_KW, FN_KW, LET_KW, IF_KW, ELSE_KW, WHILE_KW, LOOP_KW, INT_NUMBER, TRUE_KW, FALSE_KW}
use Rattle.rap_base.specs.TokenTests.{is_literal}
use Rattle.rap_base.specs.NodeKind.{BIN_EXPR, REF_EXPR, PREFIX_EXPR, LITERAL, PAREN_EXPR, PATH_EXPR, PATH, PATH_SEGMENT, NAME_REF, CALL_EXPR, INDEX_EXPR, TRY_EXPR, METHOD_CALL_EXPR, FIELD_EXPR, ARG_LIST, PATH_TYPE, REF_TYPE, SLICE_TYPE, NAME, IDENT_PAT, VISIBILITY, LET_STMT, EXPR_STMT, STMT_LIST, BLOCK_EXPR, IF_EXPR, WHILE_EXPR, LOOP_EXPR, MODULE, STRUCT, FN, ITEM_LIST, RECORD_FIELD_LIST, RECORD_FIELD, TUPLE_FIELD_LIST, TUPLE_FIELD, PARAM_LIST, PARAM, RET_TYPE, SOURCE_FILE}
use Rattle.rap_events.specs.Record.{Record, next_kind}
use Rattle.rap_events.specs.Composite.{parts, width}
use Rattle.rap_events.specs.Forest.{Forest, none, node, leaf, ◌⧺◌}
use Rattle.rap_events.specs.Power.{power}
use Rattle.rap_grammar_scripts.specs.First.{one_of}

-- an identifier that is read as nothing else
pub record IsName (r : Record) : Type 0 where
  pub kind : r.kind ≡ IDENT
  pub contextual : r.contextual ≡ IDENT

-- a token of this kind
pub record Is (r : Record) (kind : ℕ) : Type 0 where
  pub kind_is : r.kind ≡ kind

-- a token of one of these kinds
pub record IsOneOf (r : Record) (kinds : List ℕ) : Type 0 where
  pub among : one_of kinds r.kind ≡ true

-- a literal's token
abbrev pub IsLiteral : Record → Type 0
IsLiteral r = (is_literal r.kind ≡ true) ⊎ IsOneOf r (TRUE_KW ∷ FALSE_KW ∷ [])

-- exactly tokens of these kinds, each but the last touching the one after it
abbrev pub Touching : List ℕ → List Record → Type 0
Touching [] rs = ⊥
Touching (k ∷ ks) [] = ⊥
Touching (k ∷ []) (r ∷ []) = r.kind ≡ k
Touching (k ∷ []) (r ∷ s ∷ rs) = ⊥
Touching (k ∷ j ∷ ks) (r ∷ rs) = (r.kind ≡ k) × (r.joint ≡ true) × Touching (j ∷ ks) rs

-- the kinds of the tokens that a kind is written with: an operator's parts, or the kind itself
abbrev pub tokens_of : List ℕ → ℕ → List ℕ
tokens_of [] kind = kind ∷ []
tokens_of (k ∷ ks) kind = k ∷ ks

-- exactly the tokens that a kind is written with
pub record Writes (rs : List Record) (kind : ℕ) : Type 0 where
  pub touching : Touching (tokens_of (parts kind) kind) rs

-- The tokens of an operator of this power, before those of its right operand. An `&` touches no `&` after it.
pub record IsOperator (os : List Record) (op p : ℕ) (js : List Record) : Type 0 where
  pub power_is : power op ≡ p
  pub writes : Writes os op
  pub apart : op ≡ AMP → next_kind js ≡ AMP → (r : Record) → os ≡ r ∷ [] → r.joint ≢ true

-- a block, or a condition or loop with blocks, by its first token
abbrev pub begins_block : ℕ → Bool
begins_block k = one_of (L_CURLY ∷ IF_KW ∷ WHILE_KW ∷ LOOP_KW ∷ []) k

-- whether one of them begins an expression, past the operators before it
abbrev pub starts_with_block : List Record → Bool
starts_with_block [] = false
starts_with_block (r ∷ rs) =
    if one_of (MINUS ∷ BANG ∷ STAR ∷ AMP ∷ MUT_KW ∷ []) r.kind then starts_with_block rs else begins_block r.kind

-- an expression that begins with none, as in a statement
pub record StartsPlainly (ks : List Record) : Type 0 where
  pub starts : starts_with_block ks ≡ false

-- What is derived: something that may be missing; any number of something; elements with commas between them, at least
-- one; an expression; one of operators of at least a power, 12 being above them all; one with operators before it
-- alone; an operand with what follows it directly; the arguments of a call; an operand alone; a path, one of its
-- segments, and that segment's name; a type; a declared name, and the pattern that it is; `pub`; a type after
-- its colon; a value after its `=`; a statement; what stands in the braces of a block, and a block; a block, a
-- condition or a loop, as an expression; a condition, and what stands after its `else`; an item; items in braces; the
-- fields of a struct in braces, and one of them; those in parentheses, and one of them; the parameters of a function,
-- and one of them; its return type; a file.
pub data Category : Type 0 where
  Maybe : Category → Category
  Many : Category → Category
  Elements : Category → Category
  Expression : Category
  Binary : ℕ → Category
  Unary : Category
  Postfix : Category
  Arguments : Category
  Atom : Category
  Path : Category
  Segment : Category
  Reference : Category
  Ty : Category
  Name : Category
  Bind : Category
  Visibility : Category
  Annotation : Category
  Value : Category
  Statement : Category
  Contents : Category
  Block : Category
  WithBlock : Category
  If : Category
  Else : Category
  Item : Category
  Items : Category
  Fields : Category
  Field : Category
  Tuple : Category
  TupleField : Category
  Params : Category
  Param : Category
  Return : Category
  File : Category

-- the field of a name, as `a.b`
abbrev pub IsNamedField : Forest → Type 0
IsNamedField t = (c : Forest) × (t ≡ node none FIELD_EXPR (node c NAME_REF (leaf none IDENT 1)))

-- These tokens are in this category, with this tree. A constructor is a row of the grammar: its pieces in order, and
-- the node over them, if there is one.
pub data Derives : Category → List Record → Forest → Type 0 where
  maybe_none : {c : Category} → Derives (Maybe c) [] none
  maybe_some : {c : Category} {ks : List Record} {t : Forest} → Derives c ks t → Derives (Maybe c) ks t
  many_none : {c : Category} → Derives (Many c) [] none
  many_more : {c : Category} {ks js : List Record} {t u : Forest} → Derives c ks t → Derives (Many c) js u →
      Derives (Many c) (ks ++ js) (t ⧺ u)
  element_last : {c : Category} {ks : List Record} {t : Forest} → Derives c ks t → Derives (Elements c) ks t
  element_comma : {c : Category} {a : Record} {ks : List Record} {t : Forest} → Derives c ks t → Is a COMMA →
      Derives (Elements c) (ks ++ a ∷ []) (leaf t COMMA 1)
  element_more : {c : Category} {a : Record} {ks js : List Record} {t u : Forest} → Derives c ks t → Is a COMMA →
      Derives (Elements c) js u →
      Derives (Elements c) (ks ++ a ∷ js) (leaf t COMMA 1 ⧺ u)
  reference : {r : Record} → IsName r → Derives Reference (r ∷ []) (node none NAME_REF (leaf none IDENT 1))
  segment : {ks : List Record} {t : Forest} → Derives Reference ks t → Derives Segment ks (node none PATH_SEGMENT t)
  path_one : {ks : List Record} {t : Forest} → Derives Segment ks t → Derives Path ks (node none PATH t)
  path_more : {ks os js : List Record} {t u : Forest} → Derives Path ks t → Writes os COLON2 → Derives Segment js u →
      Derives Path (ks ++ (os ++ js)) (node none PATH (leaf t COLON2 2 ⧺ u))
  atom_literal : {r : Record} → IsLiteral r → Derives Atom (r ∷ []) (node none LITERAL (leaf none r.kind 1))
  atom_path : {ks : List Record} {t : Forest} → Derives Path ks t → Derives Atom ks (node none PATH_EXPR t)
  atom_paren : {a b : Record} {ks : List Record} {t : Forest} → Is a L_PAREN → Derives Expression ks t → Is b R_PAREN →
      Derives Atom (a ∷ (ks ++ b ∷ [])) (node none PAREN_EXPR (leaf (leaf none L_PAREN 1 ⧺ t) R_PAREN 1))
  atom_block : {ks : List Record} {t : Forest} → Derives WithBlock ks t → Derives Atom ks t
  postfix_atom : {ks : List Record} {t : Forest} → Derives Atom ks t → Derives Postfix ks t
  postfix_call : {ks js : List Record} {t u : Forest} → Derives Postfix ks t → ¬ IsNamedField t →
      Derives Arguments js u →
      Derives Postfix (ks ++ js) (node none CALL_EXPR (t ⧺ u))
  postfix_index : {a b : Record} {ks js : List Record} {t u : Forest} → Derives Postfix ks t → Is a L_BRACK →
      Derives Expression js u → Is b R_BRACK →
      Derives Postfix (ks ++ a ∷ (js ++ b ∷ [])) (node none INDEX_EXPR (leaf (leaf t L_BRACK 1 ⧺ u) R_BRACK 1))
  postfix_try : {a : Record} {ks : List Record} {t : Forest} → Derives Postfix ks t → Is a QUESTION →
      Derives Postfix (ks ++ a ∷ []) (node none TRY_EXPR (leaf t QUESTION 1))
  postfix_field : {a : Record} {ks js : List Record} {t u : Forest} → Derives Postfix ks t → Is a DOT →
      Derives Reference js u →
      Derives Postfix (ks ++ a ∷ js) (node none FIELD_EXPR (leaf t DOT 1 ⧺ u))
  postfix_number : {a b : Record} {ks : List Record} {t : Forest} → Derives Postfix ks t → Is a DOT → Is b INT_NUMBER →
      Derives Postfix (ks ++ a ∷ b ∷ []) (node none FIELD_EXPR (node (leaf t DOT 1) NAME_REF (leaf none INT_NUMBER 1)))
  postfix_method : {a : Record} {ks js is : List Record} {t u v : Forest} → Derives Postfix ks t → Is a DOT →
      Derives Reference js u → Derives Arguments is v →
      Derives Postfix (ks ++ a ∷ (js ++ is)) (node none METHOD_CALL_EXPR (leaf t DOT 1 ⧺ u ⧺ v))
  argument_list : {a b : Record} {ks : List Record} {t : Forest} → Is a L_PAREN →
      Derives (Maybe (Elements Expression)) ks t → Is b R_PAREN →
      Derives Arguments (a ∷ (ks ++ b ∷ [])) (node none ARG_LIST (leaf (leaf none L_PAREN 1 ⧺ t) R_PAREN 1))
  unary_prefix : {a : Record} {ks : List Record} {t : Forest} → IsOneOf a (MINUS ∷ BANG ∷ STAR ∷ []) →
      Derives Unary ks t →
      Derives Unary (a ∷ ks) (node none PREFIX_EXPR (leaf none a.kind 1 ⧺ t))
  unary_ref : {a : Record} {ks : List Record} {t : Forest} → Is a AMP → Derives Unary ks t →
      Derives Unary (a ∷ ks) (node none REF_EXPR (leaf none AMP 1 ⧺ t))
  unary_ref_mut : {a b : Record} {ks : List Record} {t : Forest} → Is a AMP → Is b MUT_KW → Derives Unary ks t →
      Derives Unary (a ∷ b ∷ ks) (node none REF_EXPR (leaf (leaf none AMP 1) MUT_KW 1 ⧺ t))
  unary_postfix : {ks : List Record} {t : Forest} → Derives Postfix ks t → Derives Unary ks t
  binary_unary : {ks : List Record} {t : Forest} → Derives Unary ks t → Derives (Binary 12) ks t
  binary_tighter : {p : ℕ} {ks : List Record} {t : Forest} → 3 ≤ p → p ≤ 11 → Derives (Binary (suc p)) ks t →
      Derives (Binary p) ks t
  binary_operator : {p op : ℕ} {ks os js : List Record} {t u : Forest} → 3 ≤ p → p ≤ 11 → Derives (Binary p) ks t →
      IsOperator os op p js → Derives (Binary (suc p)) js u →
      Derives (Binary p) (ks ++ (os ++ js)) (node none BIN_EXPR (leaf t op (width op) ⧺ u))
  expression_binary : {ks : List Record} {t : Forest} → Derives (Binary 3) ks t → Derives Expression ks t
  expression_assign : {op : ℕ} {ks os js : List Record} {t u : Forest} → Derives (Binary 3) ks t →
      IsOperator os op 1 js → Derives Expression js u →
      Derives Expression (ks ++ (os ++ js)) (node none BIN_EXPR (leaf t op (width op) ⧺ u))
  type_path : {ks : List Record} {t : Forest} → Derives Path ks t → Derives Ty ks (node none PATH_TYPE t)
  type_ref : {a : Record} {ks : List Record} {t : Forest} → Is a AMP → Derives Ty ks t →
      Derives Ty (a ∷ ks) (node none REF_TYPE (leaf none AMP 1 ⧺ t))
  type_ref_mut : {a b : Record} {ks : List Record} {t : Forest} → Is a AMP → Is b MUT_KW → Derives Ty ks t →
      Derives Ty (a ∷ b ∷ ks) (node none REF_TYPE (leaf (leaf none AMP 1) MUT_KW 1 ⧺ t))
  type_slice : {a b : Record} {ks : List Record} {t : Forest} → Is a L_BRACK → Derives Ty ks t → Is b R_BRACK →
      Derives Ty (a ∷ (ks ++ b ∷ [])) (node none SLICE_TYPE (leaf (leaf none L_BRACK 1 ⧺ t) R_BRACK 1))
  name_given : {r : Record} → IsName r → Derives Name (r ∷ []) (node none NAME (leaf none IDENT 1))
  bind_name : {ks : List Record} {t : Forest} → Derives Name ks t → Derives Bind ks (node none IDENT_PAT t)
  visibility_pub : {a : Record} → Is a PUB_KW → Derives Visibility (a ∷ []) (node none VISIBILITY (leaf none PUB_KW 1))
  annotation_type : {a : Record} {ks : List Record} {t : Forest} → Is a COLON → Derives Ty ks t →
      Derives Annotation (a ∷ ks) (leaf none COLON 1 ⧺ t)
  value_given : {a : Record} {ks : List Record} {t : Forest} → Is a EQ → Derives Expression ks t →
      Derives Value (a ∷ ks) (leaf none EQ 1 ⧺ t)
  statement_let : {a b : Record} {ks js is : List Record} {t u v : Forest} → Is a LET_KW → Derives Bind ks t →
      Derives (Maybe Annotation) js u → Derives (Maybe Value) is v → Is b SEMICOLON →
      Derives Statement (a ∷ (ks ++ (js ++ (is ++ b ∷ []))))
      (node none LET_STMT (leaf (leaf none LET_KW 1 ⧺ t ⧺ u ⧺ v) SEMICOLON 1))
  statement_expression : {a : Record} {ks : List Record} {t : Forest} → Derives Expression ks t → StartsPlainly ks →
      Is a SEMICOLON →
      Derives Statement (ks ++ a ∷ []) (node none EXPR_STMT (leaf t SEMICOLON 1))
  statement_block : {a : Record} {ks : List Record} {t : Forest} → Derives WithBlock ks t → Is a SEMICOLON →
      Derives Statement (ks ++ a ∷ []) (node none EXPR_STMT (leaf t SEMICOLON 1))
  contents_none : Derives Contents [] none
  contents_value : {ks : List Record} {t : Forest} → Derives Expression ks t → StartsPlainly ks → Derives Contents ks t
  contents_block : {ks : List Record} {t : Forest} → Derives WithBlock ks t → Derives Contents ks t
  contents_statement : {ks js : List Record} {t u : Forest} → Derives Statement ks t → Derives Contents js u →
      Derives Contents (ks ++ js) (t ⧺ u)
  contents_block_before : {ks js : List Record} {t u : Forest} → Derives WithBlock ks t → Derives Contents js u →
      js ≢ [] →
      Derives Contents (ks ++ js) (node none EXPR_STMT t ⧺ u)
  block_of : {a b : Record} {ks : List Record} {t : Forest} → Is a L_CURLY → Derives Contents ks t → Is b R_CURLY →
      Derives Block (a ∷ (ks ++ b ∷ []))
      (node none BLOCK_EXPR (node none STMT_LIST (leaf (leaf none L_CURLY 1 ⧺ t) R_CURLY 1)))
  with_block : {ks : List Record} {t : Forest} → Derives Block ks t → Derives WithBlock ks t
  with_if : {ks : List Record} {t : Forest} → Derives If ks t → Derives WithBlock ks t
  with_while : {a : Record} {ks js : List Record} {t u : Forest} → Is a WHILE_KW → Derives Expression ks t →
      Derives Block js u →
      Derives WithBlock (a ∷ (ks ++ js)) (node none WHILE_EXPR (leaf none WHILE_KW 1 ⧺ t ⧺ u))
  with_loop : {a : Record} {ks : List Record} {t : Forest} → Is a LOOP_KW → Derives Block ks t →
      Derives WithBlock (a ∷ ks) (node none LOOP_EXPR (leaf none LOOP_KW 1 ⧺ t))
  if_of : {a : Record} {ks js is : List Record} {t u v : Forest} → Is a IF_KW → Derives Expression ks t →
      Derives Block js u → Derives (Maybe Else) is v →
      Derives If (a ∷ (ks ++ (js ++ is))) (node none IF_EXPR (leaf none IF_KW 1 ⧺ t ⧺ u ⧺ v))
  else_block : {a : Record} {ks : List Record} {t : Forest} → Is a ELSE_KW → Derives Block ks t →
      Derives Else (a ∷ ks) (leaf none ELSE_KW 1 ⧺ t)
  else_if : {a : Record} {ks : List Record} {t : Forest} → Is a ELSE_KW → Derives If ks t →
      Derives Else (a ∷ ks) (leaf none ELSE_KW 1 ⧺ t)
  item_module : {a b : Record} {is ks : List Record} {v t : Forest} → Derives (Maybe Visibility) is v → Is a MOD_KW →
      Derives Name ks t → Is b SEMICOLON →
      Derives Item (is ++ a ∷ (ks ++ b ∷ [])) (node none MODULE (leaf (leaf v MOD_KW 1 ⧺ t) SEMICOLON 1))
  item_module_of : {a : Record} {is ks js : List Record} {v t u : Forest} → Derives (Maybe Visibility) is v →
      Is a MOD_KW → Derives Name ks t → Derives Items js u →
      Derives Item (is ++ a ∷ (ks ++ js)) (node none MODULE (leaf v MOD_KW 1 ⧺ t ⧺ u))
  item_struct : {a b : Record} {is ks : List Record} {v t : Forest} → Derives (Maybe Visibility) is v → Is a STRUCT_KW →
      Derives Name ks t → Is b SEMICOLON →
      Derives Item (is ++ a ∷ (ks ++ b ∷ [])) (node none STRUCT (leaf (leaf v STRUCT_KW 1 ⧺ t) SEMICOLON 1))
  item_struct_fields : {a : Record} {is ks js : List Record} {v t u : Forest} → Derives (Maybe Visibility) is v →
      Is a STRUCT_KW → Derives Name ks t → Derives Fields js u →
      Derives Item (is ++ a ∷ (ks ++ js)) (node none STRUCT (leaf v STRUCT_KW 1 ⧺ t ⧺ u))
  item_struct_tuple : {a b : Record} {is ks js : List Record} {v t u : Forest} → Derives (Maybe Visibility) is v →
      Is a STRUCT_KW → Derives Name ks t → Derives Tuple js u → Is b SEMICOLON →
      Derives Item (is ++ a ∷ (ks ++ (js ++ b ∷ []))) (node none STRUCT (leaf (leaf v STRUCT_KW 1 ⧺ t ⧺ u) SEMICOLON 1))
  item_function : {a : Record} {is ks js ms ns : List Record} {v t u w x : Forest} → Derives (Maybe Visibility) is v →
      Is a FN_KW → Derives Name ks t → Derives Params js u → Derives (Maybe Return) ms w → Derives Block ns x →
      Derives Item (is ++ a ∷ (ks ++ (js ++ (ms ++ ns)))) (node none FN (leaf v FN_KW 1 ⧺ t ⧺ u ⧺ w ⧺ x))
  items_of : {a b : Record} {ks : List Record} {t : Forest} → Is a L_CURLY → Derives (Many Item) ks t → Is b R_CURLY →
      Derives Items (a ∷ (ks ++ b ∷ [])) (node none ITEM_LIST (leaf (leaf none L_CURLY 1 ⧺ t) R_CURLY 1))
  fields_of : {a b : Record} {ks : List Record} {t : Forest} → Is a L_CURLY → Derives (Maybe (Elements Field)) ks t →
      Is b R_CURLY →
      Derives Fields (a ∷ (ks ++ b ∷ [])) (node none RECORD_FIELD_LIST (leaf (leaf none L_CURLY 1 ⧺ t) R_CURLY 1))
  field_named : {a : Record} {is ks js : List Record} {v t u : Forest} → Derives (Maybe Visibility) is v →
      Derives Name ks t → Is a COLON → Derives Ty js u →
      Derives Field (is ++ (ks ++ a ∷ js)) (node none RECORD_FIELD (leaf (v ⧺ t) COLON 1 ⧺ u))
  tuple_of : {a b : Record} {ks : List Record} {t : Forest} → Is a L_PAREN →
      Derives (Maybe (Elements TupleField)) ks t → Is b R_PAREN →
      Derives Tuple (a ∷ (ks ++ b ∷ [])) (node none TUPLE_FIELD_LIST (leaf (leaf none L_PAREN 1 ⧺ t) R_PAREN 1))
  tuple_field : {ks : List Record} {t : Forest} → Derives Ty ks t → Derives TupleField ks (node none TUPLE_FIELD t)
  params_of : {a b : Record} {ks : List Record} {t : Forest} → Is a L_PAREN → Derives (Maybe (Elements Param)) ks t →
      Is b R_PAREN →
      Derives Params (a ∷ (ks ++ b ∷ [])) (node none PARAM_LIST (leaf (leaf none L_PAREN 1 ⧺ t) R_PAREN 1))
  param_typed : {a : Record} {ks js : List Record} {t u : Forest} → Derives Bind ks t → Is a COLON → Derives Ty js u →
      Derives Param (ks ++ a ∷ js) (node none PARAM (leaf t COLON 1 ⧺ u))
  return_type : {os ks : List Record} {t : Forest} → Writes os THIN_ARROW → Derives Ty ks t →
      Derives Return (os ++ ks) (node none RET_TYPE (leaf none THIN_ARROW 2 ⧺ t))
  file_of : {ks : List Record} {t : Forest} → Derives (Many Item) ks t → Derives File ks (node none SOURCE_FILE t)
