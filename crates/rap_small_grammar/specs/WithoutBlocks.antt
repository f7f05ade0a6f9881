-- What is left of the small grammar where no block is an expression.
use Rattle.std.specs.Prelude.{ℕ, suc, List, [], ◌∷◌, ◌++◌, ◌≤◌}
use Rattle.rap_base.specs.TokenKind.{EQ, L_CURLY, R_CURLY, SEMICOLON, AMP, STAR, BANG, MINUS, DOT, COMMA, QUESTION, L_PAREN, R_PAREN, L_BRACK, R_BRACK, MUT_KW, MOD_KW, STRUCT_KW, FN_KW, LET_KW, INT_NUMBER}
use Rattle.rap_base.specs.NodeKind.{BIN_EXPR, REF_EXPR, PREFIX_EXPR, LITERAL, PAREN_EXPR, PATH_EXPR, NAME_REF, CALL_EXPR, INDEX_EXPR, TRY_EXPR, METHOD_CALL_EXPR, FIELD_EXPR, ARG_LIST, LET_STMT, EXPR_STMT, STMT_LIST, BLOCK_EXPR, MODULE, STRUCT, FN, ITEM_LIST, SOURCE_FILE}
use Rattle.rap_events.specs.Record.{Record}
use Rattle.rap_events.specs.Composite.{width}
use Rattle.rap_events.specs.Forest.{Forest, none, node, leaf, ◌⧺◌}
use Rattle.rap_small_grammar.specs.Derives.{Is, IsOneOf, IsLiteral, IsOperator, IsNamedField, Category, Maybe, Many, Elements, Expression, Binary, Unary, Postfix, Arguments, Atom, Path, Reference, Name, Bind, Visibility, Annotation, Value, Statement, Contents, Block, Item, Items, Fields, Tuple, Params, Return, File, Derives}

-- These tokens are in this category of it, with this tree. Parts in which no expression can stand are those of the small
-- grammar, in which their rows are the same.
pub data Plain : Category → List Record → Forest → Type 0 where
  maybe_none : {c : Category} → Plain (Maybe c) [] none
  maybe_some : {c : Category} {ks : List Record} {t : Forest} → Plain c ks t → Plain (Maybe c) ks t
  many_none : {c : Category} → Plain (Many c) [] none
  many_more : {c : Category} {ks js : List Record} {t u : Forest} → Plain c ks t → Plain (Many c) js u →
      Plain (Many c) (ks ++ js) (t ⧺ u)
  element_last : {c : Category} {ks : List Record} {t : Forest} → Plain c ks t → Plain (Elements c) ks t
  element_comma : {c : Category} {a : Record} {ks : List Record} {t : Forest} → Plain c ks t → Is a COMMA →
      Plain (Elements c) (ks ++ a ∷ []) (leaf t COMMA 1)
  element_more : {c : Category} {a : Record} {ks js : List Record} {t u : Forest} → Plain c ks t → Is a COMMA →
      Plain (Elements c) js u → Plain (Elements c) (ks ++ a ∷ js) (leaf t COMMA 1 ⧺ u)
  atom_literal : {r : Record} → IsLiteral r → Plain Atom (r ∷ []) (node none LITERAL (leaf none r.kind 1))
  atom_path : {ks : List Record} {t : Forest} → Derives Path ks t → Plain Atom ks (node none PATH_EXPR t)
  atom_paren : {a b : Record} {ks : List Record} {t : Forest} → Is a L_PAREN → Plain Expression ks t → Is b R_PAREN →
      Plain Atom (a ∷ (ks ++ b ∷ [])) (node none PAREN_EXPR (leaf (leaf none L_PAREN 1 ⧺ t) R_PAREN 1))
  postfix_atom : {ks : List Record} {t : Forest} → Plain Atom ks t → Plain Postfix ks t
  postfix_call : {ks js : List Record} {t u : Forest} → Plain Postfix ks t → ¬ IsNamedField t → Plain Arguments js u →
      Plain Postfix (ks ++ js) (node none CALL_EXPR (t ⧺ u))
  postfix_index : {a b : Record} {ks js : List Record} {t u : Forest} → Plain Postfix ks t → Is a L_BRACK →
      Plain Expression js u → Is b R_BRACK →
      Plain Postfix (ks ++ a ∷ (js ++ b ∷ [])) (node none INDEX_EXPR (leaf (leaf t L_BRACK 1 ⧺ u) R_BRACK 1))
  postfix_try : {a : Record} {ks : List Record} {t : Forest} → Plain Postfix ks t → Is a QUESTION →
      Plain Postfix (ks ++ a ∷ []) (node none TRY_EXPR (leaf t QUESTION 1))
  postfix_field : {a : Record} {ks js : List Record} {t u : Forest} → Plain Postfix ks t → Is a DOT →
      Derives Reference js u → Plain Postfix (ks ++ a ∷ js) (node none FIELD_EXPR (leaf t DOT 1 ⧺ u))
  postfix_number : {a b : Record} {ks : List Record} {t : Forest} → Plain Postfix ks t → Is a DOT → Is b INT_NUMBER →
      Plain Postfix (ks ++ a ∷ b ∷ []) (node none FIELD_EXPR (node (leaf t DOT 1) NAME_REF (leaf none INT_NUMBER 1)))
  postfix_method : {a : Record} {ks js is : List Record} {t u v : Forest} → Plain Postfix ks t → Is a DOT →
      Derives Reference js u → Plain Arguments is v →
      Plain Postfix (ks ++ a ∷ (js ++ is)) (node none METHOD_CALL_EXPR (leaf t DOT 1 ⧺ u ⧺ v))
  argument_list : {a b : Record} {ks : List Record} {t : Forest} → Is a L_PAREN →
      Plain (Maybe (Elements Expression)) ks t → Is b R_PAREN →
      Plain Arguments (a ∷ (ks ++ b ∷ [])) (node none ARG_LIST (leaf (leaf none L_PAREN 1 ⧺ t) R_PAREN 1))
  unary_prefix : {a : Record} {ks : List Record} {t : Forest} → IsOneOf a (MINUS ∷ BANG ∷ STAR ∷ []) →
      Plain Unary ks t → Plain Unary (a ∷ ks) (node none PREFIX_EXPR (leaf none a.kind 1 ⧺ t))
  unary_ref : {a : Record} {ks : List Record} {t : Forest} → Is a AMP → Plain Unary ks t →
      Plain Unary (a ∷ ks) (node none REF_EXPR (leaf none AMP 1 ⧺ t))
  unary_ref_mut : {a b : Record} {ks : List Record} {t : Forest} → Is a AMP → Is b MUT_KW → Plain Unary ks t →
      Plain Unary (a ∷ b ∷ ks) (node none REF_EXPR (leaf (leaf none AMP 1) MUT_KW 1 ⧺ t))
  unary_postfix : {ks : List Record} {t : Forest} → Plain Postfix ks t → Plain Unary ks t
  binary_unary : {ks : List Record} {t : Forest} → Plain Unary ks t → Plain (Binary 12) ks t
  binary_tighter : {p : ℕ} {ks : List Record} {t : Forest} → 3 ≤ p → p ≤ 11 → Plain (Binary (suc p)) ks t →
      Plain (Binary p) ks t
  binary_operator : {p op : ℕ} {ks os js : List Record} {t u : Forest} → 3 ≤ p → p ≤ 11 → Plain (Binary p) ks t →
      IsOperator os op p js → Plain (Binary (suc p)) js u →
      Plain (Binary p) (ks ++ (os ++ js)) (node none BIN_EXPR (leaf t op (width op) ⧺ u))
  expression_binary : {ks : List Record} {t : Forest} → Plain (Binary 3) ks t → Plain Expression ks t
  expression_assign : {op : ℕ} {ks os js : List Record} {t u : Forest} → Plain (Binary 3) ks t →
      IsOperator os op 1 js → Plain Expression js u →
      Plain Expression (ks ++ (os ++ js)) (node none BIN_EXPR (leaf t op (width op) ⧺ u))
  value_given : {a : Record} {ks : List Record} {t : Forest} → Is a EQ → Plain Expression ks t →
      Plain Value (a ∷ ks) (leaf none EQ 1 ⧺ t)
  statement_let : {a b : Record} {ks js is : List Record} {t u v : Forest} → Is a LET_KW → Derives Bind ks t →
      Derives (Maybe Annotation) js u → Plain (Maybe Value) is v → Is b SEMICOLON →
      Plain Statement (a ∷ (ks ++ (js ++ (is ++ b ∷ []))))
      (node none LET_STMT (leaf (leaf none LET_KW 1 ⧺ t ⧺ u ⧺ v) SEMICOLON 1))
  statement_expression : {a : Record} {ks : List Record} {t : Forest} → Plain Expression ks t → Is a SEMICOLON →
      Plain Statement (ks ++ a ∷ []) (node none EXPR_STMT (leaf t SEMICOLON 1))
  contents_of : {ks js : List Record} {t u : Forest} → Plain (Many Statement) ks t → Plain (Maybe Expression) js u →
      Plain Contents (ks ++ js) (t ⧺ u)
  block_of : {a b : Record} {ks : List Record} {t : Forest} → Is a L_CURLY → Plain Contents ks t → Is b R_CURLY →
      Plain Block (a ∷ (ks ++ b ∷ []))
      (node none BLOCK_EXPR (node none STMT_LIST (leaf (leaf none L_CURLY 1 ⧺ t) R_CURLY 1)))
  item_module : {a b : Record} {is ks : List Record} {v t : Forest} → Derives (Maybe Visibility) is v → Is a MOD_KW →
      Derives Name ks t → Is b SEMICOLON →
      Plain Item (is ++ a ∷ (ks ++ b ∷ [])) (node none MODULE (leaf (leaf v MOD_KW 1 ⧺ t) SEMICOLON 1))
  item_module_of : {a : Record} {is ks js : List Record} {v t u : Forest} → Derives (Maybe Visibility) is v →
      Is a MOD_KW → Derives Name ks t → Plain Items js u →
      Plain Item (is ++ a ∷ (ks ++ js)) (node none MODULE (leaf v MOD_KW 1 ⧺ t ⧺ u))
  item_struct : {a b : Record} {is ks : List Record} {v t : Forest} → Derives (Maybe Visibility) is v → Is a STRUCT_KW →
      Derives Name ks t → Is b SEMICOLON →
      Plain Item (is ++ a ∷ (ks ++ b ∷ [])) (node none STRUCT (leaf (leaf v STRUCT_KW 1 ⧺ t) SEMICOLON 1))
  item_struct_fields : {a : Record} {is ks js : List Record} {v t u : Forest} → Derives (Maybe Visibility) is v →
      Is a STRUCT_KW → Derives Name ks t → Derives Fields js u →
      Plain Item (is ++ a ∷ (ks ++ js)) (node none STRUCT (leaf v STRUCT_KW 1 ⧺ t ⧺ u))
  item_struct_tuple : {a b : Record} {is ks js : List Record} {v t u : Forest} → Derives (Maybe Visibility) is v →
      Is a STRUCT_KW → Derives Name ks t → Derives Tuple js u → Is b SEMICOLON →
      Plain Item (is ++ a ∷ (ks ++ (js ++ b ∷ []))) (node none STRUCT (leaf (leaf v STRUCT_KW 1 ⧺ t ⧺ u) SEMICOLON 1))
  item_function : {a : Record} {is ks js ms ns : List Record} {v t u w x : Forest} → Derives (Maybe Visibility) is v →
      Is a FN_KW → Derives Name ks t → Derives Params js u → Derives (Maybe Return) ms w → Plain Block ns x →
      Plain Item (is ++ a ∷ (ks ++ (js ++ (ms ++ ns)))) (node none FN (leaf v FN_KW 1 ⧺ t ⧺ u ⧺ w ⧺ x))
  items_of : {a b : Record} {ks : List Record} {t : Forest} → Is a L_CURLY → Plain (Many Item) ks t → Is b R_CURLY →
      Plain Items (a ∷ (ks ++ b ∷ [])) (node none ITEM_LIST (leaf (leaf none L_CURLY 1 ⧺ t) R_CURLY 1))
  file_of : {ks : List Record} {t : Forest} → Plain (Many Item) ks t → Plain File ks (node none SOURCE_FILE t)
