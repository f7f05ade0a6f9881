-- Rows that are wrong are refused.
use Rattle.std.proofs.Common.{◌≡◌, ℕ, Bool, true, false, refl, [], ◌∷◌}
use Rattle.rap_base.specs.NodeKind.{BIN_EXPR, CALL_EXPR, CAST_EXPR, DYN_TRAIT_TYPE, FIELD_EXPR, INFER_TYPE, NAME_REF, NEVER_TYPE, PARAM_LIST, PATH, PATH_SEGMENT, PATH_TYPE, PTR_TYPE, REF_TYPE, SLICE_TYPE, TUPLE_FIELD, TUPLE_FIELD_LIST, TUPLE_TYPE, STRUCT, VISIBILITY}
use Rattle.rap_base.specs.TokenKind.{IDENT, SEMICOLON, L_PAREN, R_PAREN, L_BRACK, AMP, STAR, BANG, PLUS, QUESTION, MUT_KW, DYN_KW, PUB_KW, STRUCT_KW}
use Rattle.rap_grammar_scripts.specs.Items.{item_or_macro}
use Rattle.rap_grammar_scripts.specs.Knot.{script_of}
use Rattle.rap_grammar_scripts.specs.Script.{something}
use Rattle.rap_grammar_scripts.specs.declared.arguments.Semicolon.TheVariants as semicolon
use Rattle.rap_grammar_scripts.specs.declared.rule.Rule.TheVariants as knot
use Rattle.rap_grammar_scripts.specs.Test.{negated}
use Rattle.rap_grammar_scripts.specs.Types.{type_with_bounds_cond}
use Rattle.rap_grammar_table.specs.Category.{Ty, PlainTy, Args, Item, Block, Expr, Stmt, Attr, ArgList, Atom, Operand, Closed, Level, Product, Sum}
use Rattle.rap_grammar_table.specs.SharedRows.{lifetime, name}
use Rattle.rap_grammar_table.specs.ExprRows.{field_part}
use Rattle.rap_grammar_table.specs.ItemRows.{opt_visibility, restriction, restricts}
use Rattle.rap_grammar_table.proofs.Lasts.{ends_plain}
use Rattle.rap_grammar_table.proofs.Look.{followed, is_one_node, depth}
use Rattle.rap_grammar_table.specs.Notation.{Part, ◌⊳◌, t, ts, c, node, opt, either, commas, guard, turn, around, row, of_kinds}
use Rattle.rap_grammar_table.proofs.Refusal.{Verdict, accepted, refused}
use Rattle.rap_grammar_table.proofs.Table.{table}
use Rattle.rap_grammar_table.specs.StmtRows.{let_else}
use Rattle.rap_grammar_table.specs.TypeRows.{fn_pointer_param, opt_args}
use Rattle.rap_grammar_table.proofs.Walk.{reads_row}
use Rattle.rap_grammar_table.proofs.ExprRows.{expr_rule}
use Rattle.rap_grammar_table.proofs.Scripts.{scripts}
use Rattle.rap_grammar_table.proofs.Tests.{tests}

abbrev is_accepted : Verdict → Bool
is_accepted accepted = true
is_accepted (refused r) = false

abbrev as_type : Part → Bool
as_type a =
    is_accepted (reads_row table (table.follows Ty) (type_with_bounds_cond true) (something ∷ []) (row a))

abbrev as_item : Part → Bool
as_item a = is_accepted (reads_row table (table.follows Item) (item_or_macro true true) (something ∷ []) (row a))

-- another node, a piece left out, pieces in another order, no node
wrong_kind : as_type (node INFER_TYPE (t BANG)) ≡ false
unfolding scripts tests
wrong_kind = refl

no_bracket : as_type (node SLICE_TYPE (t L_BRACK ⊳ c Ty)) ≡ false
unfolding scripts tests
no_bracket = refl

no_qualifier : as_type (node PTR_TYPE (t STAR ⊳ c PlainTy)) ≡ false
unfolding scripts tests
no_qualifier = refl

other_order : as_type (node REF_TYPE (t AMP ⊳ opt (t MUT_KW) ⊳ opt lifetime ⊳ c PlainTy)) ≡ false
unfolding scripts tests
other_order = refl

no_node : as_type (t BANG) ≡ false
unfolding scripts tests
no_node = refl

-- a tuple of one type without its comma, and a category where another stands
no_comma : as_type (node TUPLE_TYPE (t L_PAREN ⊳ c Ty ⊳ t R_PAREN)) ≡ false
unfolding scripts tests
no_comma = refl

other_category : as_type (node REF_TYPE (t AMP ⊳ c Ty)) ≡ false
unfolding scripts tests
other_category = refl

-- a token of more kinds than the script takes, and a name that may be read as `dyn`
more_kinds : as_type (node NEVER_TYPE (ts (BANG ∷ STAR ∷ []))) ≡ false
unfolding scripts tests
more_kinds = refl

any_word :
    as_type (node PATH_TYPE (node PATH (node PATH_SEGMENT (node NAME_REF (ts (IDENT ∷ [])) ⊳ opt_args)))) ≡ false
unfolding scripts tests
any_word = refl

-- a category that the script reads by its rows, where another stands
other_part : as_type (node DYN_TRAIT_TYPE (t DYN_KW ⊳ c Args)) ≡ false
unfolding scripts tests
other_part = refl

-- a visibility before a type that may read as its restriction: no condition, and the condition turned
abbrev tuple_struct : Part → Part
tuple_struct a =
    node STRUCT
    (opt_visibility ⊳ t STRUCT_KW ⊳ name ⊳
    node TUPLE_FIELD_LIST (t L_PAREN ⊳ commas (node TUPLE_FIELD (opt a ⊳ c Ty)) ⊳ t R_PAREN) ⊳ t SEMICOLON)

abbrev field_with : Part → Part
field_with a = either (node VISIBILITY (t PUB_KW ⊳ restriction)) a

no_condition : as_item (tuple_struct (field_with (node VISIBILITY (t PUB_KW)))) ≡ false
unfolding scripts tests
no_condition = refl

turned_condition :
    as_item (tuple_struct (field_with (node VISIBILITY (t PUB_KW) ⊳
    guard (negated restricts)))) ≡ false
unfolding scripts tests
turned_condition = refl

-- a category before what may not follow it, and a condition that asks less than what follows
abbrev is_followed : Part → Bool
is_followed a = followed table (row a) (table.follows Ty) (table.follows Ty)

wrong_follower : is_followed (node SLICE_TYPE (t L_BRACK ⊳ c Ty ⊳ t BANG)) ≡ false
wrong_follower = refl

wrong_condition :
    is_followed (node PARAM_LIST
    (t L_PAREN ⊳ commas (fn_pointer_param ((of_kinds (R_PAREN ∷ []) ∷ []) ∷ [])) ⊳ t R_PAREN)) ≡ false
wrong_condition = refl

-- two nodes, and a node with a token behind it, are not one node
two_nodes : is_one_node table depth (row (name ⊳ name)) ≡ false
two_nodes = refl

node_and_token : is_one_node table depth (row (name ⊳ t BANG)) ≡ false
node_and_token = refl

-- Around an operand: an operator before an operand of another power, another node, an operator that the script does not
-- take there, a call after a field by its name. A node that ends where none began, and an attribute before an operand,
-- which begins in it.
abbrev as_expr : Part → Bool
as_expr a =
    is_accepted (reads_row table (table.follows Expr) (script_of (expr_rule false false 1)) (something ∷ []) (row a))

abbrev sum_of : ℕ → ℕ → Level → Part
sum_of kind operator right = c (Operand false) ⊳ around 12 (turn (12 ∷ []) kind (t operator ⊳ c (Closed false right)) 10)

a_sum : as_expr (sum_of BIN_EXPR PLUS Sum) ≡ true
unfolding scripts tests
a_sum = refl

wrong_power : as_expr (sum_of BIN_EXPR PLUS Product) ≡ false
unfolding scripts tests
wrong_power = refl

wrong_node : as_expr (sum_of CAST_EXPR PLUS Sum) ≡ false
unfolding scripts tests
wrong_node = refl

no_operator : as_expr (sum_of BIN_EXPR QUESTION Sum) ≡ false
unfolding scripts tests
no_operator = refl

field_called :
    as_expr (c (Atom false) ⊳
    around 1 (turn (1 ∷ []) CALL_EXPR (c ArgList) 1 ⊳ turn (1 ∷ []) FIELD_EXPR field_part 1)) ≡ false
unfolding scripts tests
field_called = refl

attribute_outside : as_expr (c Attr ⊳ c (Operand false)) ≡ false
unfolding scripts tests
attribute_outside = refl

-- a tighter operator behind a looser one, whose operand would take it
tighter_later :
    followed table (row (c (Operand false) ⊳
    around 12
    (turn (12 ∷ []) BIN_EXPR (t PLUS ⊳ c (Closed false Sum)) 12 ⊳
    turn (12 ∷ []) BIN_EXPR (t STAR ⊳ c (Closed false Product)) 12))) (table.follows Expr) (table.follows Expr) ≡ false
tighter_later = refl

-- two categories are not one node
two_categories : is_one_node table depth (row (c Expr ⊳ c Expr)) ≡ false
two_categories = refl

-- a value before an `else` that may end with a `}`
abbrev as_stmt : Part → Bool
as_stmt a =
    is_accepted (reads_row table (table.follows Stmt) (script_of (knot.Stmt semicolon.Required)) (something ∷ []) (row a))

braced_value : as_stmt (let_else Expr (t SEMICOLON)) ≡ false
unfolding scripts tests
braced_value = refl

braced : ends_plain table (row (node TUPLE_TYPE (t L_PAREN ⊳ c Block))) ≡ false
braced = refl
