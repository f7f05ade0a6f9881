-- The rows of expressions.
use Rattle.std.specs.Prelude.{ℕ, Bool, true, false, List, [], ◌∷◌, ◌++◌}
use Rattle.rap_base.specs.NodeKind.{ARRAY_EXPR, ARRAY_TYPE, AWAIT_EXPR, BECOME_EXPR, BLOCK_EXPR, BREAK_EXPR, CALL_EXPR, CLOSURE_EXPR, CONST_ARG, CONTINUE_EXPR, FIELD_EXPR, GENERIC_ARG_LIST, INDEX_EXPR, INFER_TYPE, LET_EXPR, MACRO_CALL, MACRO_EXPR, METHOD_CALL_EXPR, NAME_REF, NEVER_TYPE, PARAM, PARAM_LIST, PAREN_EXPR, PAREN_TYPE, PATH_EXPR, PATH_TYPE, PREFIX_EXPR, PTR_TYPE, RANGE_EXPR, RECORD_EXPR, RECORD_EXPR_FIELD, RECORD_EXPR_FIELD_LIST, REF_EXPR, REF_TYPE, RETURN_EXPR, SLICE_TYPE, TRY_EXPR, TUPLE_EXPR, TUPLE_TYPE, UNDERSCORE_EXPR, YIELD_EXPR}
use Rattle.rap_base.specs.TokenKind.{IDENT, SEMICOLON, COMMA, COLON, COLON2, EQ, L_PAREN, R_PAREN, L_BRACK, R_BRACK, L_CURLY, R_CURLY, L_ANGLE, R_ANGLE, AMP, STAR, BANG, MINUS, PIPE, DOT, DOT2, QUESTION, UNDERSCORE, LIFETIME_IDENT, INT_NUMBER, ASYNC_KW, AWAIT_KW, BECOME_KW, BREAK_KW, CONST_KW, CONTINUE_KW, LET_KW, MOVE_KW, MUT_KW, RAW_KW, RETURN_KW, YIELD_KW}
use Rattle.rap_grammar_scripts.specs.Words.{is_at, next_is}
use Rattle.rap_grammar_table.specs.AttributeRows.{tree_in}
use Rattle.rap_grammar_table.specs.Category.{Ty, PlainTy, Argument, Expr, AttrExpr, PlainAtom, ElsePrefixed, StmtList, Pattern, SinglePattern, AtomPath, RoundTree, ArgList, NameExpr, CastTy, CastPath, WithBlock, Atom, Operand, Prefixed, StmtPrefixed, OpenAtom, OpenPrefixed, RecordValue, Assigned, WithCast, And, Category, Or}
use Rattle.rap_grammar_table.specs.SharedRows.{attrs, lifetime, literal, name_ref, path_names}
use Rattle.rap_grammar_table.specs.Notation.{Part, ◌⊳◌, t, ts, weak, op, c, node, opt, either, commas, commas_last, alone, guard, turn, around}
use Rattle.rap_grammar_table.specs.Operators.{all_turns, and_let, and_open, assign_turns, behind, binary_cast, cast_turns, fresh, levels, range_turn, range_with_end, tighter}
use Rattle.rap_grammar_table.specs.TypeRows.{anchored_path, fn_pointer, global_path, named_paths, ret}

-- a value in a list, which may have attributes
abbrev pub value : Part
value = either (c Expr) (c AttrExpr)

abbrev pub round_tree_rows : List Part
round_tree_rows = tree_in L_PAREN R_PAREN ∷ tree_in L_BRACK R_BRACK ∷ []

-- The arguments of a call; and a name that is the value of its field too.
-- a record: its fields, and what the others are taken from
abbrev pub record_field : Part
record_field =
    node RECORD_EXPR_FIELD
    (attrs ⊳
    either (name_ref (IDENT ∷ INT_NUMBER ∷ []) ⊳ guard (is_at COLON2) ⊳ t COLON ⊳ c Expr) (c NameExpr))

abbrev pub record_values : Part
record_values =
    node RECORD_EXPR_FIELD_LIST
    (t L_CURLY ⊳ commas_last (c RecordValue) (either (c RecordValue) (op DOT2 ⊳ opt (c Expr))) ⊳ t R_CURLY)

abbrev pub record_literal : Part
record_literal = node RECORD_EXPR (c AtomPath ⊳ record_values)

-- expressions without an operator, that end by themselves and with no block
abbrev pub plain_atoms : List Part
plain_atoms =
    literal
    ∷ node PATH_EXPR (c AtomPath)
    ∷ node MACRO_EXPR (node MACRO_CALL (c AtomPath ⊳ t BANG ⊳ c RoundTree))
    ∷ node PAREN_EXPR (t L_PAREN ⊳ c Expr ⊳ t R_PAREN)
    ∷ node TUPLE_EXPR (t L_PAREN ⊳ t R_PAREN)
    ∷ node TUPLE_EXPR (t L_PAREN ⊳ value ⊳ t COMMA ⊳ commas value ⊳ t R_PAREN)
    ∷ node ARRAY_EXPR (t L_BRACK ⊳ t R_BRACK)
    ∷ node ARRAY_EXPR (t L_BRACK ⊳ value ⊳ opt (t COMMA ⊳ commas value) ⊳ t R_BRACK)
    ∷ node ARRAY_EXPR (t L_BRACK ⊳ c Expr ⊳ t SEMICOLON ⊳ c Expr ⊳ t R_BRACK)
    ∷ node UNDERSCORE_EXPR (t UNDERSCORE)
    ∷ node CONTINUE_EXPR (t CONTINUE_KW ⊳ opt lifetime)
    ∷ []

abbrev pub atoms : Bool → List Part
atoms false = record_literal ∷ plain_atoms
atoms true = plain_atoms

-- What follows an operand directly: after a field by its name, which is the number 0, no call.
abbrev pub turbofish : Part
turbofish = alone (opt (node GENERIC_ARG_LIST (op COLON2 ⊳ t L_ANGLE ⊳ commas (c Argument) ⊳ t R_ANGLE)))

abbrev pub try_part : Part
try_part = t QUESTION

abbrev pub method_part : Part
method_part = t DOT ⊳ name_ref path_names ⊳ turbofish ⊳ c ArgList

abbrev pub await_part : Part
await_part = t DOT ⊳ t AWAIT_KW

abbrev pub field_part : Part
field_part = t DOT ⊳ name_ref path_names

abbrev pub number_part : Part
number_part = t DOT ⊳ node NAME_REF (t INT_NUMBER)

abbrev pub index_part : Part
index_part = t L_BRACK ⊳ c Expr ⊳ t R_BRACK

abbrev pub postfixes : Part
postfixes =
    turn (1 ∷ []) CALL_EXPR (c ArgList) 1 ⊳
    turn (0 ∷ 1 ∷ []) INDEX_EXPR index_part 1 ⊳
    turn (0 ∷ 1 ∷ []) TRY_EXPR try_part 1 ⊳
    turn (0 ∷ 1 ∷ []) METHOD_CALL_EXPR method_part 1 ⊳
    turn (0 ∷ 1 ∷ []) AWAIT_EXPR await_part 1 ⊳
    turn (0 ∷ 1 ∷ []) FIELD_EXPR field_part 0 ⊳
    turn (0 ∷ 1 ∷ []) FIELD_EXPR number_part 1

-- What is the outermost node where something follows an operand directly, by what it follows.
abbrev pub chained : Part → List Part
chained chain =
    node CALL_EXPR (c (Atom false) ⊳ c ArgList)
    ∷ node INDEX_EXPR (chain ⊳ index_part)
    ∷ node TRY_EXPR (chain ⊳ try_part)
    ∷ node METHOD_CALL_EXPR (chain ⊳ method_part)
    ∷ node AWAIT_EXPR (chain ⊳ await_part)
    ∷ node FIELD_EXPR (chain ⊳ either field_part number_part)
    ∷ []

-- an operator before an operand
abbrev pub ref_before : Category → Part
ref_before category = node REF_EXPR (t AMP ⊳ opt (t MUT_KW) ⊳ c category)

abbrev pub prefix_before : List ℕ → Category → Part
prefix_before kinds category = node PREFIX_EXPR (ts kinds ⊳ c category)

abbrev pub raw_before : Category → Part
raw_before category = node REF_EXPR (t AMP ⊳ weak RAW_KW ⊳ ts (CONST_KW ∷ MUT_KW ∷ []) ⊳ c category)

abbrev pub prefixes : Category → List Part
prefixes category =
    ref_before category ∷ prefix_before (STAR ∷ BANG ∷ []) category ∷ prefix_before (MINUS ∷ []) category ∷
    raw_before category ∷ []

abbrev pub operand_rows : Bool → List Part
operand_rows forbid =
    (c (Atom forbid) ⊳ around 1 postfixes) ∷ (c WithBlock ⊳ around 1 postfixes) ∷ prefixes (Prefixed forbid)

-- a value before an `else`, and an operand in it
abbrev pub else_rows : List Part
else_rows = (c PlainAtom ⊳ around 1 postfixes) ∷ prefixes ElsePrefixed

-- At the beginning of a statement a block goes on only by a dot or a `?`.
abbrev pub stmt_operand_rows : List Part
stmt_operand_rows =
    (c (Atom false) ⊳ around 1 postfixes)
    ∷ (node TRY_EXPR (c WithBlock ⊳ try_part) ⊳ around 1 postfixes)
    ∷ (node METHOD_CALL_EXPR (c WithBlock ⊳ method_part) ⊳ around 1 postfixes)
    ∷ (node AWAIT_EXPR (c WithBlock ⊳ await_part) ⊳ around 1 postfixes)
    ∷ (node FIELD_EXPR (c WithBlock ⊳ field_part) ⊳ around 0 postfixes)
    ∷ prefixes StmtPrefixed

-- a block
abbrev pub block_part : Part
block_part = node BLOCK_EXPR (c StmtList)

-- Jumps and closures.
abbrev pub closure_param : Part
closure_param = node PARAM (attrs ⊳ c SinglePattern ⊳ opt (guard (is_at COLON2) ⊳ t COLON ⊳ c Ty))

abbrev pub open_atoms : List Part
open_atoms =
    node RETURN_EXPR (t RETURN_KW ⊳ opt (c Expr))
    ∷ node YIELD_EXPR (t YIELD_KW ⊳ opt (c Expr))
    ∷ node BECOME_EXPR (t BECOME_KW ⊳ c Expr)
    ∷ node BREAK_EXPR (t BREAK_KW ⊳ either (lifetime ⊳ opt (c Expr)) (opt (guard (next_is LIFETIME_IDENT) ⊳ c Expr)))
    ∷ node CLOSURE_EXPR
    (opt (t ASYNC_KW) ⊳ opt (t MOVE_KW) ⊳ node PARAM_LIST (t PIPE ⊳ commas closure_param ⊳ t PIPE) ⊳
    either (c Expr) (ret PlainTy ⊳ block_part))
    ∷ []

abbrev pub open_prefixes : List Part
open_prefixes =
    ref_before OpenPrefixed ∷ prefix_before (STAR ∷ BANG ∷ []) OpenPrefixed ∷
    prefix_before (MINUS ∷ []) OpenPrefixed ∷ []

abbrev pub open_prefixed_rows : List Part
open_prefixed_rows = c OpenAtom ∷ open_prefixes

-- the same with a cast at the end, before operators that begin otherwise than generic arguments
-- the same where what takes in all that follows may stand at the end
abbrev pub open_or_rows : List Part
open_or_rows =
    (c (Operand false) ⊳ around fresh (cast_turns false (tighter Or) ⊳ and_open)) ∷ c OpenAtom ∷ open_prefixes

-- a range that has no end, and one that has no start
abbrev pub open_range : Bool → Part
open_range forbid = node RANGE_EXPR (c (Operand forbid) ⊳ around fresh (cast_turns forbid levels) ⊳ op DOT2)

abbrev pub ranges_to : Bool → List Part
ranges_to forbid = node RANGE_EXPR (op DOT2) ∷ node RANGE_EXPR (range_with_end forbid) ∷ []

-- any expression
abbrev pub expr_rows : List Part
expr_rows =
    (c (Operand false) ⊳ around fresh all_turns) ∷ open_range false ∷ (ranges_to false ++ c OpenAtom ∷ open_prefixes)

-- Conditions: with `let` first, or behind `&&`, and before `&&` and `||`; the guard of an arm may be so too.
abbrev pub let_expr : Bool → Part
let_expr forbid = node LET_EXPR (t LET_KW ⊳ c Pattern ⊳ t EQ ⊳ c (WithCast forbid And))

abbrev pub before_let : Bool → Part
before_let forbid = c (Operand forbid) ⊳ around fresh (cast_turns forbid levels ⊳ and_let forbid)

abbrev pub let_first : Bool → Part
let_first forbid =
    let_expr forbid ⊳ around (behind And) (binary_cast forbid And ⊳ and_let forbid ⊳ binary_cast forbid Or)

abbrev pub without_let : List Part
without_let =
    (c (Operand true) ⊳ around fresh (cast_turns true levels ⊳ range_turn true ⊳ assign_turns Assigned)) ∷ open_range true ∷
    ranges_to true

abbrev pub condition_rows : List Part
condition_rows = before_let true ∷ (without_let ++ let_first true ∷ [])

abbrev pub guard_rows : List Part
guard_rows =
    before_let false ∷ (c (Operand false) ⊳ around fresh (cast_turns false levels ⊳ range_turn false)) ∷
    let_first false ∷ []

-- the types of casts
abbrev pub cast_path_rows : List Part
cast_path_rows = global_path ∷ anchored_path ∷ named_paths CastTy path_names

abbrev pub cast_type_rows : List Part
cast_type_rows =
    node PATH_TYPE (c CastPath)
    ∷ node REF_TYPE (t AMP ⊳ opt lifetime ⊳ opt (t MUT_KW) ⊳ c CastTy)
    ∷ node PTR_TYPE (t STAR ⊳ ts (MUT_KW ∷ CONST_KW ∷ []) ⊳ c CastTy)
    ∷ node INFER_TYPE (t UNDERSCORE)
    ∷ node NEVER_TYPE (t BANG)
    ∷ node SLICE_TYPE (t L_BRACK ⊳ c Ty ⊳ t R_BRACK)
    ∷ node ARRAY_TYPE (t L_BRACK ⊳ c Ty ⊳ t SEMICOLON ⊳ node CONST_ARG (c Expr) ⊳ t R_BRACK)
    ∷ node TUPLE_TYPE (t L_PAREN ⊳ t R_PAREN)
    ∷ node PAREN_TYPE (t L_PAREN ⊳ c Ty ⊳ t R_PAREN)
    ∷ node TUPLE_TYPE (t L_PAREN ⊳ c Ty ⊳ t COMMA ⊳ commas (c Ty) ⊳ t R_PAREN)
    ∷ fn_pointer CastTy
    ∷ []
