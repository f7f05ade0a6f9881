-- What the checker is told of expressions.
use Rattle.std.specs.Prelude.{ℕ, ◌==◌, ◌&&◌, ◌||◌, Bool, true, false, List, [], ◌∷◌, ◌++◌}
use Rattle.rap_base.specs.TokenKind.{IDENT, COMMA, COLON, L_PAREN, L_BRACK, L_CURLY, R_CURLY, L_ANGLE, AMP, STAR, BANG, MINUS, PIPE, DOT, QUESTION, UNDERSCORE, LIFETIME_IDENT, INT_NUMBER, ASYNC_KW, AWAIT_KW, BECOME_KW, BREAK_KW, CONST_KW, CONTINUE_KW, ELSE_KW, EXTERN_KW, FN_KW, FOR_KW, IF_KW, LET_KW, LOOP_KW, MATCH_KW, MOVE_KW, MUT_KW, REF_KW, RETURN_KW, TRY_KW, UNSAFE_KW, WHILE_KW, YIELD_KW}
use Rattle.rap_events.specs.OperatorTable.{operators}
use Rattle.rap_grammar_scripts.specs.Script.{Outcome, something, block}
use Rattle.rap_grammar_scripts.specs.declared.rule.Rule.{Rule}
use Rattle.rap_grammar_scripts.specs.declared.rule.Rule.TheVariants as knot
use Rattle.rap_grammar_table.proofs.Entry.{Entry, text, of_names, touching, colons}
use Rattle.rap_grammar_table.proofs.Evaluate.{behind}
use Rattle.rap_grammar_table.proofs.OperatorHints.{atom_kinds, block_kinds, operand_kinds, open_kinds, operator_kinds, end_kinds, arrow, operand_ends, closed_follows, cast_follows, operand_follows, atom_follows, path_follows, path_heads, places_in}
use Rattle.rap_grammar_table.proofs.SharedHints.{attr_heads, global_heads, plain_firsts}
use Rattle.rap_grammar_table.proofs.TypeHints.{plain_read_by}
use Rattle.rap_grammar_table.proofs.Ways.{same_flag}
use Rattle.rap_grammar_table.specs.Category.{Level, Or, And, Comparison, BitOr, BitXor, BitAnd, Shift, Sum, Product, Atom, BraceTree, Closed, OpenAnd, Prefixed, RangeEnd, RecordValue, StmtPrefixed, WithCast, LastCastTy, ArgList, Let, NameExpr}
use Rattle.rap_grammar_table.specs.ExprRows.{round_tree_rows, plain_atoms, operand_rows, else_rows, stmt_operand_rows, open_atoms, open_prefixed_rows, open_or_rows, expr_rows, without_let, condition_rows, guard_rows, cast_path_rows, cast_type_rows}
use Rattle.rap_grammar_table.specs.Known.{Place, anything}
use Rattle.rap_grammar_table.specs.Notation.{Part, rows_of, of_kinds}
use Rattle.rap_grammar_table.specs.Operators.{expr_ends}
use Rattle.rap_grammar_table.specs.Rows.{rows}
use Rattle.rap_grammar_table.specs.SharedRows.{literals, path_names}
use Rattle.rap_grammar_table.specs.TypeRows.{expr_path_rows}

-- the rule of an expression with these restrictions and this power
abbrev pub outcomes_if : Bool → List Outcome → List Outcome
outcomes_if true vs = vs
outcomes_if false vs = []

abbrev pub by_expr : Bool → Bool → ℕ → List Outcome → Rule → List Outcome
by_expr forbid stmt power vs (knot.ExprBp r bp) =
    outcomes_if (same_flag r.forbid_structs forbid && (same_flag r.prefer_stmt stmt && (bp == power))) vs
by_expr forbid stmt power vs r = []

-- a category that a rule reads, of single nodes, which has its rows alone
abbrev pub nodes_with : List (List Outcome) → (Rule → List Outcome) → List Part → List (List Place) →
    List (List Place) → Entry
nodes_with ends read_by rows firsts follows =
    record {
      rows = rows_of rows;
      firsts = firsts;
      follows = follows;
      is_node = true;
      unbraced = false;
      by_rows = true;
      ends = ends;
      read_by = read_by;
    }

-- one that no script reads alone
abbrev pub nodes_of : (Rule → List Outcome) → List Part → List (List Place) → List (List Place) → Entry
nodes_of read_by rows firsts follows =
    record {
      rows = rows_of rows;
      firsts = firsts;
      follows = follows;
      is_node = true;
      unbraced = false;
      by_rows = false;
      ends = [];
      read_by = read_by;
    }

abbrev pub no_rule : Rule → List Outcome
no_rule r = []

-- a category whose last token is no `}`
abbrev pub unbraced_of : Entry → Entry
unbraced_of e =
    record {
      rows = e.rows;
      firsts = e.firsts;
      follows = e.follows;
      is_node = e.is_node;
      unbraced = true;
      by_rows = e.by_rows;
      ends = e.ends;
      read_by = e.read_by;
    }

-- Paths, tokens in brackets, and the types of casts, behind which an operator may stand.
abbrev pub atom_path_entry : Entry
atom_path_entry = unbraced_of (text expr_path_rows path_heads path_follows)

abbrev pub round_tree_entry : Entry
round_tree_entry =
    unbraced_of
    (text round_tree_rows
    ((of_kinds (L_PAREN ∷ L_BRACK ∷ []) ∷ []) ∷ []) anything)

abbrev pub brace_tree_entry : Entry
brace_tree_entry =
    text (rows BraceTree) ((of_kinds (L_CURLY ∷ []) ∷ []) ∷ []) anything

abbrev pub arg_list_entry : Entry
arg_list_entry =
    unbraced_of
    (text (rows ArgList)
    ((of_kinds (L_PAREN ∷ []) ∷ []) ∷ []) anything)

abbrev pub name_expr_entry : Entry
name_expr_entry =
    nodes_of (by_expr false false 1 (something ∷ []))
    (rows NameExpr)
    ((of_names (IDENT ∷ []) ∷ of_kinds (COMMA ∷ R_CURLY ∷ []) ∷ []) ∷ [])
    ((of_kinds (COMMA ∷ R_CURLY ∷ []) ∷ []) ∷ [])

abbrev pub record_value_entry : Entry
record_value_entry =
    text (rows RecordValue) ((of_kinds (IDENT ∷ INT_NUMBER ∷ []) ∷ []) ∷ attr_heads)
    ((of_kinds (COMMA ∷ R_CURLY ∷ []) ∷ []) ∷ [])

abbrev pub atom_firsts : List (List Place)
atom_firsts =
    (of_kinds (L_PAREN ∷ L_BRACK ∷ UNDERSCORE ∷ CONTINUE_KW ∷ literals) ∷ []) ∷ path_heads

abbrev pub atom_entry : Bool → Entry
atom_entry forbid =
    nodes_with ((something ∷ []) ∷ []) no_rule (rows (Atom forbid)) atom_firsts (atom_follows forbid)

-- what a value before an `else` begins with
abbrev pub plain_atom_entry : Entry
plain_atom_entry =
    unbraced_of
    (nodes_with ((something ∷ []) ∷ []) no_rule plain_atoms atom_firsts
    ((of_kinds (ELSE_KW ∷ []) ∷ [])
    ∷ (of_kinds (L_PAREN ∷ L_BRACK ∷ QUESTION ∷ []) ∷ [])
    ∷ (of_kinds (DOT ∷ []) ∷ of_kinds (INT_NUMBER ∷ AWAIT_KW ∷ path_names) ∷ [])
    ∷ []))

-- what begins with a block, a condition, a loop or a `match`; the pattern of a loop begins with no `<`
abbrev pub for_nexts : List ℕ
for_nexts =
    PIPE ∷ COLON ∷ REF_KW ∷ MUT_KW ∷ UNDERSCORE ∷ AMP ∷ L_PAREN ∷ L_BRACK ∷ CONST_KW ∷ MINUS ∷
    (literals ++ path_names)

abbrev pub with_block_firsts : List (List Place)
with_block_firsts =
    (of_kinds (L_CURLY ∷ IF_KW ∷ MATCH_KW ∷ WHILE_KW ∷ LOOP_KW ∷ []) ∷ [])
    ∷ (of_kinds (UNSAFE_KW ∷ CONST_KW ∷ ASYNC_KW ∷ TRY_KW ∷ []) ∷ of_kinds (L_CURLY ∷ []) ∷ [])
    ∷ (of_kinds (ASYNC_KW ∷ []) ∷ of_kinds (MOVE_KW ∷ []) ∷ of_kinds (L_CURLY ∷ []) ∷ [])
    ∷ (of_kinds (FOR_KW ∷ []) ∷ of_kinds for_nexts ∷ [])
    ∷ (of_kinds (LIFETIME_IDENT ∷ []) ∷ of_kinds (COLON ∷ []) ∷ [])
    ∷ path_heads

abbrev pub operator_firsts : List (List Place)
operator_firsts =
    (of_kinds (AMP ∷ STAR ∷ BANG ∷ []) ∷ [])
    ∷ (of_kinds (MINUS ∷ []) ∷ of_kinds (operand_kinds ++ open_kinds) ∷ [])
    ∷ []

abbrev pub operand_firsts : List (List Place)
operand_firsts = operator_firsts ++ (atom_firsts ++ with_block_firsts)

abbrev pub operand_entry : Bool → Entry
operand_entry forbid =
    nodes_with ((something ∷ block ∷ []) ∷ []) no_rule
    (operand_rows forbid)
    operand_firsts (operand_follows forbid)

abbrev pub prefixed_entry : Bool → Entry
prefixed_entry forbid =
    nodes_of (by_expr forbid false 255 (something ∷ [])) (rows (Prefixed forbid)) operand_firsts
    (operand_follows forbid)

abbrev pub else_values_of : ℕ → Entry
else_values_of power =
    unbraced_of
    (nodes_of (by_expr false false power (something ∷ []))
    else_rows (operator_firsts ++ atom_firsts)
    ((of_kinds (ELSE_KW ∷ []) ∷ []) ∷ []))

abbrev pub else_value_entry : Entry
else_value_entry = else_values_of 1

abbrev pub else_prefixed_entry : Entry
else_prefixed_entry = else_values_of 255

abbrev pub stmt_operand_entry : Entry
stmt_operand_entry =
    nodes_with ((something ∷ []) ∷ []) no_rule
    stmt_operand_rows
    operand_firsts (operand_follows false)

abbrev pub stmt_prefixed_entry : Entry
stmt_prefixed_entry =
    nodes_of (by_expr false true 255 (something ∷ [])) (rows StmtPrefixed) operand_firsts (operand_follows false)

abbrev pub open_firsts : List (List Place)
open_firsts =
    (of_kinds (RETURN_KW ∷ BREAK_KW ∷ YIELD_KW ∷ BECOME_KW ∷ PIPE ∷ MOVE_KW ∷ []) ∷ [])
    ∷ (of_kinds (ASYNC_KW ∷ []) ∷ of_kinds (PIPE ∷ []) ∷ [])
    ∷ (of_kinds (ASYNC_KW ∷ []) ∷ of_kinds (MOVE_KW ∷ []) ∷ of_kinds (PIPE ∷ []) ∷ [])
    ∷ []

abbrev pub open_atom_entry : Entry
open_atom_entry = nodes_with ((something ∷ []) ∷ []) no_rule open_atoms open_firsts (expr_ends false)

abbrev pub open_prefixed_entry : Entry
open_prefixed_entry =
    nodes_of (by_expr false false 255 (something ∷ [])) open_prefixed_rows (operator_firsts ++ open_firsts)
    (expr_ends false)

-- Operands with operators of at least a power.
abbrev pub kinds_only : List ℕ → List (List Place)
kinds_only kinds = (of_kinds kinds ∷ []) ∷ []

-- the power with which a rule reads what stands at the right of an operator of a level: above the operator's
abbrev pub power_behind : Level → ℕ
power_behind Or = 4
power_behind And = 5
power_behind Comparison = 6
power_behind BitOr = 7
power_behind BitXor = 8
power_behind BitAnd = 9
power_behind Shift = 10
power_behind Sum = 11
power_behind Product = 12

abbrev pub closed_entry : Bool → Level → Entry
closed_entry forbid level =
    nodes_of (by_expr forbid false (power_behind level) (something ∷ [])) (rows (Closed forbid level))
    (kinds_only operand_kinds) (closed_follows forbid (power_behind level))

abbrev pub with_cast_entry : Bool → Level → Entry
with_cast_entry forbid level =
    nodes_of (by_expr forbid false (power_behind level) (something ∷ [])) (rows (WithCast forbid level))
    (kinds_only operand_kinds) (operand_ends forbid ++ places_in false (power_behind level) operators)

abbrev pub range_read_by : Bool → Rule → List Outcome
range_read_by forbid (knot.ExprBp r bp) =
    outcomes_if
    (same_flag r.forbid_structs forbid && (same_flag r.prefer_stmt false && ((bp == 2) || (bp == 3)))) (something ∷ [])
range_read_by forbid r = []

abbrev pub range_end_entry : Bool → Entry
range_end_entry forbid =
    nodes_of (range_read_by forbid) (rows (RangeEnd forbid))
    (kinds_only operand_kinds) (operand_ends forbid)

abbrev pub open_or_entry : Entry
open_or_entry =
    nodes_of (by_expr false false 4 (something ∷ [])) open_or_rows (kinds_only (operand_kinds ++ open_kinds))
    (expr_ends false)

abbrev pub open_and_entry : Entry
open_and_entry =
    nodes_of (by_expr false false 5 (something ∷ [])) (rows OpenAnd) (kinds_only (operand_kinds ++ open_kinds))
    (expr_ends false)

abbrev pub expr_entry : Entry
expr_entry =
    nodes_of (by_expr false false 1 (something ∷ []))
    expr_rows
    ((of_kinds (AMP ∷ STAR ∷ BANG ∷ (open_kinds ++ (block_kinds ++ atom_kinds))) ∷ [])
    ∷ (of_kinds (MINUS ∷ []) ∷ of_kinds (operand_kinds ++ open_kinds) ∷ [])
    ∷ (touching DOT ∷ of_kinds (DOT ∷ []) ∷ [])
    ∷ [])
    (expr_ends false)

abbrev pub condition_firsts : List (List Place)
condition_firsts = kinds_only (LET_KW ∷ operand_kinds) ++ (touching DOT ∷ of_kinds (DOT ∷ []) ∷ []) ∷ []

abbrev pub condition_entry : Entry
condition_entry =
    nodes_of (by_expr true false 1 (something ∷ [])) condition_rows condition_firsts
    (expr_ends true)

abbrev pub assigned_entry : Entry
assigned_entry =
    nodes_of (by_expr true false 1 (something ∷ [])) without_let
    (kinds_only operand_kinds ++ (touching DOT ∷ of_kinds (DOT ∷ []) ∷ []) ∷ []) (expr_ends true)

abbrev pub guard_entry : Entry
guard_entry =
    nodes_of (by_expr false false 1 (something ∷ []))
    guard_rows
    (kinds_only (LET_KW ∷ operand_kinds)) (arrow ∷ [])

abbrev pub cast_path_entry : Entry
cast_path_entry =
    text cast_path_rows
    ((of_kinds (L_ANGLE ∷ []) ∷ []) ∷
    (global_heads ++
    behind (of_names path_names)
    ((of_kinds (L_PAREN ∷ BANG ∷ (operator_kinds ++ end_kinds)) ∷ []) ∷
    colons ((of_kinds (L_ANGLE ∷ L_PAREN ∷ path_names) ∷ []) ∷ []))))
    cast_follows

abbrev pub cast_type_entry : Entry
cast_type_entry =
    nodes_of plain_read_by
    cast_type_rows
    (kinds_only
    (AMP ∷ STAR ∷ UNDERSCORE ∷ BANG ∷ L_BRACK ∷ L_PAREN ∷ L_ANGLE ∷ FN_KW ∷ UNSAFE_KW ∷ EXTERN_KW ∷ path_names) ++
    global_heads)
    cast_follows

abbrev pub last_cast_type_entry : Entry
last_cast_type_entry = nodes_of plain_read_by (rows LastCastTy) plain_firsts (expr_ends false)

abbrev pub let_entry : Bool → Entry
let_entry forbid =
    nodes_of (by_expr forbid false (power_behind And) (something ∷ [])) (rows (Let forbid)) (kinds_only (LET_KW ∷ []))
    (operand_ends forbid ++ places_in false (power_behind And) operators)
