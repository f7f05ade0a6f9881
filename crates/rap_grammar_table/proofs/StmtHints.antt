-- What the checker is told of blocks, of what has them, and of statements.
use Rattle.std.specs.Prelude.{◌==◌, not, false, true, List, [], ◌∷◌, ◌++◌}
use Rattle.rap_base.specs.NodeKind.{EXPR_STMT}
use Rattle.rap_base.specs.TokenKind.{EOF, SEMICOLON, R_CURLY, L_CURLY, DOT, QUESTION, PIPE, SHEBANG, ELSE_KW, IF_KW, LET_KW}
use Rattle.rap_grammar_scripts.specs.First.{one_of}
use Rattle.rap_grammar_scripts.specs.Script.{Outcome, something, block}
use Rattle.rap_grammar_scripts.specs.declared.arguments.Semicolon.TheVariants as semicolon
use Rattle.rap_grammar_scripts.specs.declared.rule.Rule.{Rule}
use Rattle.rap_grammar_scripts.specs.declared.rule.Rule.TheVariants as knot
use Rattle.rap_grammar_table.proofs.Entry.{Entry, text, touching}
use Rattle.rap_grammar_table.proofs.ExprHints.{by_expr, kinds_only, no_rule, nodes_of, nodes_with, open_firsts, operand_firsts, with_block_firsts}
use Rattle.rap_grammar_table.proofs.ItemHints.{item_heads}
use Rattle.rap_grammar_table.proofs.PatternHints.{single_heads}
use Rattle.rap_grammar_table.proofs.SharedHints.{attr_heads}
use Rattle.rap_grammar_table.specs.Category.{AttrExpr, Block, If, WithBlock, EmptyStmt, EndingBlock, StmtBlock, LastArm}
use Rattle.rap_grammar_table.specs.Known.{Place, anything}
use Rattle.rap_grammar_table.specs.Notation.{those, up_to, Part, each_under, rows_of, of_kinds}
use Rattle.rap_grammar_table.specs.Operators.{expr_ends}
use Rattle.rap_grammar_table.specs.Rows.{rows}
use Rattle.rap_grammar_table.specs.StmtRows.{stmt_list_rows, arm_rows, stmt_exprs, stmt_rows, block_stmt_rows, tail_rows, front_rows, front_stmt_follows, last_stmt_follows}

abbrev pub stmt_list_entry : Entry
stmt_list_entry =
    text
    stmt_list_rows
    ((of_kinds (L_CURLY ∷ []) ∷ []) ∷ []) anything

abbrev pub block_entry : Entry
block_entry =
    text (rows Block) ((of_kinds (L_CURLY ∷ []) ∷ []) ∷ []) anything

-- any token but an `else`
abbrev pub no_else : List (List Place)
no_else = kinds_only (EOF ∷ those (λ kind. not (kind == ELSE_KW)) (up_to SHEBANG))

abbrev pub if_read_by : Rule → List Outcome
if_read_by knot.IfExpr = something ∷ []
if_read_by r = []

abbrev pub if_entry : Entry
if_entry =
    nodes_of if_read_by (rows If) (kinds_only (IF_KW ∷ [])) no_else

abbrev pub arm_firsts : List (List Place)
arm_firsts = (of_kinds (PIPE ∷ []) ∷ []) ∷ (single_heads ++ attr_heads)

abbrev pub arm_entry : Entry
arm_entry =
    text arm_rows arm_firsts
    ((of_kinds (R_CURLY ∷ []) ∷ []) ∷ arm_firsts)

abbrev pub last_arm_entry : Entry
last_arm_entry =
    text (rows LastArm) arm_firsts (kinds_only (R_CURLY ∷ []))

abbrev pub with_block_entry : Entry
with_block_entry =
    nodes_with ((block ∷ []) ∷ []) no_rule (rows WithBlock) with_block_firsts no_else

abbrev pub stmt_expr_entry : Entry
stmt_expr_entry =
    nodes_of (by_expr false true 1 (something ∷ [])) stmt_exprs (operand_firsts ++ open_firsts) (expr_ends false)

-- What goes on with no block at the beginning of a statement: no `.` but that of a range, no `?` and no `else`.
abbrev pub after_stmt_block : List (List Place)
after_stmt_block =
    kinds_only (EOF ∷ those (λ kind. not (one_of (ELSE_KW ∷ DOT ∷ QUESTION ∷ []) kind)) (up_to SHEBANG)) ++
    (touching DOT ∷ of_kinds (DOT ∷ []) ∷ []) ∷ []

abbrev pub ending_block_entry : Entry
ending_block_entry =
    nodes_with ((block ∷ []) ∷ []) no_rule (rows EndingBlock) with_block_firsts after_stmt_block

abbrev pub stmt_block_entry : Entry
stmt_block_entry =
    nodes_of (by_expr false true 1 (block ∷ [])) (rows StmtBlock) with_block_firsts after_stmt_block

-- statements, in a block and in a macro
abbrev pub stmt_read_by : Rule → List Outcome
stmt_read_by (knot.Stmt semicolon.Required) = something ∷ []
stmt_read_by (knot.Stmt semicolon.Optional) = something ∷ []
stmt_read_by r = []

abbrev pub stmt_firsts : List (List Place)
stmt_firsts =
    kinds_only (LET_KW ∷ []) ++ (operand_firsts ++ (open_firsts ++ item_heads))

abbrev pub stmt_follows : List (List Place)
stmt_follows = kinds_only (R_CURLY ∷ EOF ∷ SEMICOLON ∷ []) ++ stmt_firsts

abbrev pub stmt_entry : Entry
stmt_entry =
    nodes_of stmt_read_by
    stmt_rows
    stmt_firsts stmt_follows

abbrev pub empty_stmt_entry : Entry
empty_stmt_entry =
    record {
      rows = rows_of (rows EmptyStmt);
      firsts = kinds_only (SEMICOLON ∷ []);
      follows = anything;
      is_node = false;
      unbraced = false;
      by_rows = false;
      ends = [];
      read_by = stmt_read_by;
    }

abbrev pub block_stmt_entry : Entry
block_stmt_entry =
    nodes_of stmt_read_by block_stmt_rows
    (with_block_firsts ++ attr_heads) stmt_firsts

abbrev pub tail_firsts : List (List Place)
tail_firsts = operand_firsts ++ (open_firsts ++ attr_heads)

abbrev pub tail_read_by : Rule → List Outcome
tail_read_by (knot.Stmt semicolon.Required) = something ∷ []
tail_read_by r = []

abbrev pub tail_entry : Entry
tail_entry = nodes_of tail_read_by tail_rows tail_firsts (kinds_only (R_CURLY ∷ []))

abbrev pub macro_tail_read_by : Rule → List Outcome
macro_tail_read_by (knot.Stmt semicolon.Optional) = something ∷ []
macro_tail_read_by r = []

abbrev pub macro_tail_entry : Entry
macro_tail_entry = nodes_of macro_tail_read_by tail_rows tail_firsts (kinds_only (EOF ∷ []))

-- Statements without a semicolon, at the front of an input: before a semicolon or a comma, and before an end.
abbrev pub front_stmts : List Part → List (List Place) → Entry
front_stmts exprs follows =
    nodes_of no_rule (front_rows exprs) stmt_firsts
    follows

abbrev pub front_stmt_entry : Entry
front_stmt_entry = front_stmts (each_under EXPR_STMT tail_rows) front_stmt_follows

abbrev pub last_stmt_entry : Entry
last_stmt_entry = front_stmts tail_rows last_stmt_follows

abbrev pub attr_expr_entry : Entry
attr_expr_entry = nodes_of (by_expr false false 1 (something ∷ [])) (rows AttrExpr) attr_heads (expr_ends false)
