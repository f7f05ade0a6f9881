-- The rows of blocks, of what has them, and of statements.
use Rattle.std.specs.Prelude.{false, List, [], ◌∷◌, ◌++◌, map}
use Rattle.rap_base.specs.NodeKind.{BLOCK_EXPR, EXPR_STMT, FOR_EXPR, IF_EXPR, LABEL, LET_ELSE, LET_STMT, LOOP_EXPR, MACRO_CALL, MACRO_EXPR, MATCH_ARM, MATCH_ARM_LIST, MATCH_EXPR, MATCH_GUARD, STMT_LIST, TRY_BLOCK_MODIFIER, WHILE_EXPR, MACRO_RULES}
use Rattle.rap_base.specs.TokenKind.{EOF, SEMICOLON, COMMA, COLON, COLON2, EQ, R_CURLY, L_CURLY, L_ANGLE, BANG, FAT_ARROW, ASYNC_KW, CONST_KW, ELSE_KW, FOR_KW, IF_KW, IN_KW, LET_KW, LOOP_KW, MACRO_RULES_KW, MATCH_KW, MOVE_KW, TRY_KW, UNSAFE_KW, WHILE_KW}
use Rattle.rap_grammar_scripts.specs.Words.{is_at, next_is}
use Rattle.rap_grammar_table.specs.Category.{Atom, Ty, Pattern, Expr, Stmt, Block, AtomPath, BraceTree, StmtList, If, EndingBlock, Arm, LastArm, StmtOperand, StmtPrefixed, OpenAtom, Condition, Guard, StmtExpr, StmtBlock, BlockStmt, EmptyStmt, ElseValue, Tail, Category}
use Rattle.rap_grammar_table.specs.SharedRows.{attributed, attrs, inner_attrs, lifetime, name}
use Rattle.rap_grammar_table.specs.ExprRows.{atoms, block_part, chained, open_atoms, postfixes, prefixes}
use Rattle.rap_grammar_table.specs.ItemRows.{import_items, opt_visibility, other_items, struct_items, trait_items, tree_and_end}
use Rattle.rap_grammar_table.specs.Known.{Place}
use Rattle.rap_grammar_table.specs.Notation.{Part, ◌⊳◌, t, ts, weak, op, c, node, opt, either, until, each_under, guard, around, of_kinds}
use Rattle.rap_grammar_table.specs.Operators.{all_turns, assign_turns, fresh}

-- A block, and its statements: one that ends with its block and without a semicolon is not the last. A semicolon alone
-- is a statement where no such one is in the block.
abbrev pub stmt_list_rows : List Part
stmt_list_rows =
    node STMT_LIST
    (t L_CURLY ⊳ inner_attrs ⊳ opt (until (either (c Stmt) (c BlockStmt)) (either (c Stmt) (c Tail))) ⊳ t R_CURLY)
    ∷ node STMT_LIST
    (t L_CURLY ⊳ inner_attrs ⊳ until (either (c Stmt) (c EmptyStmt)) (either (c Stmt) (either (c EmptyStmt) (c Tail))) ⊳
    t R_CURLY)
    ∷ []

abbrev pub if_expr : Part
if_expr = node IF_EXPR (t IF_KW ⊳ c Condition ⊳ c Block ⊳ opt (t ELSE_KW ⊳ either (c If) block_part))

-- the arms of a `match`
abbrev pub arm_head : Part
arm_head = attrs ⊳ c Pattern ⊳ opt (node MATCH_GUARD (t IF_KW ⊳ c Guard)) ⊳ op FAT_ARROW

abbrev pub arm_rows : List Part
arm_rows = node MATCH_ARM (arm_head ⊳ either (c StmtExpr ⊳ t COMMA) (c StmtBlock ⊳ opt (t COMMA))) ∷ []

abbrev pub match_arms : Part
match_arms = node MATCH_ARM_LIST (t L_CURLY ⊳ inner_attrs ⊳ until (c Arm) (opt (c LastArm)) ⊳ t R_CURLY)

-- loops and blocks, which may have a label, and a block that is told what it is
abbrev pub label : Part
label = node LABEL (lifetime ⊳ t COLON)

abbrev pub with_blocks : List Part
with_blocks =
    if_expr
    ∷ node MATCH_EXPR (t MATCH_KW ⊳ c Condition ⊳ match_arms)
    ∷ node LOOP_EXPR (opt label ⊳ t LOOP_KW ⊳ c Block)
    ∷ node WHILE_EXPR (opt label ⊳ t WHILE_KW ⊳ c Condition ⊳ c Block)
    ∷ node FOR_EXPR (opt label ⊳ t FOR_KW ⊳ guard (next_is L_ANGLE) ⊳ c Pattern ⊳ t IN_KW ⊳ c Condition ⊳ c Block)
    ∷ node BLOCK_EXPR (opt label ⊳ c StmtList)
    ∷ node BLOCK_EXPR (ts (UNSAFE_KW ∷ CONST_KW ∷ ASYNC_KW ∷ []) ⊳ c StmtList)
    ∷ node BLOCK_EXPR (t ASYNC_KW ⊳ t MOVE_KW ⊳ c StmtList)
    ∷ node BLOCK_EXPR (node TRY_BLOCK_MODIFIER (t TRY_KW) ⊳ c StmtList)
    ∷ node MACRO_EXPR (node MACRO_CALL (c AtomPath ⊳ t BANG ⊳ c BraceTree))
    ∷ []

-- Expressions with attributes, which stand in the node behind them: what has a block; what takes in all that follows; an
-- operand, which may be assigned to, and one with an operator before it, by what comes behind that.
abbrev pub attributed_blocks : List Part
attributed_blocks = map attributed with_blocks

abbrev pub attributed_open : List Part
attributed_open = map attributed open_atoms

abbrev pub assigned : Part → Part
assigned a = attributed a ⊳ around fresh (assign_turns Expr)

abbrev pub attributed_operands : List Part
attributed_operands = map assigned (atoms false ++ chained (c (Atom false) ⊳ around 1 postfixes))

abbrev pub attributed_exprs : Category → List Part
attributed_exprs category =
    attributed_blocks ++ (attributed_open ++ (attributed_operands ++ map assigned (prefixes category)))

-- Expressions at the beginning of a statement, and in an arm: one that does not end with its block, and one that does.
abbrev pub stmt_exprs : List Part
stmt_exprs = (c StmtOperand ⊳ around fresh all_turns) ∷ c OpenAtom ∷ []

abbrev pub under_stmt : List Part → List Part
under_stmt [] = []
under_stmt (a ∷ more) = node EXPR_STMT (a ⊳ t SEMICOLON) ∷ under_stmt more

abbrev pub let_head : Part
let_head = attrs ⊳ t LET_KW ⊳ c Pattern ⊳ opt (guard (is_at COLON2) ⊳ t COLON ⊳ c Ty)

abbrev pub let_stmt : Part → Part
let_stmt end = node LET_STMT (let_head ⊳ opt (t EQ ⊳ c Expr) ⊳ end)

abbrev pub let_else : Category → Part → Part
let_else category end = node LET_STMT (let_head ⊳ t EQ ⊳ c category ⊳ node LET_ELSE (t ELSE_KW ⊳ c Block) ⊳ end)

abbrev pub macro_rules : Part
macro_rules = node MACRO_RULES (attrs ⊳ opt_visibility ⊳ weak MACRO_RULES_KW ⊳ t BANG ⊳ name ⊳ tree_and_end)

abbrev pub stmt_items : List Part
stmt_items = struct_items ++ (other_items ++ (import_items ++ (trait_items ++ macro_rules ∷ [])))

abbrev pub stmt_rows : List Part
stmt_rows =
    let_stmt (t SEMICOLON) ∷ let_else ElseValue (t SEMICOLON) ∷
    (under_stmt (c EndingBlock ∷ (stmt_exprs ++ attributed_exprs StmtPrefixed)) ++ stmt_items)

abbrev pub block_stmt_rows : List Part
block_stmt_rows = node EXPR_STMT (c EndingBlock) ∷ each_under EXPR_STMT attributed_blocks

-- the value of a block, and of a macro's statements
abbrev pub tail_rows : List Part
tail_rows = c EndingBlock ∷ (stmt_exprs ++ attributed_exprs StmtPrefixed)

-- Statements without a semicolon, at the front of an input: before a semicolon or a comma, and before an end.
abbrev pub front_rows : List Part → List Part
front_rows exprs = let_stmt (λ r. r) ∷ let_else ElseValue (λ r. r) ∷ (exprs ++ stmt_items)

abbrev pub front_stmt_follows : List (List Place)
front_stmt_follows = (of_kinds (SEMICOLON ∷ COMMA ∷ []) ∷ []) ∷ []

abbrev pub last_stmt_follows : List (List Place)
last_stmt_follows = (of_kinds (EOF ∷ R_CURLY ∷ []) ∷ []) ∷ []
