-- Statements, blocks, conditions and loops of the core grammar are in the table.
use Rattle.std.proofs.Common.{◌≡◌, ◌≢◌, ℕ, List, [], ◌∷◌, ◌++◌, Some, refl, append_assoc, append-nil}
use Rattle.rap_base.specs.NodeKind.{BLOCK_EXPR, EXPR_STMT, IF_EXPR, LET_STMT, LOOP_EXPR, STMT_LIST, WHILE_EXPR}
use Rattle.rap_base.specs.TokenKind.{COLON, COLON2, ELSE_KW, EQ, IF_KW, L_CURLY, LET_KW, LOOP_KW, R_CURLY, SEMICOLON, WHILE_KW}
use Rattle.rap_events.specs.Forest.{Forest, none, node, leaf, ◌⧺◌}
use Rattle.rap_events.specs.Record.{Record}
use Rattle.rap_grammar_scripts.proofs.Forests.{⧺-assoc}
use Rattle.rap_grammar_scripts.specs.Words.{is_at}
use Rattle.rap_small_grammar.specs.Derives.{Is, bind_name, name_given}
use Rattle.rap_small_grammar.specs.Derives as old
use Rattle.rap_small_grammar.proofs.Begins.{First}
use Rattle.rap_small_grammar.proofs.IncludedExpressions.{Expressed}
use Rattle.rap_small_grammar.proofs.IncludedLists.{Optional, missing, there, no_colons}
use Rattle.rap_small_grammar.proofs.IncludedRows.{whole, Row, Turns, done, opens, closes, one_way, other_way, ends_with, turns, repeats, none_comes, no_group, guards, folds_up, makes, puts, puts_first, puts_last, puts_alone, puts_token, puts_name}
use Rattle.rap_small_grammar.proofs.IncludedTypes.{TypeSo}
use Rattle.rap_grammar_ends.proofs.Ways.{none-⧺}
use Rattle.rap_grammar_table.specs.Rows.{grammar}
use Rattle.rap_grammar_table.specs.Category.{Block, BlockStmt, Condition, EndingBlock, Expr, If, MacroTail, Pattern, Stmt, StmtList, StmtOperand, Tail, WithBlock}
use Rattle.rap_grammar_table.specs.Category as categories
use Rattle.rap_grammar_table.specs.ExprRows.{block_part}
use Rattle.rap_grammar_table.specs.Notation.{◌⊳◌, t, c, opt, either, guard}
use Rattle.rap_grammar_table.specs.Operators.{all_turns}
use Rattle.rap_grammar_table.specs.StmtRows.{if_expr}
use Rattle.rap_grammar_table.specs.Table.{row_at, Items, nil, close, piece, cat, folds}
use Rattle.rap_grammar_table.specs.Tops.{Makes}

-- a pattern, a type behind its colon, a value behind its `=`
pattern : {ks : List Record} {x : Forest} → old.Derives old.Bind ks x → Makes Pattern ks x
pattern (bind_name (name_given n)) =
    makes 0 refl
    (puts_alone
    (makes 0 refl (opens (other_way (other_way (opens (puts_name n refl (closes (no_group (closes done)))))))))
    done)

pub data AnnotationSo : List Record → Forest → Type 0 where
  annotated : {a : Record} {ks : List Record} {u : Forest} → Is a COLON → TypeSo ks u → First old.Ty ks →
      AnnotationSo (a ∷ ks) (leaf none COLON 1 ⧺ u)

annotation_row : {r : Items} {x y u : Forest} {xs : List Forest} {js ms : List Record} → Optional AnnotationSo js u →
    Row r (x ⧺ u) xs ms y → Row (opt (guard (is_at COLON2) ⊳ t COLON ⊳ c categories.Ty) r) x xs (js ++ ms) y
annotation_row missing r = other_way r
annotation_row {x = x} {ms = ms} (there (annotated {a = b} {u = u} o d f)) r =
    one_way (guards (λ l. no_colons b refl f ms l)
    (puts_token o (puts d.any (rw (⧺-assoc x (leaf none COLON 1) u) r))))

pub data ValueSo : List Record → Forest → Type 0 where
  valued : {a : Record} {ks : List Record} {u : Forest} → Is a EQ → Makes Expr ks u →
      ValueSo (a ∷ ks) (leaf none EQ 1 ⧺ u)

value_row : {r : Items} {x y u : Forest} {xs : List Forest} {js ms : List Record} → Optional ValueSo js u →
    Row r (x ⧺ u) xs ms y → Row (opt (t EQ ⊳ c Expr) r) x xs (js ++ ms) y
value_row missing r = other_way r
value_row {x = x} (there (valued {u = u} o d)) r =
    one_way (puts_token o (puts d (rw (⧺-assoc x (leaf none EQ 1) u) r)))

pub let_statement : {a b : Record} {ks js is : List Record} {x u v : Forest} → Is a LET_KW →
    old.Derives old.Bind ks x → Optional AnnotationSo js u → Optional ValueSo is v → Is b SEMICOLON →
    Makes Stmt (a ∷ (ks ++ (js ++ (is ++ b ∷ []))))
    (node none LET_STMT (leaf (leaf none LET_KW 1 ⧺ x ⧺ u ⧺ v) SEMICOLON 1))
let_statement o d e g s =
    makes 0 refl
    (opens (none_comes (puts_token o (puts (pattern d) (annotation_row e (value_row g (puts_token s (closes done))))))))

-- an expression at the beginning of a statement
stmt_row : {ws r : Items} {y x : Forest} {xs : List Forest} {ks js : List Record} → Expressed StmtOperand ws ks x →
    Row r x xs js y → Row (piece (cat StmtOperand) (folds 12 ws r)) none xs (ks ++ js) y
stmt_row {js = js} d r =
    rw (← d.is) (rw (append_assoc d.own d.behind js) (puts d.head (folds_up d.rest (rw none-⧺ r))))

pub expression_statement : {a : Record} {ks : List Record} {x : Forest} → Expressed StmtOperand (all_turns nil) ks x →
    Is a SEMICOLON → Makes Stmt (ks ++ a ∷ []) (node none EXPR_STMT (leaf x SEMICOLON 1))
expression_statement d o = makes 3 refl (opens (stmt_row d (puts_token o (closes done))))

pub block_statement : {a : Record} {ks : List Record} {x : Forest} → Makes EndingBlock ks x → Is a SEMICOLON →
    Makes Stmt (ks ++ a ∷ []) (node none EXPR_STMT (leaf x SEMICOLON 1))
block_statement d o = makes 2 refl (opens (puts_first d (puts_token o (closes done))))

-- What stands in the braces of a block, or is all of a macro's statements.
abbrev pub stmt_turn : Items
stmt_turn = either (c Stmt) (c BlockStmt) nil

abbrev pub last_stmt : categories.Category → Items
last_stmt tail = either (c Stmt) (c tail) nil

pub data ContentsSo : List Record → Forest → Type 0 where
  empty : ContentsSo [] none
  full : {ks : List Record} {x : Forest} → Turns stmt_turn (last_stmt Tail) ks x →
      Turns stmt_turn (last_stmt MacroTail) ks x → ContentsSo ks x

-- the last of them
a_tail : {ks : List Record} {x : Forest} → Makes Tail ks x → Makes MacroTail ks x → ContentsSo ks x
a_tail d e = full (ends_with (other_way (puts_alone d done))) (ends_with (other_way (puts_alone e done)))

pub value_contents : {ks : List Record} {x : Forest} → Expressed StmtOperand (all_turns nil) ks x → ContentsSo ks x
value_contents d = a_tail (makes 1 refl (whole d)) (makes 1 refl (whole d))

pub block_contents : {ks : List Record} {x : Forest} → Makes EndingBlock ks x → ContentsSo ks x
block_contents d = a_tail (makes 0 refl (puts_alone d done)) (makes 0 refl (puts_alone d done))

pub statement_before : {ks js : List Record} {x u : Forest} → Makes Stmt ks x → ContentsSo js u →
    ContentsSo (ks ++ js) (x ⧺ u)
statement_before {ks = ks} d empty =
    rw append-nil (full (ends_with (one_way (puts_alone d done))) (ends_with (one_way (puts_alone d done))))
statement_before d (full m n) =
    full (turns (one_way (puts_alone d done)) m) (turns (one_way (puts_alone d done)) n)

block_stmt : {ks : List Record} {x : Forest} → Makes EndingBlock ks x → Makes BlockStmt ks (node none EXPR_STMT x)
block_stmt d = makes 0 refl (opens (puts_alone d (closes done)))

pub block_before : {ks js : List Record} {x u : Forest} → Makes EndingBlock ks x → ContentsSo js u → js ≢ [] →
    ContentsSo (ks ++ js) (node none EXPR_STMT x ⧺ u)
block_before d empty n = absurd (n refl)
block_before d (full m l) n =
    full (turns (other_way (puts_alone (block_stmt d) done)) m) (turns (other_way (puts_alone (block_stmt d) done)) l)

-- Blocks.
pub data BlockSo : List Record → Forest → Type 0 where
  block_in : {ks : List Record} {x : Forest} → Makes StmtList ks x → BlockSo ks (node none BLOCK_EXPR x)

pub block_of : {a b : Record} {ks : List Record} {x : Forest} → Is a L_CURLY → ContentsSo ks x → Is b R_CURLY →
    BlockSo (a ∷ (ks ++ b ∷ []))
    (node none BLOCK_EXPR (node none STMT_LIST (leaf (leaf none L_CURLY 1 ⧺ x) R_CURLY 1)))
block_of o empty e =
    block_in (makes 0 refl (opens (puts_token o (none_comes (other_way (puts_token e (closes done)))))))
block_of o (full m n) e =
    block_in (makes 0 refl (opens (puts_token o (none_comes (one_way (repeats m (puts_token e (closes done))))))))

pub block_made : {ks : List Record} {x : Forest} → BlockSo ks x → Makes Block ks x
block_made (block_in d) = makes 0 refl (opens (puts_alone d (closes done)))

-- Conditions and loops.
pub record WithBlockSo (ks : List Record) (x : Forest) : Type 0 where
  pub any : Makes WithBlock ks x
  pub ending : Makes EndingBlock ks x

-- by a row that both have
by_both : {is : Items} {ks : List Record} {x : Forest} (n : ℕ) → row_at n (grammar WithBlock) ≡ Some is →
    row_at n (grammar EndingBlock) ≡ Some is → Row is none [] ks x → WithBlockSo ks x
by_both n e i r = record { any = makes n e r; ending = makes n i r }

pub block_alone : {ks : List Record} {x : Forest} → BlockSo ks x → WithBlockSo ks x
block_alone (block_in d) = by_both 5 refl refl (opens (other_way (puts_alone d (closes done))))

pub loop_of : {a : Record} {ks : List Record} {x : Forest} → Is a LOOP_KW → BlockSo ks x →
    WithBlockSo (a ∷ ks) (node none LOOP_EXPR (leaf none LOOP_KW 1 ⧺ x))
loop_of o d = by_both 2 refl refl (opens (other_way (puts_token o (puts_last (block_made d) (closes done)))))

pub while_of : {a : Record} {ks js : List Record} {x u : Forest} → Is a WHILE_KW → Makes Condition ks x →
    BlockSo js u → WithBlockSo (a ∷ (ks ++ js)) (node none WHILE_EXPR (leaf none WHILE_KW 1 ⧺ x ⧺ u))
while_of o d e = by_both 3 refl refl (opens (other_way (puts_token o (puts d (puts_last (block_made e) (closes done))))))

pub data ElseSo : List Record → Forest → Type 0 where
  else_block : {a : Record} {ks : List Record} {x : Forest} → Is a ELSE_KW → BlockSo ks x →
      ElseSo (a ∷ ks) (leaf none ELSE_KW 1 ⧺ x)
  else_if : {a : Record} {ks : List Record} {x : Forest} → Is a ELSE_KW → Makes If ks x →
      ElseSo (a ∷ ks) (leaf none ELSE_KW 1 ⧺ x)

else_row : {x v : Forest} {is : List Record} → Optional ElseSo is v →
    Row (opt (t ELSE_KW ⊳ either (c If) block_part) (close IF_EXPR nil)) x (none ∷ []) is (node none IF_EXPR (x ⧺ v))
else_row missing = other_way (closes done)
else_row (there (else_block o (block_in d))) =
    one_way (puts_token o (other_way (opens (puts_alone d (closes (closes done))))))
else_row {x = x} (there (else_if {x = u} o d)) =
    rw (← (⧺-assoc x (leaf none ELSE_KW 1) u)) (one_way (puts_token o (one_way (puts_last d (closes done)))))

pub data IfSo (ks : List Record) (x : Forest) : Type 0 where
  if_in : Row (if_expr nil) none [] ks x → IfSo ks x

pub if_of : {a : Record} {ks js is : List Record} {x u v : Forest} → Is a IF_KW → Makes Condition ks x →
    BlockSo js u → Optional ElseSo is v →
    IfSo (a ∷ (ks ++ (js ++ is))) (node none IF_EXPR (leaf none IF_KW 1 ⧺ x ⧺ u ⧺ v))
if_of o d e g = if_in (opens (puts_token o (puts d (puts (block_made e) (else_row g)))))

pub if_alone : {ks : List Record} {x : Forest} → IfSo ks x → WithBlockSo ks x
if_alone (if_in r) = by_both 0 refl refl r

pub if_made : {ks : List Record} {x : Forest} → IfSo ks x → Makes If ks x
if_made (if_in r) = makes 0 refl r
