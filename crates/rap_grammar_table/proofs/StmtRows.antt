-- The rows of blocks and statements are read: computed.
use Rattle.std.proofs.Common.{◌≡◌, true, false, List, [], ◌∷◌, drop, refl}
use Rattle.rap_grammar_scripts.specs.Knot.{script_of}
use Rattle.rap_grammar_scripts.specs.Script.{something, block}
use Rattle.rap_grammar_scripts.specs.Statements.{stmt}
use Rattle.rap_grammar_scripts.specs.declared.arguments.Semicolon.{Semicolon}
use Rattle.rap_grammar_scripts.specs.declared.arguments.Semicolon.TheVariants as semicolon
use Rattle.rap_grammar_scripts.specs.declared.rule.Rule.{Rule}
use Rattle.rap_grammar_scripts.specs.declared.rule.Rule.TheVariants as knot
use Rattle.rap_grammar_table.proofs.Entry.{Entry}
use Rattle.rap_grammar_table.proofs.Refusal.{Verdict, accepted}
use Rattle.rap_grammar_table.proofs.Table.{table}
use Rattle.rap_grammar_table.proofs.StmtHints.{arm_entry, attr_expr_entry, block_entry, block_stmt_entry, empty_stmt_entry, ending_block_entry, if_entry, last_arm_entry, macro_tail_entry, macro_tail_read_by, stmt_block_entry, stmt_entry, stmt_expr_entry, stmt_follows, stmt_list_entry, stmt_read_by, tail_entry, tail_read_by, with_block_entry}
use Rattle.rap_grammar_table.specs.Table.{Items}
use Rattle.rap_grammar_table.proofs.Walk.{all_accepted, reads_row}
use Rattle.rap_grammar_table.proofs.Ways.{some_outcome}
use Rattle.rap_grammar_table.proofs.Entries.{is_read, EntryChecked}
use Rattle.rap_grammar_table.proofs.ExprRows.{expr_rule, read_by_expr}
use Rattle.rap_grammar_table.proofs.Operands.{in_parts, taking}
use Rattle.rap_grammar_table.proofs.Scripts.{scripts}
use Rattle.rap_grammar_table.proofs.Tests.{tests}

pub blocks : EntryChecked table block_entry
blocks = record { reads = λ r h. absurd cc; begins = refl; followed = refl; nodes = λ h. refl }

pub stmt_lists : EntryChecked table stmt_list_entry
stmt_lists = record { reads = λ r h. absurd cc; begins = refl; followed = refl; nodes = λ h. refl }

pub arms : EntryChecked table arm_entry
arms = record { reads = λ r h. absurd cc; begins = refl; followed = refl; nodes = λ h. refl }

pub last_arms : EntryChecked table last_arm_entry
last_arms = record { reads = λ r h. absurd cc; begins = refl; followed = refl; nodes = λ h. refl }

pub ending_blocks : EntryChecked table ending_block_entry
ending_blocks = record { reads = λ r h. absurd cc; begins = refl; followed = refl; nodes = λ h. refl }

pub with_blocks_so : EntryChecked table with_block_entry
with_blocks_so = record { reads = λ r h. absurd cc; begins = refl; followed = refl; nodes = λ h. refl }

stmt_exprs_so_read :
    all_accepted (is_read table stmt_expr_entry (expr_rule false true 1)) (stmt_expr_entry).rows ≡ accepted
unfolding scripts tests
stmt_exprs_so_read = refl

pub stmt_exprs_so : EntryChecked table stmt_expr_entry
stmt_exprs_so =
    record {
      reads = read_by_expr table stmt_expr_entry false true 1 (something ∷ []) stmt_exprs_so_read;
      begins = refl;
      followed = refl;
      nodes = λ h. refl;
    }

stmt_blocks_read :
    all_accepted (is_read table stmt_block_entry (expr_rule false true 1)) (stmt_block_entry).rows ≡ accepted
unfolding scripts tests
stmt_blocks_read = refl

pub stmt_blocks : EntryChecked table stmt_block_entry
stmt_blocks =
    record {
      reads = read_by_expr table stmt_block_entry false true 1 (block ∷ []) stmt_blocks_read;
      begins = refl;
      followed = refl;
      nodes = λ h. refl;
    }

ifs_read : all_accepted (is_read table if_entry knot.IfExpr) if_entry.rows ≡ accepted
unfolding scripts tests
ifs_read = refl

ifs_read_by : (r : Rule) → some_outcome (if_entry.read_by r) ≡ true →
    all_accepted (is_read table if_entry r) if_entry.rows ≡ accepted
ifs_read_by knot.IfExpr h = ifs_read
ifs_read_by r h = absurd cc

pub ifs : EntryChecked table if_entry
ifs = record { reads = ifs_read_by; begins = refl; followed = refl; nodes = λ h. refl }

-- a statement is read in a block and in a macro
abbrev stmt_rule : Semicolon → Rule
stmt_rule semi = knot.Stmt semi

abbrev InBlock : Entry → Type 0
InBlock e = all_accepted (is_read table e (stmt_rule semicolon.Required)) e.rows ≡ accepted

abbrev InMacro : Entry → Type 0
InMacro e = all_accepted (is_read table e (stmt_rule semicolon.Optional)) e.rows ≡ accepted

in_both : (e : Entry) → InBlock e → InMacro e → (r : Rule) → some_outcome (stmt_read_by r) ≡ true →
    all_accepted (is_read table e r) e.rows ≡ accepted
in_both e a b (knot.Stmt semicolon.Required) h = a
in_both e a b (knot.Stmt semicolon.Optional) h = b
in_both e a b r h = absurd cc

in_block : (e : Entry) → InBlock e → (r : Rule) → some_outcome (tail_read_by r) ≡ true →
    all_accepted (is_read table e r) e.rows ≡ accepted
in_block e a (knot.Stmt semicolon.Required) h = a
in_block e a r h = absurd cc

in_macro : (e : Entry) → InMacro e → (r : Rule) → some_outcome (macro_tail_read_by r) ≡ true →
    all_accepted (is_read table e r) e.rows ≡ accepted
in_macro e a (knot.Stmt semicolon.Optional) h = a
in_macro e a r h = absurd cc

-- Among the statements the items, which stand behind forty-two rows, are read alike in both.
abbrev stmt_rows : List Items
stmt_rows = stmt_entry.rows

abbrev reads_stmt : Semicolon → Items → Verdict
reads_stmt semi row = reads_row table stmt_follows (stmt semi) (something ∷ []) row

stmt_items_read : (semi : Semicolon) → all_accepted (reads_stmt semi) (drop 42 stmt_rows) ≡ accepted
unfolding scripts tests
stmt_items_read semi = refl

in_block_read : all_accepted (reads_stmt semicolon.Required) (taking 42 stmt_rows) ≡ accepted
unfolding scripts tests
in_block_read = refl

in_macro_read : all_accepted (reads_stmt semicolon.Optional) (taking 42 stmt_rows) ≡ accepted
unfolding scripts tests
in_macro_read = refl

stmts_in_block : InBlock stmt_entry
unfolding script_of
stmts_in_block =
    in_parts (reads_stmt semicolon.Required) 42 stmt_rows in_block_read (stmt_items_read semicolon.Required)

stmts_in_macro : InMacro stmt_entry
unfolding script_of
stmts_in_macro =
    in_parts (reads_stmt semicolon.Optional) 42 stmt_rows in_macro_read (stmt_items_read semicolon.Optional)

pub stmts : EntryChecked table stmt_entry
stmts =
    record {
      reads = in_both stmt_entry stmts_in_block stmts_in_macro;
      begins = refl;
      followed = refl;
      nodes = λ h. refl;
    }

block_stmts_in_block : InBlock block_stmt_entry
unfolding scripts tests
block_stmts_in_block = refl

block_stmts_in_macro : InMacro block_stmt_entry
unfolding scripts tests
block_stmts_in_macro = refl

pub block_stmts : EntryChecked table block_stmt_entry
block_stmts =
    record {
      reads = in_both block_stmt_entry block_stmts_in_block block_stmts_in_macro;
      begins = refl;
      followed = refl;
      nodes = λ h. refl;
    }

empty_stmts_in_block : InBlock empty_stmt_entry
unfolding scripts tests
empty_stmts_in_block = refl

empty_stmts_in_macro : InMacro empty_stmt_entry
unfolding scripts tests
empty_stmts_in_macro = refl

pub empty_stmts : EntryChecked table empty_stmt_entry
empty_stmts =
    record {
      reads = in_both empty_stmt_entry empty_stmts_in_block empty_stmts_in_macro;
      begins = refl;
      followed = refl;
      nodes = λ h. absurd cc;
    }

tails_read : InBlock tail_entry
unfolding scripts tests
tails_read = refl

pub tails : EntryChecked table tail_entry
tails = record { reads = in_block tail_entry tails_read; begins = refl; followed = refl; nodes = λ h. refl }

macro_tails_read : InMacro macro_tail_entry
unfolding scripts tests
macro_tails_read = refl

pub macro_tails : EntryChecked table macro_tail_entry
macro_tails =
    record { reads = in_macro macro_tail_entry macro_tails_read; begins = refl; followed = refl; nodes = λ h. refl }

attr_exprs_read : all_accepted (is_read table attr_expr_entry (expr_rule false false 1)) attr_expr_entry.rows ≡ accepted
unfolding scripts tests
attr_exprs_read = refl

pub attr_exprs : EntryChecked table attr_expr_entry
attr_exprs =
    record {
      reads = read_by_expr table attr_expr_entry false false 1 (something ∷ []) attr_exprs_read;
      begins = refl;
      followed = refl;
      nodes = λ h. refl;
    }
