-- The rows of expressions are read: computed.
use Rattle.std.proofs.Common.{◌≡◌, ℕ, Bool, true, false, ◌&&◌, ◌==◌, refl, sym, subst, List, [], ◌∷◌}
use Rattle.rap_events.proofs.Truth.{and_left, and_right}
use Rattle.rap_grammar_scripts.specs.Script.{Outcome, something}
use Rattle.rap_grammar_scripts.specs.declared.arguments.Restrictions.{Restrictions}
use Rattle.rap_grammar_scripts.specs.declared.rule.Rule.{Rule}
use Rattle.rap_grammar_scripts.specs.declared.rule.Rule.TheVariants as knot
use Rattle.rap_grammar_table.proofs.ExprHints.{outcomes_if, by_expr, arg_list_entry, atom_entry, atom_path_entry, brace_tree_entry, cast_path_entry, cast_type_entry, last_cast_type_entry, let_entry, else_prefixed_entry, else_value_entry, name_expr_entry, open_atom_entry, open_prefixed_entry, operand_entry, plain_atom_entry, prefixed_entry, round_tree_entry, stmt_operand_entry, stmt_prefixed_entry}
use Rattle.rap_grammar_table.proofs.Entry.{Entry}
use Rattle.rap_grammar_table.proofs.Refusal.{accepted}
use Rattle.rap_grammar_table.proofs.Table.{table}
use Rattle.rap_grammar_table.proofs.Hints.{Table}
use Rattle.rap_grammar_table.proofs.Walk.{all_accepted}
use Rattle.rap_grammar_table.proofs.Ways.{same_flag, some_outcome}
use Rattle.rap_grammar_table.proofs.Entries.{is_read, EntryChecked}
use Rattle.rap_grammar_table.proofs.Known.{same_number}
use Rattle.rap_grammar_table.proofs.Pieces.{same_flags}
use Rattle.rap_grammar_table.proofs.Scripts.{scripts}
use Rattle.rap_grammar_table.proofs.Tests.{tests}

-- the rule of an expression with these restrictions and this power
abbrev pub expr_rule : Bool → Bool → ℕ → Rule
expr_rule forbid stmt power = knot.ExprBp (record { forbid_structs = forbid; prefer_stmt = stmt }) power

pub if_so : (b : Bool) (vs : List Outcome) → some_outcome (outcomes_if b vs) ≡ true → b ≡ true
if_so true vs h = refl
if_so false vs h = absurd cc

pub same_rule : (forbid stmt : Bool) (power : ℕ) (r : Restrictions) (bp : ℕ) → r.forbid_structs ≡ forbid →
    r.prefer_stmt ≡ stmt → bp ≡ power → expr_rule forbid stmt power ≡ knot.ExprBp r bp
same_rule forbid stmt power r bp h i j = rw (sym h, sym i, sym j) refl

pub read_by_expr : (t : Table) (e : Entry) (forbid stmt : Bool) (power : ℕ) (vs : List Outcome) →
    all_accepted (is_read t e (expr_rule forbid stmt power)) e.rows ≡ accepted → (r : Rule) →
    some_outcome (by_expr forbid stmt power vs r) ≡ true → all_accepted (is_read t e r) e.rows ≡ accepted
read_by_expr t e forbid stmt power vs a (knot.ExprBp r bp) h =
    let i = if_so (same_flag r.forbid_structs forbid && (same_flag r.prefer_stmt stmt && (bp == power))) vs h in
    let j = and_right (same_flag r.forbid_structs forbid) _ i in
    subst (λ (q : Rule). all_accepted (is_read t e q) e.rows ≡ accepted)
    (same_rule forbid stmt power r bp
    (same_flags r.forbid_structs forbid (and_left (same_flag r.forbid_structs forbid) _ i))
    (same_flags r.prefer_stmt stmt (and_left (same_flag r.prefer_stmt stmt) _ j))
    (same_number bp power (and_right (same_flag r.prefer_stmt stmt) _ j))) a
read_by_expr t e forbid stmt power vs a r h = absurd cc

pub atom_paths : EntryChecked table atom_path_entry
atom_paths = record { reads = λ r h. absurd cc; begins = refl; followed = refl; nodes = λ h. refl }

pub round_trees : EntryChecked table round_tree_entry
round_trees = record { reads = λ r h. absurd cc; begins = refl; followed = refl; nodes = λ h. refl }

pub brace_trees : EntryChecked table brace_tree_entry
brace_trees = record { reads = λ r h. absurd cc; begins = refl; followed = refl; nodes = λ h. refl }

pub arg_lists : EntryChecked table arg_list_entry
arg_lists = record { reads = λ r h. absurd cc; begins = refl; followed = refl; nodes = λ h. refl }

name_exprs_read :
    all_accepted (is_read table name_expr_entry (expr_rule false false 1)) name_expr_entry.rows ≡ accepted
unfolding scripts tests
name_exprs_read = refl

pub name_exprs : EntryChecked table name_expr_entry
name_exprs =
    record {
      reads = read_by_expr table name_expr_entry false false 1 (something ∷ []) name_exprs_read;
      begins = refl;
      followed = refl;
      nodes = λ h. refl;
    }

pub atoms : EntryChecked table (atom_entry false)
atoms = record { reads = λ r h. absurd cc; begins = refl; followed = refl; nodes = λ h. refl }

pub atoms_forbidden : EntryChecked table (atom_entry true)
atoms_forbidden = record { reads = λ r h. absurd cc; begins = refl; followed = refl; nodes = λ h. refl }

pub operands : EntryChecked table (operand_entry false)
operands = record { reads = λ r h. absurd cc; begins = refl; followed = refl; nodes = λ h. refl }

pub operands_forbidden : EntryChecked table (operand_entry true)
operands_forbidden = record { reads = λ r h. absurd cc; begins = refl; followed = refl; nodes = λ h. refl }

pub stmt_operands : EntryChecked table stmt_operand_entry
stmt_operands = record { reads = λ r h. absurd cc; begins = refl; followed = refl; nodes = λ h. refl }

pub open_atoms_so : EntryChecked table open_atom_entry
open_atoms_so = record { reads = λ r h. absurd cc; begins = refl; followed = refl; nodes = λ h. refl }

prefixed_read :
    all_accepted (is_read table (prefixed_entry false) (expr_rule false false 255)) ((prefixed_entry false)).rows ≡ accepted
unfolding scripts tests
prefixed_read = refl

pub prefixed : EntryChecked table (prefixed_entry false)
prefixed =
    record {
      reads = read_by_expr table (prefixed_entry false) false false 255 (something ∷ []) prefixed_read;
      begins = refl;
      followed = refl;
      nodes = λ h. refl;
    }

prefixed_forbidden_read :
    all_accepted (is_read table (prefixed_entry true) (expr_rule true false 255)) ((prefixed_entry true)).rows ≡ accepted
unfolding scripts tests
prefixed_forbidden_read = refl

pub prefixed_forbidden : EntryChecked table (prefixed_entry true)
prefixed_forbidden =
    record {
      reads = read_by_expr table (prefixed_entry true) true false 255 (something ∷ []) prefixed_forbidden_read;
      begins = refl;
      followed = refl;
      nodes = λ h. refl;
    }

stmt_prefixed_read :
    all_accepted (is_read table stmt_prefixed_entry (expr_rule false true 255)) (stmt_prefixed_entry).rows ≡ accepted
unfolding scripts tests
stmt_prefixed_read = refl

pub stmt_prefixed : EntryChecked table stmt_prefixed_entry
stmt_prefixed =
    record {
      reads = read_by_expr table stmt_prefixed_entry false true 255 (something ∷ []) stmt_prefixed_read;
      begins = refl;
      followed = refl;
      nodes = λ h. refl;
    }

open_prefixed_read :
    all_accepted (is_read table open_prefixed_entry (expr_rule false false 255)) (open_prefixed_entry).rows ≡ accepted
unfolding scripts tests
open_prefixed_read = refl

pub open_prefixed : EntryChecked table open_prefixed_entry
open_prefixed =
    record {
      reads = read_by_expr table open_prefixed_entry false false 255 (something ∷ []) open_prefixed_read;
      begins = refl;
      followed = refl;
      nodes = λ h. refl;
    }

pub cast_paths : EntryChecked table cast_path_entry
cast_paths = record { reads = λ r h. absurd cc; begins = refl; followed = refl; nodes = λ h. refl }

cast_types_read :
    all_accepted (is_read table cast_type_entry (knot.TypeWithBoundsCond false)) cast_type_entry.rows ≡ accepted
unfolding scripts tests
cast_types_read = refl

cast_types_read_by : (r : Rule) → some_outcome (cast_type_entry.read_by r) ≡ true →
    all_accepted (is_read table cast_type_entry r) cast_type_entry.rows ≡ accepted
cast_types_read_by (knot.TypeWithBoundsCond false) h = cast_types_read
cast_types_read_by r h = absurd cc

pub cast_types : EntryChecked table cast_type_entry
cast_types = record { reads = cast_types_read_by; begins = refl; followed = refl; nodes = λ h. refl }

last_cast_types_read :
    all_accepted (is_read table last_cast_type_entry (knot.TypeWithBoundsCond false)) last_cast_type_entry.rows ≡ accepted
unfolding scripts tests
last_cast_types_read = refl

last_cast_types_read_by : (r : Rule) → some_outcome (last_cast_type_entry.read_by r) ≡ true →
    all_accepted (is_read table last_cast_type_entry r) last_cast_type_entry.rows ≡ accepted
last_cast_types_read_by (knot.TypeWithBoundsCond false) h = last_cast_types_read
last_cast_types_read_by r h = absurd cc

pub last_cast_types : EntryChecked table last_cast_type_entry
last_cast_types = record { reads = last_cast_types_read_by; begins = refl; followed = refl; nodes = λ h. refl }

lets_read : all_accepted (is_read table (let_entry false) (expr_rule false false 5)) (let_entry false).rows ≡ accepted
unfolding scripts tests
lets_read = refl

pub lets : EntryChecked table (let_entry false)
lets =
    record {
      reads = read_by_expr table (let_entry false) false false 5 (something ∷ []) lets_read;
      begins = refl;
      followed = refl;
      nodes = λ h. refl;
    }

lets_forbidden_read : all_accepted (is_read table (let_entry true) (expr_rule true false 5)) (let_entry true).rows ≡ accepted
unfolding scripts tests
lets_forbidden_read = refl

pub lets_forbidden : EntryChecked table (let_entry true)
lets_forbidden =
    record {
      reads = read_by_expr table (let_entry true) true false 5 (something ∷ []) lets_forbidden_read;
      begins = refl;
      followed = refl;
      nodes = λ h. refl;
    }

pub plain_atoms_so : EntryChecked table plain_atom_entry
plain_atoms_so = record { reads = λ r h. absurd cc; begins = refl; followed = refl; nodes = λ h. refl }

else_values_read :
    all_accepted (is_read table else_value_entry (expr_rule false false 1)) else_value_entry.rows ≡ accepted
unfolding scripts tests
else_values_read = refl

pub else_values : EntryChecked table else_value_entry
else_values =
    record {
      reads = read_by_expr table else_value_entry false false 1 (something ∷ []) else_values_read;
      begins = refl;
      followed = refl;
      nodes = λ h. refl;
    }

else_prefixed_read :
    all_accepted (is_read table else_prefixed_entry (expr_rule false false 255)) else_prefixed_entry.rows ≡ accepted
unfolding scripts tests
else_prefixed_read = refl

pub else_prefixed : EntryChecked table else_prefixed_entry
else_prefixed =
    record {
      reads = read_by_expr table else_prefixed_entry false false 255 (something ∷ []) else_prefixed_read;
      begins = refl;
      followed = refl;
      nodes = λ h. refl;
    }
