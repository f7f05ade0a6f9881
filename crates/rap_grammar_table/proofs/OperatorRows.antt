-- The rows of expressions, conditions and guards, and of the ends of ranges, are read.
use Rattle.std.proofs.Common.{◌≡◌, ℕ, Bool, true, false, ◌&&◌, ◌||◌, ◌==◌, refl, subst, drop, [], ◌∷◌}
use Rattle.rap_events.proofs.Truth.{and_left, and_right}
use Rattle.rap_grammar_scripts.specs.Script.{something}
use Rattle.rap_grammar_scripts.specs.declared.rule.Rule.{Rule}
use Rattle.rap_grammar_scripts.specs.declared.rule.Rule.TheVariants as knot
use Rattle.rap_grammar_table.proofs.ExprHints.{assigned_entry, condition_entry, expr_entry, guard_entry, open_or_entry, open_and_entry, range_end_entry, range_read_by}
use Rattle.rap_grammar_table.proofs.Entry.{Entry}
use Rattle.rap_grammar_table.proofs.Refusal.{accepted}
use Rattle.rap_grammar_table.proofs.Table.{table}
use Rattle.rap_grammar_table.proofs.Walk.{all_accepted}
use Rattle.rap_grammar_table.proofs.Ways.{same_flag, some_outcome}
use Rattle.rap_grammar_table.proofs.Entries.{is_read, EntryChecked}
use Rattle.rap_grammar_table.proofs.ExprRows.{expr_rule, if_so, same_rule, read_by_expr}
use Rattle.rap_grammar_table.proofs.Known.{by_or, same_number}
use Rattle.rap_grammar_table.proofs.Operands.{climbing, Same, Taken, taking, in_parts, with_operands}
use Rattle.rap_grammar_table.proofs.Pieces.{same_flags}
use Rattle.rap_grammar_table.proofs.Scripts.{scripts}
use Rattle.rap_grammar_table.proofs.Tests.{tests}

-- The first so many rows of a category begin with an operand, and are read where that is; the others are computed.
record Computed (n : ℕ) (e : Entry) (forbid : Bool) (power : ℕ) : Type 0 where
  taken : Taken e (expr_rule forbid false power) (taking n e.rows)
  same : Same forbid e (expr_rule forbid false power) (taking n e.rows)

abbrev OthersSo : ℕ → Entry → Rule → Type 0
OthersSo n e r = all_accepted (is_read table e r) (drop n e.rows) ≡ accepted

all_read : (n : ℕ) (e : Entry) (forbid : Bool) (power : ℕ) → Computed n e forbid power →
    OthersSo n e (expr_rule forbid false power) →
    all_accepted (is_read table e (expr_rule forbid false power)) e.rows ≡ accepted
all_read n e forbid power c o =
    let r = expr_rule forbid false power in
    in_parts (is_read table e r) n e.rows (with_operands forbid e r (taking n e.rows) c.taken c.same) o

open_or_first : Computed 1 open_or_entry false 4
unfolding climbing
open_or_first = record { taken = refl; same = λ o. refl }

open_or_others : OthersSo 1 open_or_entry (expr_rule false false 4)
unfolding scripts tests
open_or_others = refl

pub open_or : EntryChecked table open_or_entry
open_or =
    record {
      reads =
          read_by_expr table open_or_entry false false 4 (something ∷ [])
          (all_read 1 open_or_entry false 4 open_or_first open_or_others);
      begins = refl;
      followed = refl;
      nodes = λ h. refl;
    }

open_and_first : Computed 1 open_and_entry false 5
unfolding climbing
open_and_first = record { taken = refl; same = λ o. refl }

open_and_others : OthersSo 1 open_and_entry (expr_rule false false 5)
unfolding scripts tests
open_and_others = refl

pub open_and : EntryChecked table open_and_entry
open_and =
    record {
      reads =
          read_by_expr table open_and_entry false false 5 (something ∷ [])
          (all_read 1 open_and_entry false 5 open_and_first open_and_others);
      begins = refl;
      followed = refl;
      nodes = λ h. refl;
    }

expressions_first : Computed 2 expr_entry false 1
unfolding climbing
expressions_first = record { taken = refl; same = λ o. refl }

expressions_others : OthersSo 2 expr_entry (expr_rule false false 1)
unfolding scripts tests
expressions_others = refl

pub expressions : EntryChecked table expr_entry
expressions =
    record {
      reads =
          read_by_expr table expr_entry false false 1 (something ∷ [])
          (all_read 2 expr_entry false 1 expressions_first expressions_others);
      begins = refl;
      followed = refl;
      nodes = λ h. refl;
    }

conditions_first : Computed 3 condition_entry true 1
unfolding climbing
conditions_first = record { taken = refl; same = λ o. refl }

conditions_others : OthersSo 3 condition_entry (expr_rule true false 1)
unfolding scripts tests
conditions_others = refl

pub conditions : EntryChecked table condition_entry
conditions =
    record {
      reads =
          read_by_expr table condition_entry true false 1 (something ∷ [])
          (all_read 3 condition_entry true 1 conditions_first conditions_others);
      begins = refl;
      followed = refl;
      nodes = λ h. refl;
    }

assigneds_first : Computed 2 assigned_entry true 1
unfolding climbing
assigneds_first = record { taken = refl; same = λ o. refl }

assigneds_others : OthersSo 2 assigned_entry (expr_rule true false 1)
unfolding scripts tests
assigneds_others = refl

pub assigneds : EntryChecked table assigned_entry
assigneds =
    record {
      reads =
          read_by_expr table assigned_entry true false 1 (something ∷ [])
          (all_read 2 assigned_entry true 1 assigneds_first assigneds_others);
      begins = refl;
      followed = refl;
      nodes = λ h. refl;
    }

guards_first : Computed 2 guard_entry false 1
unfolding climbing
guards_first = record { taken = refl; same = λ o. refl }

guards_others : OthersSo 2 guard_entry (expr_rule false false 1)
unfolding scripts tests
guards_others = refl

pub guards : EntryChecked table guard_entry
guards =
    record {
      reads =
          read_by_expr table guard_entry false false 1 (something ∷ [])
          (all_read 2 guard_entry false 1 guards_first guards_others);
      begins = refl;
      followed = refl;
      nodes = λ h. refl;
    }

-- the end of a range is read with the powers 2 and 3
two_powers : (e : Entry) (forbid : Bool) → all_accepted (is_read table e (expr_rule forbid false 2)) e.rows ≡ accepted →
    all_accepted (is_read table e (expr_rule forbid false 3)) e.rows ≡ accepted → (r : Rule) →
    some_outcome (range_read_by forbid r) ≡ true → all_accepted (is_read table e r) e.rows ≡ accepted
two_powers e forbid a b (knot.ExprBp r bp) h =
    let two = (bp == 2) || (bp == 3) in
    let i = if_so (same_flag r.forbid_structs forbid && (same_flag r.prefer_stmt false && two)) (something ∷ []) h in
    let j = and_right (same_flag r.forbid_structs forbid) _ i in
    let f = same_flags r.forbid_structs forbid (and_left (same_flag r.forbid_structs forbid) _ i) in
    let s = same_flags r.prefer_stmt false (and_left (same_flag r.prefer_stmt false) _ j) in
    by_or (bp == 2) (bp == 3) (and_right (same_flag r.prefer_stmt false) _ j)
    (λ k. subst (λ (q : Rule). all_accepted (is_read table e q) e.rows ≡ accepted)
    (same_rule forbid false 2 r bp f s (same_number bp 2 k)) a)
    (λ k. subst (λ (q : Rule). all_accepted (is_read table e q) e.rows ≡ accepted)
    (same_rule forbid false 3 r bp f s (same_number bp 3 k)) b)
two_powers e forbid a b r h = absurd cc

-- It is all read where operands are.
record RangeComputed (forbid : Bool) (power : ℕ) : Type 0 where
  taken : Taken (range_end_entry forbid) (expr_rule forbid false power) (range_end_entry forbid).rows
  same : Same forbid (range_end_entry forbid) (expr_rule forbid false power) (range_end_entry forbid).rows

range_read : (forbid : Bool) (power : ℕ) → RangeComputed forbid power →
    all_accepted (is_read table (range_end_entry forbid) (expr_rule forbid false power)) (range_end_entry forbid).rows
    ≡ accepted
range_read forbid power c =
    let e = range_end_entry forbid in with_operands forbid e (expr_rule forbid false power) e.rows c.taken c.same

range_2 : RangeComputed false 2
unfolding climbing
range_2 = record { taken = refl; same = λ o. refl }

range_3 : RangeComputed false 3
unfolding climbing
range_3 = record { taken = refl; same = λ o. refl }

pub range_ends : EntryChecked table (range_end_entry false)
range_ends =
    record {
      reads =
          two_powers (range_end_entry false) false (range_read false 2 range_2) (range_read false 3 range_3);
      begins = refl;
      followed = refl;
      nodes = λ h. refl;
    }

range_forbidden_2 : RangeComputed true 2
unfolding climbing
range_forbidden_2 = record { taken = refl; same = λ o. refl }

range_forbidden_3 : RangeComputed true 3
unfolding climbing
range_forbidden_3 = record { taken = refl; same = λ o. refl }

pub range_ends_forbidden : EntryChecked table (range_end_entry true)
range_ends_forbidden =
    record {
      reads =
          two_powers (range_end_entry true) true (range_read true 2 range_forbidden_2) (range_read true 3 range_forbidden_3);
      begins = refl;
      followed = refl;
      nodes = λ h. refl;
    }
