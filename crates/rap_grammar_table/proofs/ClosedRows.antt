-- The rows of operands with operators of tighter levels are read.
use Rattle.std.proofs.Common.{◌≡◌, ℕ, Bool, true, false, refl, [], ◌∷◌}
use Rattle.rap_grammar_scripts.specs.Script.{something}
use Rattle.rap_grammar_table.proofs.Entry.{Entry}
use Rattle.rap_grammar_table.proofs.Entries.{EntryChecked, all_rows, begins_so, followed_so}
use Rattle.rap_grammar_table.proofs.ExprHints.{closed_entry, power_behind, with_cast_entry}
use Rattle.rap_grammar_table.proofs.ExprRows.{expr_rule, read_by_expr}
use Rattle.rap_grammar_table.proofs.Look.{depth, is_one_node}
use Rattle.rap_grammar_table.proofs.Operands.{climbing, Same, Taken, with_operands}
use Rattle.rap_grammar_table.proofs.Table.{table}
use Rattle.rap_grammar_table.specs.Category.{Level, Or, And, Comparison, BitOr, BitXor, BitAnd, Shift, Sum, Product}

-- What is computed of each level: the rows are read where operands are, and begin and are followed as they must.
record Computed (e : Entry) (forbid : Bool) (level : Level) : Type 0 where
  taken : Taken e (expr_rule forbid false (power_behind level)) e.rows
  same : Same forbid e (expr_rule forbid false (power_behind level)) e.rows
  begins : all_rows (begins_so table e) e.rows ≡ true
  followed : all_rows (followed_so table e) e.rows ≡ true
  nodes : all_rows (is_one_node table depth) e.rows ≡ true

closed_computed : (forbid : Bool) (level : Level) → Computed (closed_entry forbid level) forbid level
unfolding climbing
closed_computed false Or = record { taken = refl; same = λ o. refl; begins = refl; followed = refl; nodes = refl }
closed_computed false And = record { taken = refl; same = λ o. refl; begins = refl; followed = refl; nodes = refl }
closed_computed false Comparison = record { taken = refl; same = λ o. refl; begins = refl; followed = refl; nodes = refl }
closed_computed false BitOr = record { taken = refl; same = λ o. refl; begins = refl; followed = refl; nodes = refl }
closed_computed false BitXor = record { taken = refl; same = λ o. refl; begins = refl; followed = refl; nodes = refl }
closed_computed false BitAnd = record { taken = refl; same = λ o. refl; begins = refl; followed = refl; nodes = refl }
closed_computed false Shift = record { taken = refl; same = λ o. refl; begins = refl; followed = refl; nodes = refl }
closed_computed false Sum = record { taken = refl; same = λ o. refl; begins = refl; followed = refl; nodes = refl }
closed_computed false Product = record { taken = refl; same = λ o. refl; begins = refl; followed = refl; nodes = refl }
closed_computed true Or = record { taken = refl; same = λ o. refl; begins = refl; followed = refl; nodes = refl }
closed_computed true And = record { taken = refl; same = λ o. refl; begins = refl; followed = refl; nodes = refl }
closed_computed true Comparison = record { taken = refl; same = λ o. refl; begins = refl; followed = refl; nodes = refl }
closed_computed true BitOr = record { taken = refl; same = λ o. refl; begins = refl; followed = refl; nodes = refl }
closed_computed true BitXor = record { taken = refl; same = λ o. refl; begins = refl; followed = refl; nodes = refl }
closed_computed true BitAnd = record { taken = refl; same = λ o. refl; begins = refl; followed = refl; nodes = refl }
closed_computed true Shift = record { taken = refl; same = λ o. refl; begins = refl; followed = refl; nodes = refl }
closed_computed true Sum = record { taken = refl; same = λ o. refl; begins = refl; followed = refl; nodes = refl }
closed_computed true Product = record { taken = refl; same = λ o. refl; begins = refl; followed = refl; nodes = refl }

pub closed : (forbid : Bool) (level : Level) → EntryChecked table (closed_entry forbid level)
closed forbid level =
    let e = closed_entry forbid level in
    let c = closed_computed forbid level in
    record {
      reads =
          read_by_expr table e forbid false (power_behind level) (something ∷ [])
          (with_operands forbid e (expr_rule forbid false (power_behind level)) e.rows c.taken c.same);
      begins = c.begins;
      followed = c.followed;
      nodes = λ h. c.nodes;
    }

-- the same with a cast at the end
with_cast_computed : (forbid : Bool) (level : Level) → Computed (with_cast_entry forbid level) forbid level
unfolding climbing
with_cast_computed false Or = record { taken = refl; same = λ o. refl; begins = refl; followed = refl; nodes = refl }
with_cast_computed false And = record { taken = refl; same = λ o. refl; begins = refl; followed = refl; nodes = refl }
with_cast_computed false Comparison = record { taken = refl; same = λ o. refl; begins = refl; followed = refl; nodes = refl }
with_cast_computed false BitOr = record { taken = refl; same = λ o. refl; begins = refl; followed = refl; nodes = refl }
with_cast_computed false BitXor = record { taken = refl; same = λ o. refl; begins = refl; followed = refl; nodes = refl }
with_cast_computed false BitAnd = record { taken = refl; same = λ o. refl; begins = refl; followed = refl; nodes = refl }
with_cast_computed false Shift = record { taken = refl; same = λ o. refl; begins = refl; followed = refl; nodes = refl }
with_cast_computed false Sum = record { taken = refl; same = λ o. refl; begins = refl; followed = refl; nodes = refl }
with_cast_computed false Product = record { taken = refl; same = λ o. refl; begins = refl; followed = refl; nodes = refl }
with_cast_computed true Or = record { taken = refl; same = λ o. refl; begins = refl; followed = refl; nodes = refl }
with_cast_computed true And = record { taken = refl; same = λ o. refl; begins = refl; followed = refl; nodes = refl }
with_cast_computed true Comparison = record { taken = refl; same = λ o. refl; begins = refl; followed = refl; nodes = refl }
with_cast_computed true BitOr = record { taken = refl; same = λ o. refl; begins = refl; followed = refl; nodes = refl }
with_cast_computed true BitXor = record { taken = refl; same = λ o. refl; begins = refl; followed = refl; nodes = refl }
with_cast_computed true BitAnd = record { taken = refl; same = λ o. refl; begins = refl; followed = refl; nodes = refl }
with_cast_computed true Shift = record { taken = refl; same = λ o. refl; begins = refl; followed = refl; nodes = refl }
with_cast_computed true Sum = record { taken = refl; same = λ o. refl; begins = refl; followed = refl; nodes = refl }
with_cast_computed true Product = record { taken = refl; same = λ o. refl; begins = refl; followed = refl; nodes = refl }

pub with_cast : (forbid : Bool) (level : Level) → EntryChecked table (with_cast_entry forbid level)
with_cast forbid level =
    let e = with_cast_entry forbid level in
    let c = with_cast_computed forbid level in
    record {
      reads =
          read_by_expr table e forbid false (power_behind level) (something ∷ [])
          (with_operands forbid e (expr_rule forbid false (power_behind level)) e.rows c.taken c.same);
      begins = c.begins;
      followed = c.followed;
      nodes = λ h. c.nodes;
    }
