-- The rows of what is read from braces alone, and of statements at the front of an input: computed.
use Rattle.std.proofs.Common.{refl}
use Rattle.rap_base.specs.NodeKind.{ASSOC_ITEM_LIST, EXTERN_ITEM_LIST, ITEM_LIST}
use Rattle.rap_grammar_table.proofs.ExprHints.{record_value_entry}
use Rattle.rap_grammar_table.specs.ExprRows.{record_values}
use Rattle.rap_grammar_table.proofs.ItemHints.{in_braces}
use Rattle.rap_grammar_table.specs.ItemRows.{items_under, record_fields, use_list, variant_list}
use Rattle.rap_grammar_table.proofs.Table.{table}
use Rattle.rap_grammar_table.proofs.StmtHints.{front_stmt_entry, last_stmt_entry}
use Rattle.rap_grammar_table.specs.StmtRows.{match_arms}
use Rattle.rap_grammar_table.proofs.Entries.{EntryChecked}

pub field_lists : EntryChecked table (in_braces record_fields)
field_lists = record { reads = λ r h. absurd cc; begins = refl; followed = refl; nodes = λ h. refl }

pub variant_lists : EntryChecked table (in_braces variant_list)
variant_lists = record { reads = λ r h. absurd cc; begins = refl; followed = refl; nodes = λ h. refl }

pub use_lists : EntryChecked table (in_braces use_list)
use_lists = record { reads = λ r h. absurd cc; begins = refl; followed = refl; nodes = λ h. refl }

pub item_lists : EntryChecked table (in_braces (items_under ITEM_LIST))
item_lists = record { reads = λ r h. absurd cc; begins = refl; followed = refl; nodes = λ h. refl }

pub assoc_lists : EntryChecked table (in_braces (items_under ASSOC_ITEM_LIST))
assoc_lists = record { reads = λ r h. absurd cc; begins = refl; followed = refl; nodes = λ h. refl }

pub extern_lists : EntryChecked table (in_braces (items_under EXTERN_ITEM_LIST))
extern_lists = record { reads = λ r h. absurd cc; begins = refl; followed = refl; nodes = λ h. refl }

pub value_lists : EntryChecked table (in_braces record_values)
value_lists = record { reads = λ r h. absurd cc; begins = refl; followed = refl; nodes = λ h. refl }

pub record_value_rows : EntryChecked table record_value_entry
record_value_rows = record { reads = λ r h. absurd cc; begins = refl; followed = refl; nodes = λ h. refl }

pub arm_lists : EntryChecked table (in_braces match_arms)
arm_lists = record { reads = λ r h. absurd cc; begins = refl; followed = refl; nodes = λ h. refl }

-- a statement without its semicolon
pub front_stmts : EntryChecked table front_stmt_entry
front_stmts = record { reads = λ r h. absurd cc; begins = refl; followed = refl; nodes = λ h. refl }

pub last_stmts : EntryChecked table last_stmt_entry
last_stmts = record { reads = λ r h. absurd cc; begins = refl; followed = refl; nodes = λ h. refl }
