-- The rows of items are read: computed.
use Rattle.std.proofs.Common.{◌≡◌, Bool, true, false, refl}
use Rattle.rap_grammar_scripts.specs.declared.rule.Rule.{Rule}
use Rattle.rap_grammar_scripts.specs.declared.rule.Rule.TheVariants as knot
use Rattle.rap_grammar_table.proofs.Refusal.{accepted}
use Rattle.rap_grammar_table.proofs.Table.{table}
use Rattle.rap_grammar_table.proofs.ItemHints.{field_entry, fn_params_entry, item_entry, variant_entry, visibility_entry, use_tree_entry}
use Rattle.rap_grammar_table.proofs.Walk.{all_accepted}
use Rattle.rap_grammar_table.proofs.Ways.{some_outcome}
use Rattle.rap_grammar_table.proofs.Entries.{is_read, EntryChecked}
use Rattle.rap_grammar_table.proofs.Scripts.{scripts}

items_in_extern : (stops : Bool) →
    all_accepted (is_read table item_entry (knot.ItemOrMacro stops true)) item_entry.rows ≡ accepted
unfolding scripts
items_in_extern stops = refl

items_elsewhere : (stops : Bool) →
    all_accepted (is_read table item_entry (knot.ItemOrMacro stops false)) item_entry.rows ≡ accepted
unfolding scripts
items_elsewhere stops = refl

items_read_by : (r : Rule) → some_outcome (item_entry.read_by r) ≡ true →
    all_accepted (is_read table item_entry r) item_entry.rows ≡ accepted
items_read_by (knot.ItemOrMacro stops true) h = items_in_extern stops
items_read_by (knot.ItemOrMacro stops false) h = items_elsewhere stops
items_read_by r h = absurd cc

pub items : EntryChecked table item_entry
items = record { reads = items_read_by; begins = refl; followed = refl; nodes = λ h. refl }

pub visibilities : EntryChecked table visibility_entry
visibilities = record { reads = λ r h. absurd cc; begins = refl; followed = refl; nodes = λ h. refl }

pub record_fields_so : EntryChecked table field_entry
record_fields_so = record { reads = λ r h. absurd cc; begins = refl; followed = refl; nodes = λ h. refl }

pub variants : EntryChecked table variant_entry
variants = record { reads = λ r h. absurd cc; begins = refl; followed = refl; nodes = λ h. refl }

pub fn_params : EntryChecked table fn_params_entry
fn_params = record { reads = λ r h. absurd cc; begins = refl; followed = refl; nodes = λ h. refl }

use_trees_read : all_accepted (is_read table use_tree_entry knot.UseTree) use_tree_entry.rows ≡ accepted
unfolding scripts
use_trees_read = refl

use_trees_read_by : (r : Rule) → some_outcome (use_tree_entry.read_by r) ≡ true →
    all_accepted (is_read table use_tree_entry r) use_tree_entry.rows ≡ accepted
use_trees_read_by knot.UseTree h = use_trees_read
use_trees_read_by r h = absurd cc

pub use_trees : EntryChecked table use_tree_entry
use_trees = record { reads = use_trees_read_by; begins = refl; followed = refl; nodes = λ h. refl }
