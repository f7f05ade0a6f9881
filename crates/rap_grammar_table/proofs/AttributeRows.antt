-- The rows of tokens in brackets and of attributes are read: computed.
use Rattle.std.proofs.Common.{◌≡◌, true, refl}
use Rattle.rap_grammar_scripts.specs.declared.rule.Rule.{Rule}
use Rattle.rap_grammar_scripts.specs.declared.rule.Rule.TheVariants as knot
use Rattle.rap_grammar_table.proofs.Refusal.{accepted}
use Rattle.rap_grammar_table.proofs.Table.{table}
use Rattle.rap_grammar_table.proofs.AttributeHints.{attr_entry, cfg_entry, macro_path_entry, meta_entry, token_tree_entry, inner_attr_entry}
use Rattle.rap_grammar_table.proofs.Walk.{all_accepted}
use Rattle.rap_grammar_table.proofs.Ways.{some_outcome}
use Rattle.rap_grammar_table.proofs.Entries.{is_read, EntryChecked}
use Rattle.rap_grammar_table.proofs.Scripts.{scripts}

trees_read : all_accepted (is_read table token_tree_entry knot.TokenTree) token_tree_entry.rows ≡ accepted
unfolding scripts
trees_read = refl

trees_read_by : (r : Rule) → some_outcome (token_tree_entry.read_by r) ≡ true →
    all_accepted (is_read table token_tree_entry r) token_tree_entry.rows ≡ accepted
trees_read_by knot.TokenTree h = trees_read
trees_read_by r h = absurd cc

pub token_trees : EntryChecked table token_tree_entry
token_trees = record { reads = trees_read_by; begins = refl; followed = refl; nodes = λ h. refl }

conditions_read : all_accepted (is_read table cfg_entry knot.CfgPredicate) cfg_entry.rows ≡ accepted
unfolding scripts
conditions_read = refl

conditions_read_by : (r : Rule) → some_outcome (cfg_entry.read_by r) ≡ true →
    all_accepted (is_read table cfg_entry r) cfg_entry.rows ≡ accepted
conditions_read_by knot.CfgPredicate h = conditions_read
conditions_read_by r h = absurd cc

pub conditions : EntryChecked table cfg_entry
conditions = record { reads = conditions_read_by; begins = refl; followed = refl; nodes = λ h. refl }

metas_read : all_accepted (is_read table meta_entry knot.Meta) meta_entry.rows ≡ accepted
unfolding scripts
metas_read = refl

metas_read_by : (r : Rule) → some_outcome (meta_entry.read_by r) ≡ true →
    all_accepted (is_read table meta_entry r) meta_entry.rows ≡ accepted
metas_read_by knot.Meta h = metas_read
metas_read_by r h = absurd cc

pub metas : EntryChecked table meta_entry
metas = record { reads = metas_read_by; begins = refl; followed = refl; nodes = λ h. refl }

pub attributes : EntryChecked table attr_entry
attributes = record { reads = λ r h. absurd cc; begins = refl; followed = refl; nodes = λ h. refl }

pub macro_paths : EntryChecked table macro_path_entry
macro_paths = record { reads = λ r h. absurd cc; begins = refl; followed = refl; nodes = λ h. refl }

pub inner_attributes : EntryChecked table inner_attr_entry
inner_attributes = record { reads = λ r h. absurd cc; begins = refl; followed = refl; nodes = λ h. refl }
