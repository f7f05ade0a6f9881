-- The rows of types are read: computed.
use Rattle.std.proofs.Common.{◌≡◌, true, false, refl}
use Rattle.rap_grammar_scripts.specs.declared.rule.Rule.{Rule}
use Rattle.rap_grammar_scripts.specs.declared.rule.Rule.TheVariants as knot
use Rattle.rap_grammar_table.proofs.Refusal.{accepted}
use Rattle.rap_grammar_table.proofs.Table.{table}
use Rattle.rap_grammar_table.proofs.TypeHints.{anchor_entry, anchored_path_entry, args_entry, before_plus_entry, bound_entry, bounds_entry, fn_pointer_params_entry, global_path_entry, param_name_entry, path_before_plus_entry, path_entry, plain_entry, symbol_entry, type_entry, use_path_entry, expr_path_entry, simple_path_entry, trait_ref_entry}
use Rattle.rap_grammar_table.proofs.Walk.{all_accepted}
use Rattle.rap_grammar_table.proofs.Ways.{some_outcome}
use Rattle.rap_grammar_table.proofs.Entries.{is_read, EntryChecked}
use Rattle.rap_grammar_table.proofs.Scripts.{scripts}

types_read : all_accepted (is_read table type_entry (knot.TypeWithBoundsCond true)) type_entry.rows ≡ accepted
unfolding scripts
types_read = refl

types_read_by : (r : Rule) → some_outcome (type_entry.read_by r) ≡ true →
    all_accepted (is_read table type_entry r) type_entry.rows ≡ accepted
types_read_by (knot.TypeWithBoundsCond true) h = types_read
types_read_by r h = absurd cc

pub types : EntryChecked table type_entry
types = record { reads = types_read_by; begins = refl; followed = refl; nodes = λ h. refl }

plain_read : all_accepted (is_read table plain_entry (knot.TypeWithBoundsCond false)) plain_entry.rows ≡ accepted
unfolding scripts
plain_read = refl

plain_read_by : (r : Rule) → some_outcome (plain_entry.read_by r) ≡ true →
    all_accepted (is_read table plain_entry r) plain_entry.rows ≡ accepted
plain_read_by (knot.TypeWithBoundsCond false) h = plain_read
plain_read_by r h = absurd cc

pub plain_types : EntryChecked table plain_entry
plain_types = record { reads = plain_read_by; begins = refl; followed = refl; nodes = λ h. refl }

before_plus_read : all_accepted (is_read table before_plus_entry (knot.TypeWithBoundsCond false)) before_plus_entry.rows ≡ accepted
unfolding scripts
before_plus_read = refl

before_plus_read_by : (r : Rule) → some_outcome (before_plus_entry.read_by r) ≡ true →
    all_accepted (is_read table before_plus_entry r) before_plus_entry.rows ≡ accepted
before_plus_read_by (knot.TypeWithBoundsCond false) h = before_plus_read
before_plus_read_by r h = absurd cc

pub types_before_plus : EntryChecked table before_plus_entry
types_before_plus = record { reads = before_plus_read_by; begins = refl; followed = refl; nodes = λ h. refl }

anchors_read : all_accepted (is_read table anchor_entry knot.PathTypeBounds) anchor_entry.rows ≡ accepted
unfolding scripts
anchors_read = refl

anchors_read_by : (r : Rule) → some_outcome (anchor_entry.read_by r) ≡ true →
    all_accepted (is_read table anchor_entry r) anchor_entry.rows ≡ accepted
anchors_read_by knot.PathTypeBounds h = anchors_read
anchors_read_by r h = absurd cc

pub anchor_traits : EntryChecked table anchor_entry
anchor_traits = record { reads = anchors_read_by; begins = refl; followed = refl; nodes = λ h. refl }

bounds_read : all_accepted (is_read table bounds_entry knot.BoundsWithoutColon) bounds_entry.rows ≡ accepted
unfolding scripts
bounds_read = refl

bounds_read_by : (r : Rule) → some_outcome (bounds_entry.read_by r) ≡ true →
    all_accepted (is_read table bounds_entry r) bounds_entry.rows ≡ accepted
bounds_read_by knot.BoundsWithoutColon h = bounds_read
bounds_read_by r h = absurd cc

pub bound_lists : EntryChecked table bounds_entry
bound_lists = record { reads = bounds_read_by; begins = refl; followed = refl; nodes = λ h. refl }

names_read : all_accepted (is_read table param_name_entry knot.PatternSingle) param_name_entry.rows ≡ accepted
unfolding scripts
names_read = refl

names_read_by : (r : Rule) → some_outcome (param_name_entry.read_by r) ≡ true →
    all_accepted (is_read table param_name_entry r) param_name_entry.rows ≡ accepted
names_read_by knot.PatternSingle h = names_read
names_read_by r h = absurd cc

pub param_names : EntryChecked table param_name_entry
param_names = record { reads = names_read_by; begins = refl; followed = refl; nodes = λ h. refl }

pub symbol_types_so : EntryChecked table symbol_entry
symbol_types_so = record { reads = λ r h. absurd cc; begins = refl; followed = refl; nodes = λ h. refl }

pub paths : EntryChecked table path_entry
paths = record { reads = λ r h. absurd cc; begins = refl; followed = refl; nodes = λ h. refl }

pub paths_before_plus : EntryChecked table path_before_plus_entry
paths_before_plus = record { reads = λ r h. absurd cc; begins = refl; followed = refl; nodes = λ h. refl }

pub use_paths : EntryChecked table use_path_entry
use_paths = record { reads = λ r h. absurd cc; begins = refl; followed = refl; nodes = λ h. refl }

pub global_paths : EntryChecked table global_path_entry
global_paths = record { reads = λ r h. absurd cc; begins = refl; followed = refl; nodes = λ h. refl }

pub anchored_paths : EntryChecked table anchored_path_entry
anchored_paths = record { reads = λ r h. absurd cc; begins = refl; followed = refl; nodes = λ h. refl }

pub path_args : EntryChecked table args_entry
path_args = record { reads = λ r h. absurd cc; begins = refl; followed = refl; nodes = λ h. refl }

pub bounds : EntryChecked table bound_entry
bounds = record { reads = λ r h. absurd cc; begins = refl; followed = refl; nodes = λ h. refl }

pub fn_pointer_params : EntryChecked table fn_pointer_params_entry
fn_pointer_params = record { reads = λ r h. absurd cc; begins = refl; followed = refl; nodes = λ h. refl }

trait_refs_read : all_accepted (is_read table trait_ref_entry (knot.TypeWithBoundsCond true)) trait_ref_entry.rows ≡ accepted
unfolding scripts
trait_refs_read = refl

trait_refs_read_by : (r : Rule) → some_outcome (trait_ref_entry.read_by r) ≡ true →
    all_accepted (is_read table trait_ref_entry r) trait_ref_entry.rows ≡ accepted
trait_refs_read_by (knot.TypeWithBoundsCond true) h = trait_refs_read
trait_refs_read_by r h = absurd cc

pub trait_refs : EntryChecked table trait_ref_entry
trait_refs = record { reads = trait_refs_read_by; begins = refl; followed = refl; nodes = λ h. refl }

pub expr_paths : EntryChecked table expr_path_entry
expr_paths = record { reads = λ r h. absurd cc; begins = refl; followed = refl; nodes = λ h. refl }

pub simple_paths : EntryChecked table simple_path_entry
simple_paths = record { reads = λ r h. absurd cc; begins = refl; followed = refl; nodes = λ h. refl }
