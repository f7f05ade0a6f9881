-- The rows of patterns are read: computed.
use Rattle.std.proofs.Common.{◌≡◌, true, refl}
use Rattle.rap_grammar_scripts.specs.declared.rule.Rule.{Rule}
use Rattle.rap_grammar_scripts.specs.declared.rule.Rule.TheVariants as knot
use Rattle.rap_grammar_table.proofs.Refusal.{accepted}
use Rattle.rap_grammar_table.proofs.Table.{table}
use Rattle.rap_grammar_table.proofs.PatternHints.{named_rest_entry, param_pattern_entry, path_entry, pattern_entry, rest_entry, single_entry}
use Rattle.rap_grammar_table.proofs.Walk.{all_accepted}
use Rattle.rap_grammar_table.proofs.Ways.{some_outcome}
use Rattle.rap_grammar_table.proofs.Entries.{is_read, EntryChecked}
use Rattle.rap_grammar_table.proofs.Scripts.{scripts}

patterns_read : all_accepted (is_read table pattern_entry knot.Pattern) pattern_entry.rows ≡ accepted
unfolding scripts
patterns_read = refl

arm_patterns_read : all_accepted (is_read table pattern_entry knot.ArmPattern) pattern_entry.rows ≡ accepted
unfolding scripts
arm_patterns_read = refl

patterns_read_by : (r : Rule) → some_outcome (pattern_entry.read_by r) ≡ true →
    all_accepted (is_read table pattern_entry r) pattern_entry.rows ≡ accepted
patterns_read_by knot.Pattern h = patterns_read
patterns_read_by knot.ArmPattern h = arm_patterns_read
patterns_read_by r h = absurd cc

pub patterns : EntryChecked table pattern_entry
patterns = record { reads = patterns_read_by; begins = refl; followed = refl; nodes = λ h. refl }

singles_read : all_accepted (is_read table single_entry knot.PatternSingle) single_entry.rows ≡ accepted
unfolding scripts
singles_read = refl

singles_read_by : (r : Rule) → some_outcome (single_entry.read_by r) ≡ true →
    all_accepted (is_read table single_entry r) single_entry.rows ≡ accepted
singles_read_by knot.PatternSingle h = singles_read
singles_read_by r h = absurd cc

pub single_patterns : EntryChecked table single_entry
single_patterns = record { reads = singles_read_by; begins = refl; followed = refl; nodes = λ h. refl }

rests_read : all_accepted (is_read table rest_entry knot.Pattern) rest_entry.rows ≡ accepted
unfolding scripts
rests_read = refl

rests_read_alone : all_accepted (is_read table rest_entry knot.PatternSingle) rest_entry.rows ≡ accepted
unfolding scripts
rests_read_alone = refl

rests_read_by : (r : Rule) → some_outcome (rest_entry.read_by r) ≡ true →
    all_accepted (is_read table rest_entry r) rest_entry.rows ≡ accepted
rests_read_by knot.Pattern h = rests_read
rests_read_by knot.PatternSingle h = rests_read_alone
rests_read_by r h = absurd cc

pub rest_patterns : EntryChecked table rest_entry
rest_patterns = record { reads = rests_read_by; begins = refl; followed = refl; nodes = λ h. refl }

named_rests_read : all_accepted (is_read table named_rest_entry knot.Pattern) named_rest_entry.rows ≡ accepted
unfolding scripts
named_rests_read = refl

named_rests_read_by : (r : Rule) → some_outcome (named_rest_entry.read_by r) ≡ true →
    all_accepted (is_read table named_rest_entry r) named_rest_entry.rows ≡ accepted
named_rests_read_by knot.Pattern h = named_rests_read
named_rests_read_by r h = absurd cc

pub named_rests : EntryChecked table named_rest_entry
named_rests = record { reads = named_rests_read_by; begins = refl; followed = refl; nodes = λ h. refl }

param_patterns_read : all_accepted (is_read table param_pattern_entry knot.Pattern) param_pattern_entry.rows ≡ accepted
unfolding scripts
param_patterns_read = refl

param_patterns_read_alone :
    all_accepted (is_read table param_pattern_entry knot.PatternSingle) param_pattern_entry.rows ≡ accepted
unfolding scripts
param_patterns_read_alone = refl

param_patterns_read_by : (r : Rule) → some_outcome (param_pattern_entry.read_by r) ≡ true →
    all_accepted (is_read table param_pattern_entry r) param_pattern_entry.rows ≡ accepted
param_patterns_read_by knot.Pattern h = param_patterns_read
param_patterns_read_by knot.PatternSingle h = param_patterns_read_alone
param_patterns_read_by r h = absurd cc

pub param_patterns : EntryChecked table param_pattern_entry
param_patterns = record { reads = param_patterns_read_by; begins = refl; followed = refl; nodes = λ h. refl }

pub pattern_paths : EntryChecked table path_entry
pattern_paths = record { reads = λ r h. absurd cc; begins = refl; followed = refl; nodes = λ h. refl }
