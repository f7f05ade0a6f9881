-- The rows of generic arguments, generic parameters and `where` are read: computed.
use Rattle.std.proofs.Common.{◌≡◌, true, refl}
use Rattle.rap_grammar_scripts.specs.declared.rule.Rule.{Rule}
use Rattle.rap_grammar_scripts.specs.declared.rule.Rule.TheVariants as knot
use Rattle.rap_grammar_table.proofs.Refusal.{accepted}
use Rattle.rap_grammar_table.proofs.Table.{table}
use Rattle.rap_grammar_table.proofs.GenericHints.{argument_entry, generics_entry, param_entry, predicate_entry, where_entry}
use Rattle.rap_grammar_table.proofs.Walk.{all_accepted}
use Rattle.rap_grammar_table.proofs.Ways.{some_outcome}
use Rattle.rap_grammar_table.proofs.Entries.{is_read, EntryChecked}
use Rattle.rap_grammar_table.proofs.Scripts.{scripts}

arguments_read : all_accepted (is_read table argument_entry knot.GenericArg) argument_entry.rows ≡ accepted
unfolding scripts
arguments_read = refl

arguments_read_by : (r : Rule) → some_outcome (argument_entry.read_by r) ≡ true →
    all_accepted (is_read table argument_entry r) argument_entry.rows ≡ accepted
arguments_read_by knot.GenericArg h = arguments_read
arguments_read_by r h = absurd cc

pub arguments : EntryChecked table argument_entry
arguments = record { reads = arguments_read_by; begins = refl; followed = refl; nodes = λ h. refl }

generics_read : all_accepted (is_read table generics_entry knot.GenericParamList) generics_entry.rows ≡ accepted
unfolding scripts
generics_read = refl

generics_read_by : (r : Rule) → some_outcome (generics_entry.read_by r) ≡ true →
    all_accepted (is_read table generics_entry r) generics_entry.rows ≡ accepted
generics_read_by knot.GenericParamList h = generics_read
generics_read_by r h = absurd cc

pub generics : EntryChecked table generics_entry
generics = record { reads = generics_read_by; begins = refl; followed = refl; nodes = λ h. refl }

where_read : all_accepted (is_read table where_entry knot.WhereClause) where_entry.rows ≡ accepted
unfolding scripts
where_read = refl

where_read_by : (r : Rule) → some_outcome (where_entry.read_by r) ≡ true →
    all_accepted (is_read table where_entry r) where_entry.rows ≡ accepted
where_read_by knot.WhereClause h = where_read
where_read_by r h = absurd cc

pub wheres : EntryChecked table where_entry
wheres = record { reads = where_read_by; begins = refl; followed = refl; nodes = λ h. refl }

pub generic_params : EntryChecked table param_entry
generic_params = record { reads = λ r h. absurd cc; begins = refl; followed = refl; nodes = λ h. refl }

pub predicates : EntryChecked table predicate_entry
predicates = record { reads = λ r h. absurd cc; begins = refl; followed = refl; nodes = λ h. refl }
