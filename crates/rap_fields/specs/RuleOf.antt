-- The rule of a field in nodes of a kind, and the name of a field.
use Rattle.std.specs.Prelude.{ℕ, List, [], slice_index_or}
use Rattle.rap_fields.specs.FieldNames.{names}
use Rattle.rap_fields.specs.Rule.{Look, of_field}
use Rattle.rap_fields.specs.Rules.{rows_of}

abbrev pub name_of : ℕ → List ℕ
name_of field = slice_index_or names field []

abbrev pub rule_of : ℕ → ℕ → List Look
rule_of kind field = of_field field (rows_of kind)
