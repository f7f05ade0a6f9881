-- The children that shapes spell fill the fields.
use Rattle.std.specs.Prelude.{◌≡◌, ℕ, true, List, ◌∷◌}
use Rattle.rap_fields.specs.Field.{Fills, nodes_are, together}
use Rattle.rap_fields.specs.Found.{found}
use Rattle.rap_fields.specs.Place.{FieldRow, cut}
use Rattle.rap_fields.specs.PlacedRows.{placed}
use Rattle.rap_fields.specs.Rows.{fields}
use Rattle.rap_grammar_shapes.specs.Parts.{ShapeSays}

-- one of a list
pub data IsOne {A : Type 0} (a : A) : List A → Type 0 where
  first : {rest : List A} → IsOne a (a ∷ rest)
  later : {b : A} {rest : List A} → IsOne a rest → IsOne a (b ∷ rest)

-- Whatever children the shape of a kind spells: of each field of the kind as many are there as the field says.
abbrev pub FieldsAreFilled : Type 0
FieldsAreFilled =
    (kind : ℕ) (rs : List FieldRow) (r : FieldRow) → IsOne (kind, rs) fields → IsOne r rs →
    ShapeSays kind (Fills r.field)

-- The same of the fields that are found by their places too, each in its part of the children.
abbrev pub PlacedFieldsAreFilled : Type 0
PlacedFieldsAreFilled =
    (kind : ℕ) (rs : List FieldRow) (r : FieldRow) → IsOne (kind, rs) placed → IsOne r rs →
    ShapeSays kind (λ cs. Fills r.field (cut (λ c. c) r.cut cs))

-- Each that is a node is found by a field of the kind, or left out by name.
abbrev pub NodesAreFound : Type 0
NodesAreFound =
    (kind : ℕ) (kss : List (List ℕ)) → IsOne (kind, kss) found →
    ShapeSays kind (λ cs. nodes_are (together kss) cs ≡ true)
