-- The names of the kinds.
use Rattle.std.specs.Prelude.{ℕ, List, [], map, slice_index_or}
use Rattle.rap_base.specs.Numbered.{numbered}

-- all names, in the order of the numbers
abbrev pub names : List (List ℕ)
names = map (λ row. row.0) numbered

-- the name of a kind
abbrev pub name_of : ℕ → List ℕ
name_of kind = slice_index_or names kind []
