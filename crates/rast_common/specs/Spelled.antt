-- Texts whose indentations are kept as numbers.
use Rattle.std.specs.Prelude.{ℕ, ◌≤◌, List, [], ◌∷◌, ◌++◌, drop, slice_range}
use Rattle.rast_common.specs.Indented.{indent}
use Rattle.rast_common.specs.declared.indented.Indent.{Indent}

-- the text from a place on, with the spaces of the indentations from there on
abbrev pub spelled : ℕ → List Indent → List ℕ → List ℕ
spelled start [] text = drop start text
spelled start (i ∷ is) text = slice_range text start i.at ++ (indent i.levels ++ spelled i.at is text)

-- the indentations are in order, from a place on, and none is after the end
abbrev pub AreInOrder : ℕ → List Indent → ℕ → Type 0
AreInOrder start [] end = start ≤ end
AreInOrder start (i ∷ is) end = (start ≤ i.at) × AreInOrder i.at is end
