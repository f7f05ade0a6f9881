-- The rows as numbers.
use Rattle.std.specs.Prelude.{ℕ, List, [], ◌∷◌}
use Rattle.rap_grammar_rows.specs.Code.{forms, firsts, seconds, nexts}
use Rattle.rap_grammar_rows.specs.Decode.{item_at, parts_of}
use Rattle.rap_grammar_table.specs.Table.{Items}

unfoldable pub all_parts : List Items
all_parts = parts_of forms firsts seconds nexts

-- the parts at these places
abbrev pub items_in : List Items → List ℕ → List Items
items_in is [] = []
items_in is (p ∷ ps) = item_at p is ∷ items_in is ps

abbrev pub rows_in : List Items → List (List ℕ) → List (List Items)
rows_in is [] = []
rows_in is (ps ∷ pss) = items_in is ps ∷ rows_in is pss
