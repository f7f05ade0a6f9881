-- Children among which no message and no ERROR is.
use Rattle.std.specs.Prelude.{◌≡◌, ◌==◌, ◌&&◌, not, Bool, true, false, List, [], ◌∷◌}
use Rattle.rap_base.specs.TokenKind.{ERROR}
use Rattle.rap_grammar_table.specs.Shapes.{Child, leaf_child, node_child, message_child, float_child}

-- a child is neither a message nor an ERROR
abbrev pub is_sound : Child → Bool
is_sound (leaf_child kind) = true
is_sound (node_child kind) = not (kind == ERROR)
is_sound message_child = false
is_sound float_child = true

-- the same of all children
abbrev pub are_sound : List Child → Bool
are_sound [] = true
are_sound (c ∷ cs) = is_sound c && are_sound cs

-- The children of a node that has no message and no ERROR right under it.
abbrev pub IsWhole : List Child → Type 0
IsWhole children = are_sound children ≡ true
