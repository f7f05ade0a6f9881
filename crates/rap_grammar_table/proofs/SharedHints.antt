-- What types, attributes and macro calls begin with.
use Rattle.std.specs.Prelude.{ℕ, List, [], ◌∷◌, ◌++◌}
use Rattle.rap_base.specs.TokenKind.{L_PAREN, R_PAREN, L_BRACK, L_CURLY, L_ANGLE, BANG, PLUS, UNDERSCORE, POUND, OUTER_DOC_COMMENT, LIFETIME_IDENT, FOR_KW}
use Rattle.rap_grammar_table.proofs.Entry.{of_names, colons}
use Rattle.rap_grammar_table.proofs.Evaluate.{behind}
use Rattle.rap_grammar_table.specs.SharedRows.{path_names, ends, bounds_colon, plus_follows, symbol_kinds}
use Rattle.rap_grammar_table.specs.Known.{Place}
use Rattle.rap_grammar_table.specs.Notation.{of_kinds}

abbrev pub attr_heads : List (List Place)
attr_heads = (of_kinds (POUND ∷ []) ∷ of_kinds (L_BRACK ∷ []) ∷ []) ∷ (of_kinds (OUTER_DOC_COMMENT ∷ []) ∷ []) ∷ []

-- what may follow a segment's name
abbrev pub segment_follows : List (List Place)
segment_follows = plus_follows ++ (of_kinds (FOR_KW ∷ []) ∷ []) ∷ colons ((of_names path_names ∷ []) ∷ [])

-- what begins with a name, and what a path in a type begins with
abbrev pub name_heads : List ℕ → List (List Place)
name_heads kinds =
    (of_names kinds ∷ of_kinds (L_ANGLE ∷ L_PAREN ∷ PLUS ∷ ends) ∷ [])
    ∷ behind (of_names kinds) (bounds_colon ++ colons ((of_kinds (L_ANGLE ∷ L_PAREN ∷ path_names) ∷ []) ∷ []))

abbrev pub global_heads : List (List Place)
global_heads = colons ((of_names path_names ∷ []) ∷ [])

abbrev pub other_heads : List (List Place)
other_heads =
    (of_kinds symbol_kinds ∷ [])
    ∷ (of_kinds (UNDERSCORE ∷ []) ∷ of_kinds (PLUS ∷ ends) ∷ [])
    ∷ (behind (of_kinds (UNDERSCORE ∷ [])) bounds_colon ++ global_heads)

abbrev pub lifetime_head : List Place
lifetime_head = of_kinds (LIFETIME_IDENT ∷ []) ∷ of_kinds (PLUS ∷ []) ∷ []

-- a macro call
abbrev pub brackets : List ℕ
brackets = L_PAREN ∷ L_BRACK ∷ L_CURLY ∷ []

abbrev pub macro_head : List Place
macro_head = of_names path_names ∷ of_kinds (BANG ∷ []) ∷ of_kinds brackets ∷ []

abbrev pub type_heads : List (List Place)
type_heads = lifetime_head ∷ macro_head ∷ (name_heads path_names ++ other_heads)

-- a type in parentheses by what it begins with, and others by theirs
abbrev pub paren_heads : List (List Place)
paren_heads =
    behind (of_kinds (L_PAREN ∷ [])) type_heads ++
    (of_kinds (L_PAREN ∷ []) ∷ of_kinds (L_PAREN ∷ R_PAREN ∷ []) ∷ []) ∷ []

abbrev pub type_firsts : List (List Place)
type_firsts = type_heads ++ paren_heads

-- the same without bounds
abbrev pub plain_firsts : List (List Place)
plain_firsts = macro_head ∷ name_heads path_names ++ other_heads ++ paren_heads
