-- The lines that the program prints.
use Rattle.std.specs.Prelude.{ℕ, List, [], ◌∷◌, ◌++◌, Option, None, Some, codes}
use Rattle.std.specs.Borrow.{Bor}
use Rattle.std.specs.Fmt.{decimal}
use Rattle.rap_base.specs.Names.{name_of}
use Rattle.rap_core.specs.declared.listing.Place.{Place}
use Rattle.rap_core.specs.declared.listing.Places.{Places}

-- what each line begins with: where the file is told the file and a colon
abbrev pub front_of : Option (Bor (List ℕ)) → List ℕ
front_of None = []
front_of (Some file) = file.now ++ codes ":"

-- the line of a token or of a node: behind the front its kind, and where it begins and ends in the text
abbrev pub place_line : List ℕ → Place → List ℕ
place_line front p =
    front ++ (name_of p.kind ++ (codes "@" ++ (decimal p.start ++ (codes ".." ++ (decimal p.end ++ codes "\n")))))

-- the lines of places in their order
abbrev pub place_lines : List ℕ → List Place → List ℕ
place_lines front [] = []
place_lines front (p ∷ ps) = place_line front p ++ place_lines front ps

-- the lines of what is outside: first those of tokens that the lexer has a message of, and then those of nodes of the tree
abbrev pub all_lines : List ℕ → Places → List ℕ
all_lines front places = place_lines front places.tokens.items ++ place_lines front places.nodes.items
