-- What the table derives of a whole input.
use Rattle.std.specs.Prelude.{ℕ, List, [], ◌∷◌}
use Rattle.rap_base.specs.TokenKind.{EOF, SHEBANG, FRONTMATTER}
use Rattle.rap_events.specs.Forest.{Forest, none}
use Rattle.rap_events.specs.Record.{Record}
use Rattle.rap_grammar_table.specs.Category.{BlockStmt, EmptyStmt, Item, MacroTail, Stmt, Category}
use Rattle.rap_grammar_table.specs.SharedRows.{inner_attrs}
use Rattle.rap_grammar_table.specs.Known.{Place}
use Rattle.rap_grammar_table.specs.Notation.{◌⊳◌, t, c, either, opt, many, until, row, of_kinds}
use Rattle.rap_grammar_table.specs.Rows.{grammar}
use Rattle.rap_grammar_table.specs.Table.{Items, Derives, one, rest_of, cat}

-- a category's tokens, and their tree
abbrev pub Makes : Category → List Record → Forest → Type 0
Makes category tokens tree = Derives grammar (one (cat category)) tokens tree

-- the tokens of a row that stands alone, and the forest of its trees
abbrev pub MakesRow : Items → List Record → Forest → Type 0
MakesRow is tokens forest = Derives grammar (rest_of is none []) tokens forest

-- Items, behind attributes of what they stand in: so a macro may expand. In a file a shebang and frontmatter may stand
-- before them.
abbrev pub items_row : Items
items_row = row (inner_attrs ⊳ many (c Item))

abbrev pub file_row : Items
file_row = row (opt (t SHEBANG) ⊳ opt (t FRONTMATTER) ⊳ inner_attrs ⊳ many (c Item))

-- What a macro in the place of statements expands to. A semicolon stands alone only where each block before it has one
-- too.
abbrev pub stmts_row : Items
stmts_row =
    row
    (either (opt (until (either (c Stmt) (c BlockStmt)) (either (c Stmt) (c MacroTail))))
    (until (either (c Stmt) (c EmptyStmt)) (either (c Stmt) (either (c EmptyStmt) (c MacroTail)))))

-- the end of the input
abbrev pub at_end : List (List Place)
at_end = (of_kinds (EOF ∷ []) ∷ []) ∷ []
