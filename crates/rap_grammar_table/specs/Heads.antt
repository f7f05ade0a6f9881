-- What stands in a file, and in the items that a macro expands to, before the items.
use Rattle.rap_base.specs.TokenKind.{SHEBANG, FRONTMATTER}
use Rattle.rap_grammar_table.specs.SharedRows.{inner_attrs}
use Rattle.rap_grammar_table.specs.Notation.{◌⊳◌, t, opt, row}
use Rattle.rap_grammar_table.specs.Table.{Items}

abbrev pub file_head : Items
file_head = row (opt (t SHEBANG) ⊳ opt (t FRONTMATTER) ⊳ inner_attrs)

abbrev pub items_head : Items
items_head = row inner_attrs
