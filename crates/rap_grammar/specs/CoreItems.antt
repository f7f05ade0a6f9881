-- Items of the core grammar.
use Rattle.std.specs.Prelude.{List}
use Rattle.rap_events.specs.Forest.{Forest}
use Rattle.rap_events.specs.Record.{Record}
use Rattle.rap_grammar_table.specs.Category as table
use Rattle.rap_grammar_table.specs.Tops.{Makes}

-- These tokens are an item of the table with this tree.
abbrev pub IsItem : List Record → Forest → Type 0
IsItem tokens tree = Makes table.Item tokens tree
