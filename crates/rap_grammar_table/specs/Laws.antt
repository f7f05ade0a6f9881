-- Laws of what the table derives.
use Rattle.std.specs.Prelude.{◌≡◌, ℕ, List}
use Rattle.rap_events.specs.Forest.{Forest}
use Rattle.rap_events.specs.Record.{Record}
use Rattle.rap_grammar_table.specs.Category.{Category}
use Rattle.rap_grammar_table.specs.Table.{Items}
use Rattle.rap_grammar_table.specs.Tops.{Makes, MakesRow}

-- Any tokens have at most one tree in this category.
abbrev pub HasOneTree : Category → Type 0
HasOneTree category =
    (tokens : List Record) (tree other : Forest) → Makes category tokens tree → Makes category tokens other →
    tree ≡ other

-- Any tokens have at most one forest by this row, where it stands alone.
abbrev pub HasOneForest : Items → Type 0
HasOneForest row =
    (tokens : List Record) (forest other : Forest) → MakesRow row tokens forest → MakesRow row tokens other →
    forest ≡ other
