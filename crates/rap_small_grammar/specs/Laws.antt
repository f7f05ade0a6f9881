-- What is within the small grammar.
use Rattle.std.specs.Prelude.{List}
use Rattle.rap_events.specs.Record.{Record}
use Rattle.rap_events.specs.Forest.{Forest}
use Rattle.rap_small_grammar.specs.Derives.{Category, Derives}
use Rattle.rap_small_grammar.specs.WithoutBlocks.{Plain}

-- What is derived where no block is an expression is derived where blocks are, with the same tree.
abbrev pub HoldsPlain : Type 0
HoldsPlain =
    (category : Category) (tokens : List Record) (tree : Forest) → Plain category tokens tree →
    Derives category tokens tree
