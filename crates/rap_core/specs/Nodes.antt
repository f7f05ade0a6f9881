-- Nodes of a tree.
use Rattle.std.specs.Prelude.{◌≡◌, ◌+◌}
use Rattle.rap_events.specs.Forest.{Forest, used}
use Rattle.rap_grammar_ends.specs.StandsIn.{NodeAt}
use Rattle.rap_grammar_rows.specs.declared.search.outside.Outside.{Outside}

-- A node of a tree: it has this kind, and so many tokens stand before it and before its end.
pub record IsNode (tree : Forest) (n : Outside) : Type 0 where
  pub children : Forest
  pub stands : NodeAt tree n.start n.kind children
  pub end : n.end ≡ n.start + used children
