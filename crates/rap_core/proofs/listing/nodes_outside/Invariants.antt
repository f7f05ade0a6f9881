use Rattle.std.specs.Prelude.{All}
use Rattle.rap_core.specs.Listed.{IsNodePlace}
use Rattle.rap_core.proofs.listing.nodes_outside.Given as goal

abbrev pub invariant-nodes : goal.invariant-nodes
invariant-nodes l = All (IsNodePlace l.fn.lexed.tokens l.fn.output) l.places.items
