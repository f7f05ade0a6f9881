use Rattle.std.proofs.Common.{rules}
use Rattle.rast_common.proofs.Spelling.{in_order-push, spelled-push}
use Rattle.rast_common.proofs.indented.IndentedText.indent.Goals as goal

pub invariant_of-self-2 : goal.invariant_of-self-2
invariant_of-self-2 c = rw c.in_ok-push.ensures.items (in_order-push _ _ _ _ (search rules) c.self.invariant)

pub returns-clause-ok : goal.returns-clause-ok
returns-clause-ok c = rw (c.in_ok-push.ensures.items, ← c.self.view_is) (spelled-push _ _ _ _ (search rules) c.self.invariant)
