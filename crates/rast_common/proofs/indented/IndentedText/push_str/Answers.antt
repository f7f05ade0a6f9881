use Rattle.rast_common.proofs.Spelling.{in_order-append, spelled-append}
use Rattle.rast_common.proofs.indented.IndentedText.push_str.Goals as goal

pub invariant_of-self-2 : goal.invariant_of-self-2
invariant_of-self-2 c = in_order-append _ _ _ _ _ c.in_ok-push_str.ensures.bytes c.self.invariant

pub returns-clause-ok : goal.returns-clause-ok
returns-clause-ok c = rw (← c.self.view_is) (spelled-append _ _ _ _ _ c.in_ok-push_str.ensures.bytes c.self.invariant)
