use Rattle.rast_common.proofs.Spelling.{in_order-known, spelled-known}
use Rattle.rast_common.proofs.indented.IndentedText.write_fmt.Goals as goal

pub invariant_of-self : goal.invariant_of-self
invariant_of-self g c = in_order-known _ _ _ _ _ c.requires c.in-Ok.ensures.bytes c.self.invariant

pub returns : goal.returns
returns g c = rw (← c.self.view_is) (spelled-known _ _ _ _ _ c.in-Ok.ensures.bytes c.self.invariant)
