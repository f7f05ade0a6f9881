use Rattle.rast_server.specs.TreeText.{AreDepths}
use Rattle.rast_server.proofs.tree.depths_of.Given as goal

abbrev pub invariant-loop-index : goal.invariant-loop-index
invariant-loop-index l = AreDepths l.elements l.index l.depths.items
