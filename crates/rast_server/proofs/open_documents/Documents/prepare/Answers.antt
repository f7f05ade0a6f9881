use Rattle.rast_server.proofs.KeptTrees.{trees_prepared}
use Rattle.rast_server.proofs.open_documents.Documents.prepare.Goals as goal

pub invariant_of-self : goal.invariant_of-self
invariant_of-self c =
    trees_prepared c.self.inside.opened c.args.uri.now c.self.inside.trees.kept.items c.prepare.new.self.kept.items c.prepare.ensures c.self.invariant
