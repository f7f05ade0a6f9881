use Rattle.std.proofs.Common.{None}
use Rattle.rast_server.proofs.KeptTrees.{put_from, put_in, trees_put}
use Rattle.rast_server.proofs.open_documents.Documents.remove.Goals as goal

pub invariant_of-self : goal.invariant_of-self
invariant_of-self c =
    trees_put c.self.inside.opened c.remove-opened.new.self c.args.uri.now None c.self.inside.trees.kept.items c.forget.new.self.kept.items
    (put_in c.args.uri.now None c.self.inside.opened c.remove-opened.new.self c.remove-opened.ensures.updates) c.forget.ensures.others c.self.invariant

pub returns-clause-puts : goal.returns-clause-puts
returns-clause-puts c =
    put_from c.args.uri.now None c.args.self.now c.self.inside.opened c.remove-opened.new.self c.self.view_is
    (put_in c.args.uri.now None c.self.inside.opened c.remove-opened.new.self c.remove-opened.ensures.updates)
