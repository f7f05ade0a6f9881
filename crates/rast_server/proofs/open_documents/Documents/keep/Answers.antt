use Rattle.std.proofs.Common.{◌∙◌, ap, sym}
use Rattle.std.specs.BTreeMap.{get_by_text}
use Rattle.rast_server.specs.Trees.{Map}
use Rattle.rast_server.proofs.KeptTrees.{trees_kept}
use Rattle.rast_server.proofs.open_documents.Documents.keep.Goals as goal

pub invariant_of-self : goal.invariant_of-self
invariant_of-self c =
    trees_kept c.keep.result c.self.inside.opened c.args.uri.now c.in-Some.elements.items c.self.inside.trees.kept.items c.keep.new.self.kept.items
    (λ opened e. c.requires opened (ap (λ (m : Map). get_by_text m c.args.uri.now) (sym c.self.view_is) ∙ e) c.in-Some.elements c.in-Some.is)
    c.keep.ensures.kept c.keep.ensures.refused c.self.invariant
