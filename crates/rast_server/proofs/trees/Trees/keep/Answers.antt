use Rattle.std.proofs.Common.{◌∙◌, List, ap, refl}
use Rattle.rast_server.specs.Trees.{last, others}
use Rattle.rast_server.specs.declared.trees.Kept.{Kept}
use Rattle.rast_server.proofs.KeptTrees.{keeps}
use Rattle.rast_server.proofs.trees.Trees.keep.Goals as goal

pub returns-clause-kept : goal.returns-clause-kept
returns-clause-kept c = λ _.
    keeps _ c.args.uri.now c.args.elements.items c.args.self.now.kept.items c.leave_place.new.self.kept.items c.push_reserved.new.self.items c.push_reserved.ensures.items
    (c.leave_place.ensures.last ∙ ap (λ (ts : List Kept). last 3 ts)
    (c.forget.ensures.others ∙ ap (λ (ts : List Kept). others c.args.uri.now ts) c.reserve_exact.ensures.items)) c.in-Ok.ensures.ok refl
