use Rattle.std.proofs.Common.{◌∷◌, ◌++◌, ◌∙◌, List, [], ap, inl, sym}
use Rattle.rast_server.specs.Trees.{is_under}
use Rattle.rast_server.specs.declared.trees.Kept.{Kept}
use Rattle.rast_server.proofs.trees.Trees.prepare.Goals as goal

pub returns-in-Some : goal.returns-in-Some
returns-in-Some c = inl record {
  place = c.in-Some.place;
  tree = c.remove-kept.result;
  within = c.in-Some.ensures.some.0;
  stood = sym c.remove-kept.ensures.value;
  own = ap (λ (t : Kept). is_under c.args.uri.now t) c.remove-kept.ensures.value ∙ c.in-Some.ensures.some.1 c.remove-kept.result;
  moved = c.push_reserved.ensures.items ∙ ap (λ (ts : List Kept). ts ++ c.remove-kept.result ∷ []) c.remove-kept.ensures.items;
}
