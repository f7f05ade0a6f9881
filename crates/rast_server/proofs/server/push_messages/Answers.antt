use Rattle.std.proofs.Common.{string_bytes}
use Rattle.rast_answers.proofs.Kept.{elements_of_lists}
use Rattle.rast_server.proofs.KeptTrees.{kept_of}
use Rattle.rast_server.proofs.server.push_messages.Goals as goal

pub returns-in_ok-push_listed-in-Ok-clause-tree : goal.returns-in_ok-push_listed-in-Ok-clause-tree
returns-in_ok-push_listed-in-Ok-clause-tree c =
    kept_of (string_bytes c.args.document.now.text) c.in-Ok.lists.elements.items c.into_elements.result (elements_of_lists _ _ _ _ c.in-Ok.ensures) c.into_elements.ensures
