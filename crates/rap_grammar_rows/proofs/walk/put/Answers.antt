use Rattle.std.proofs.Common.{[], ◌∷◌}
use Rattle.std.proofs.lemmas.List.{reverse-append}
use Rattle.rap_grammar_rows.proofs.walk.put.Goals as goal

pub returns : goal.returns
returns c = rw c.in_ok-push.ensures.items (reverse-append c.args.frames.now.items (c.args.frame ∷ []))
