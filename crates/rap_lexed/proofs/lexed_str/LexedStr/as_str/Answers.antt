use Rattle.std.proofs.Common.{ap, sym, ◌∙◌}
use Rattle.rap_lexed.specs.LexedStr.{joined}
use Rattle.rap_lexed.proofs.Cuts.{joined-cut}
use Rattle.rap_lexed.proofs.lexed_str.LexedStr.as_str.Goals as goal

pub returns : goal.returns
returns c = sym (joined-cut _ _ _ c.self.invariant.0) ∙ ap (λ l. joined l.tokens) c.self.view_is
