use Rattle.std.proofs.Common.{ap, sym, ◌∙◌}
use Rattle.rap_lexed.proofs.Cuts.{count, kinds}
use Rattle.rap_lexed.proofs.lexed_str.LexedStr.kinds.Goals as goal

pub returns-clause-kinds : goal.returns-clause-kinds
returns-clause-kinds c = c.as_slice.ensures.value ∙ kinds _ _ _ c.self.invariant.0 _ (ap (λ l. l.tokens) c.self.view_is)

pub returns-clause-count : goal.returns-clause-count
returns-clause-count c = rw c.as_slice.ensures.value (sym (count _ _ _ c.self.invariant.0 _ (ap (λ l. l.tokens) c.self.view_is)))

pub returns-clause-tokens : goal.returns-clause-tokens
returns-clause-tokens c = rw c.as_slice.ensures.value c.self.invariant.1
