use Rattle.std.proofs.Common.{arith, ap}
use Rattle.rap_lexed.proofs.Cuts.{count, sound}
use Rattle.rap_lexed.proofs.lexed_str.LexedStr.len.Goals as goal

pub returns-clause-count : goal.returns-clause-count
returns-clause-count c = omega (arith, count _ _ _ c.self.invariant.0 _ (ap (λ l. l.tokens) c.self.view_is))

pub returns-clause-tokens : goal.returns-clause-tokens
returns-clause-tokens c = sound _ _ _ c.self.invariant.0 _ (ap (λ l. l.tokens) c.self.view_is)
