use Rattle.std.proofs.Common.{ap, subst, length}
use Rattle.rap_lexed.specs.Contextual.{AreNoted}
use Rattle.rap_lexed.specs.LexedStr.{token_at}
use Rattle.rap_lexed.proofs.Cuts.{count}
use Rattle.rap_lexed.proofs.lexed_str.LexedStr.contextual_numbers.Goals as goal

pub returns : goal.returns
returns c =
    let seen = ap (λ l. l.tokens) c.self.view_is in
    let numbers = subst (λ l. AreNoted (token_at l) 0 (length c.self.inside.kind.items) c.self.inside.contextual.items) seen c.self.invariant.3 in
    rw (count _ _ _ c.self.invariant.0 _ seen, c.as_slice.ensures.value) numbers
