use Rattle.std.proofs.Common.{arith, ap, sym, ◌∙◌, eqb-true, eq-eqb}
use Rattle.rap_lexed.proofs.Cuts.{count}
use Rattle.rap_lexed.proofs.lexed_str.LexedStr.is_empty.Goals as goal

pub returns : goal.returns
returns c =
    let n = count _ _ _ c.self.invariant.0 _ (ap (λ l. l.tokens) c.self.view_is) in
    (λ t. omega (arith, n, eqb-true _ _ (sym c.is_empty.ensures ∙ t)), λ e. c.is_empty.ensures ∙ eq-eqb _ _ (omega (arith, n, e)))
