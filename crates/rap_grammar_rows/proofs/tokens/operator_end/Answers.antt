use Rattle.std.proofs.Common.{◌≡◌, ◌+◌, ℕ, sym, ◌∙◌, ap}
use Rattle.rap_grammar_rows.proofs.Pieces.{operator_at}
use Rattle.rap_events.specs.State.{state}
use Rattle.rap_grammar_rows.proofs.tokens.operator_end.Goals as goal

pub returns : goal.returns
returns c =
    let m : c.args.at + c.from-3.result ≡ c.args.at + c.width_of-width.result =
    ap (λ (n : ℕ). c.args.at + n) c.from-3.ensures in
    operator_at c.from_u16-operator.result c.args.kind c.width_of-width.result c.args.at
    (c.args.at + c.from-3.result) c.args.input.now (state c.new.result).rest c.from_u16-operator.ensures
    c.width_of-width.ensures c.if-width-lt2.false m (ap (λ s. s.rest) c.new.ensures.state)
    (sym c.nth_at.ensures ∙ c.if-not-nth_at.false)
