use Rattle.std.proofs.Common.{ap, ◌∙◌}
use Rattle.rap_grammar_rows.proofs.Sets.{turn_is}
use Rattle.rap_grammar_rows.proofs.check.turn_numbers.Goals as goal

pub returns : goal.returns
returns c =
    let e = turn_is c.turns.result.now c.args.number c.turns.ensures in
    (c.from.ensures ∙ ap (λ t. t.0) e, c.from-2.ensures ∙ ap (λ t. t.1) e)
