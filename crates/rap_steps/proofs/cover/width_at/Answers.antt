use Rattle.std.proofs.Common.{sym, ◌∙◌, arith}
use Rattle.rap_steps.proofs.Leaves.{token_within}
use Rattle.rap_steps.proofs.cover.width_at.Goals as goal

pub returns-then-token_matches-clause-within : goal.returns-then-token_matches-clause-within
returns-then-token_matches-clause-within c =
    let h = token_within c.in-Token.kind c.in-Token.n_input_tokens c.args.input.now c.args.place c.requires (sym c.token_matches.ensures ∙ c.if-token_matches.true) in
    omega (arith, c.from.ensures, h)
