use Rattle.std.proofs.Common.{refl, sym, ◌∙◌}
use Rattle.rap_base.specs.TokenKind.{MUT_KW, LIFETIME_IDENT}
use Rattle.rap_events.specs.State.{state}
use Rattle.rap_grammar_frame.proofs.Lookahead.{reach, past_lifetime, past_taken, past_none, past_ate, self_of_ref}
use Rattle.rap_grammar_params.proofs.params.self_ref.Goals as goal

pub self_as_name-requires : goal.self_as_name-requires
self_as_name-requires c =
    let rs = (state c.args.p.now).rest in
    let l = past_taken rs 1 LIFETIME_IDENT c.in_ok-bump.ensures.state.rest (sym c.at.ensures ∙ c.if-at.true)
    (past_lifetime c.in_ok-lifetime.ensures.script) in
    self_of_ref rs c.requires.here (past_ate rs (reach LIFETIME_IDENT 1 rs) MUT_KW refl l c.in_ok-eat.ensures.state)

pub self_as_name-requires-2 : goal.self_as_name-requires-2
self_as_name-requires-2 c =
    let rs = (state c.args.p.now).rest in
    let l = past_none rs 1 LIFETIME_IDENT c.in_ok-bump.ensures.state.rest (sym c.at.ensures ∙ c.if-at.false) refl in
    self_of_ref rs c.requires.here (past_ate rs (reach LIFETIME_IDENT 1 rs) MUT_KW refl l c.in_ok-eat-2.ensures.state)
