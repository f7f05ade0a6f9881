use Rattle.std.proofs.Common.{ℕ, ◌+◌, ◌∷◌, ap, subst, ◌∙◌}
use Rattle.rap_events.specs.Reading.{with_ends}
use Rattle.rap_events.specs.Step.{step_value}
use Rattle.rap_core.specs.Walked.{IsAt}
use Rattle.rap_events.specs.declared.output.Step.{Step}
use Rattle.rap_core.proofs.Walks.{takes, reports}
use Rattle.rap_core.proofs.nodes.Walk.follow.Goals as goal

pub returns-in-Token : goal.returns-in-Token
returns-in-Token c = λ tree steps a.
    let v = c.args.self.now in
    takes tree (with_ends steps) c.in-Token.kind c.in-Token.n_input_tokens v c.take.new.self
    (c.take.ensures ∙ ap (λ (m : ℕ). record v { tokens = v.tokens + m }) c.from.ensures)
    (subst (λ (s : Step). IsAt tree (with_ends (step_value s ∷ steps)) v) c.in-Token.is a)

pub returns-in-Error : goal.returns-in-Error
returns-in-Error c = λ tree steps a.
    let v = c.args.self.now in
    reports tree (with_ends steps) c.in-Error.msg.now v
    (subst (λ (s : Step). IsAt tree (with_ends (step_value s ∷ steps)) v) c.in-Error.is a)
