use Rattle.std.proofs.Common.{sym, ◌∙◌}
use Rattle.rap_events.specs.State.{state}
use Rattle.rap_grammar_scripts.specs.Blocks.{value_before_else}
use Rattle.rap_grammar_scripts.proofs.Ends.{gives}
use Rattle.rap_grammar_frame.proofs.Steps.{by_report, ended_so, ended_else}
use Rattle.rap_grammar_expressions_blocks.proofs.blocks.value_before_else.Goals as goal

pub returns-in_default-clause-script : goal.returns-in_default-clause-script
unfolding value_before_else
returns-in_default-clause-script c depth = rw c.in_default.is gives

pub returns-then-eq-clause-script : goal.returns-then-eq-clause-script
unfolding value_before_else
returns-then-eq-clause-script c depth = rw c.in-Some.is (ended_so (state c.args.p.now) c.last_token.ensures (sym c.eq.ensures ∙ c.if-eq.true)
    (by_report c.in_ok-error.ensures.state gives))

pub returns-clause-script : goal.returns-clause-script
unfolding value_before_else
returns-clause-script c depth = rw c.in-Some.is (ended_else (state c.args.p.now) c.last_token.ensures (sym c.eq.ensures ∙ c.if-eq.false) gives)
