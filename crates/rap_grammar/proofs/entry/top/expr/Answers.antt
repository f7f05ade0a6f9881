use Rattle.std.proofs.Common.{rules}
use Rattle.rap_events.specs.State.{state}
use Rattle.rap_grammar_scripts.specs.ThroughKnot.{expr}
use Rattle.rap_grammar.specs.Part.{Goes, option_of}
use Rattle.rap_grammar.proofs.Depth.{option_goes}
use Rattle.rap_grammar.proofs.Known.{expr_known}
use Rattle.rap_grammar.proofs.entry.top.expr.Goals as goal

pub close_top-requires-clause-known : goal.close_top-requires-clause-known
close_top-requires-clause-known c =
    let r =
    expr_known (state c.start.new.self) (state c.run_brief.new.p) c.in_ok-answer.answer c.in_ok-answer.ensures in
    search rules

pub returns-clause-script : goal.returns-clause-script
unfolding expr option_of
returns-clause-script c =
    let r : Goes expr (state c.start.new.self) (state c.run_brief.new.p) = option_goes c.in_ok-answer.ensures.1 in
    search rules
