use Rattle.std.proofs.Common.{◌∙◌, sym}
use Rattle.rap_events.specs.State.{state}
use Rattle.rap_events.proofs.Records.{kind_at-drop, no_end}
use Rattle.rap_events.proofs.parser.Parser.current.Goals as goal

pub returns-clause-kind : goal.returns-clause-kind
unfolding state
returns-clause-kind c = c.args.self.now.here ∙ kind_at-drop c.args.self.now.input.now c.args.self.now.pos

pub returns-clause-end : goal.returns-clause-end
unfolding state
returns-clause-end c = λ e.
    let p = c.args.self.now in
    no_end p.input.now p.pos p.tokens (sym (kind_at-drop p.input.now p.pos) ∙ sym p.here ∙ e)
