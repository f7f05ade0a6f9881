use Rattle.rap_lexed.specs.StrStep.{str_token}
use Rattle.rap_lexed.proofs.Handed.{hands-one}
use Rattle.rap_lexed.proofs.TriviaRuns.{slice-text}
use Rattle.rap_lexed.proofs.shortcuts.builder.Builder.do_token.Goals as goal

pub returns-clause-steps : goal.returns-clause-steps
returns-clause-steps g c =
    rw (← slice-text c.args.self.now.lexed.now.tokens c.args.self.now.pos c.args.n_input_tokens, ← c.range_text-text.ensures)
    (hands-one g.S.StrSink.takes g.S.StrSink.refuses (str_token c.args.kind c.range_text-text.result.now) c.args.sink.now c.step.new.self c.step.result c.step.ensures)
