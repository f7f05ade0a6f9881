use Rattle.rap_lexed.specs.StrStep.{str_error}
use Rattle.rap_lexed.proofs.Handed.{hands-one}
use Rattle.rap_lexed.proofs.shortcuts.builder.Builder.step.Goals as goal

pub returns-in-Error-clause-steps : goal.returns-in-Error-clause-steps
returns-in-Error-clause-steps g c =
    rw (c.in-Error.is, ← c.text_start-pos.ensures)
    (hands-one g.S.StrSink.takes g.S.StrSink.refuses (str_error c.in-Error.msg.now c.text_start-pos.result) _ _ c.step.result c.step.ensures)
