use Rattle.std.proofs.Common.{[]}
use Rattle.std.proofs.lemmas.Result.{err_from_is_err_and}
use Rattle.rap_lexed.specs.StrStep.{str_exit}
use Rattle.rap_lexed.proofs.Handed.{stops-here}
use Rattle.rap_lexed.proofs.shortcuts.builder.Builder.close.Goals as goal

pub returns-in_err-step-clause-steps : goal.returns-in_err-step-clause-steps
returns-in_err-step-clause-steps g c =
    let p = err_from_is_err_and c.from_residual.result c.from_residual.ensures.1 in
    rw (p.1, p.2, c.in-PendingExit.is) (stops-here g.S.StrSink.takes g.S.StrSink.refuses str_exit [] c.args.sink.now c.step.new.self c.in_err-step.field-0.0 c.in_err-step.ensures)
