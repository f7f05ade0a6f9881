use Rattle.std.proofs.Common.{length, drop}
use Rattle.rap_lexed.specs.ErrorSteps.{error_steps}
use Rattle.rap_lexed.specs.LexedStr.{AreInOrder}
use Rattle.rap_lexed.proofs.Handed.{Reached}
use Rattle.rap_lexed.proofs.lexed_str.LexedStr.report_errors.Given as goal

abbrev pub invariant-errors : goal.invariant-errors
invariant-errors g l = record {
  ordered : AreInOrder (length l.self.tokens) (drop l.error-index l.self.errors);
  so : Reached g.S.StrSink.takes (error_steps l.self.tokens l.self.errors) l.initial.sink (error_steps l.self.tokens (drop l.error-index l.self.errors)) l.sink;
}
