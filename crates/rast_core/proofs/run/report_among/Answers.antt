use Rattle.std.proofs.Common.{inr}
use Rattle.std.proofs.lemmas.Result.{on_ok_weaker}
use Rattle.rast_core.proofs.run.report_among.Goals as goal

pub returns-in-Err-clause-reported : goal.returns-in-Err-clause-reported
returns-in-Err-clause-reported g c = on_ok_weaker c.report-in-Err.result (λ reported. inr reported) c.report-in-Err.ensures.reported
