use Rattle.std.proofs.Common.{◌≡◌, ℕ, Result, Ok, Err, IfOk, arith}
use Rattle.rast_replay.proofs.replay.run.Goals as goal

-- the status of a fault is not that of a whole run
at_fault : {E : Type 0} (P : Type 0) (r : Result ℕ E) → IfOk r (λ status. status ≡ 2) → IfOk r (λ status. status ≡ 0 → P)
at_fault P (Ok status) two = λ none. absurd (omega (arith, two, none))
at_fault P (Err e) two = tt

pub returns-in_default-clause-same : goal.returns-in_default-clause-same
returns-in_default-clause-same g c = at_fault _ c.report.result c.report.ensures.status

pub returns-in_default-write_page-clause-same : goal.returns-in_default-write_page-clause-same
returns-in_default-write_page-clause-same g c = at_fault _ c.report-in_default-write_page.result c.report-in_default-write_page.ensures.status
