use Rattle.rast_common.proofs.program.Program.report_unread.Goals as goal

pub returns-clause-reported : goal.returns-clause-reported
returns-clause-reported g c = rw c.cause.ensures at c.report_word.ensures.reported

pub returns-clause-broken : goal.returns-clause-broken
returns-clause-broken g c = rw c.cause.ensures at c.report_word.ensures.broken
