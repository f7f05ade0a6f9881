use Rattle.rast_common.proofs.Ending.{ends_shown, ends_stopped, stops_before, stops_writing}
use Rattle.rast_common.proofs.show.finish.Goals as goal

pub returns-in-Err : goal.returns-in-Err
returns-in-Err g c =
    ends_stopped _ _ _ _ _ _ _ _ _ _ (stops_before _ _ _ _ c.in-Err.is) _
    c.report_fault.ensures.status c.report_fault.ensures.reported c.report_fault.ensures.broken

pub returns-in_default : goal.returns-in_default
returns-in_default g c =
    ends_stopped _ _ _ _ _ _ _ _ _ _ (stops_writing _ _ _ _ _ c.in-Ok.is) _
    c.report_fault-in_default.ensures.status c.report_fault-in_default.ensures.reported c.report_fault-in_default.ensures.broken

pub returns : goal.returns
returns g c =
    ends_shown _ _ _ _ _ _ _ _ _ _ c.in-Ok.is c.status.ensures.own c.status.ensures.no_fault c.in-Ok-write_whole.ensures
