use Rattle.std.proofs.Common.{Result, Ok, Err, OnErr}
use Rattle.rast_common.proofs.fault.report_fault.Goals as goal

on_err : {T E P : Type 0} (r : Result T E) → P → OnErr r P
on_err (Ok x) p = tt
on_err (Err e) p = p

pub returns-clause-reported : goal.returns-clause-reported
returns-clause-reported g c = rw (c.as_slice.ensures, c.line_of-line.ensures) at c.in_ok-write_out.ensures.written

pub returns-in_err-write_out-clause-broken : goal.returns-in_err-write_out-clause-broken
returns-in_err-write_out-clause-broken g c =
    on_err c.from_residual.result (rw (c.as_slice.ensures, c.line_of-line.ensures) at c.in_err-write_out.ensures.broken)
