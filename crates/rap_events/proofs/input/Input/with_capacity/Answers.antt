use Rattle.std.proofs.Common.{arith}
use Rattle.rap_events.proofs.Columns.{length-records, no_records}
use Rattle.rap_events.proofs.input.Input.with_capacity.Goals as goal

pub invariant_of-result : goal.invariant_of-result
invariant_of-result c = (c.in_ok-columns.ensures, λ k d small. absurd (omega (arith, length-records c.in_ok-columns.columns 0)))

pub returns : goal.returns
returns c = no_records c.in_ok-columns.columns
