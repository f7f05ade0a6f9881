use Rattle.std.proofs.Common.{arith}
use Rattle.rast_common.proofs.Fronts.{front_more, front_same}
use Rattle.rast_common.proofs.fault.write_out.Goals as goal
use Rattle.rast_common.proofs.fault.write_out.Goals.{in-Ok+else-written-bytes, in-Err+else-ne}

pub writes-preserved : goal.writes-preserved
writes-preserved g c =
    elim c.match-write.branch [
      | in-Ok+else-written-bytes w ↦ (
        omega (arith, w.written-is, w.if-written-bytes.false, w.in-Ok.ensures.bound, c.writes.invariant.0),
        front_more _ _ _ c.args.bytes.now c.writes.written w.in-Ok.count c.match-write.written w.written-is c.writes.invariant.1 w.in-Ok.ensures.bytes,
      )
      | in-Err+else-ne w ↦ (
        omega (arith, w.written-is, c.writes.invariant.0),
        front_same _ _ _ c.args.bytes.now c.writes.written c.match-write.written w.written-is c.writes.invariant.1 w.in-Err.ensures.bytes,
      )
    ]
