use Rattle.std.proofs.Common.{arith}
use Rattle.rast_document.proofs.RowLemmas.{rows_last, rows_push}
use Rattle.rast_document.proofs.lines.rows_of.Goals as goal

pub loop-step-preserved : goal.loop-step-preserved
loop-step-preserved c =
    let is = c.loop-step.invariant in
    let found = c.line_reached-line.ensures in
    let starts = c.args.starts.now in
    let rows = c.loop-step.rows.items in
    let line = c.line_reached-line.result in
    record {
      some = found.bound;
      begins = omega (arith, found.begins);
      last = rw c.in_ok-push.ensures.items (rows_last starts rows c.loop-step.step line c.loop-step.line is.rows found.rising is.last);
      rows = rw c.in_ok-push.ensures.items (rows_push starts rows c.loop-step.step line is.rows found.bound
          (λ k h. omega (arith, is.last k h, found.rising)) found.begins found.next);
    }
