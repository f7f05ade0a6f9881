use Rattle.std.proofs.Common.{◌-◌, ◌<◌, ◌≤◌, length, get_or}
use Rattle.rast_document.proofs.lines.line_of.Given as goal

abbrev pub invariant-halves : goal.invariant-halves
invariant-halves l = record {
  some : l.low < l.high;
  bound : l.high ≤ length l.starts;
  begins : get_or l.starts l.low 0 ≤ l.offset;
  next : l.high < length l.starts → l.offset < get_or l.starts l.high 0;
}

abbrev pub decreases-halves : goal.decreases-halves
decreases-halves l = l.high - l.low
