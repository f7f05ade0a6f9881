use Rattle.std.proofs.Common.{◌-◌, ◌<◌, ◌≤◌, length, get_or}
use Rattle.rast_document.proofs.lines.line_reached.Given as goal

abbrev pub invariant-lines : goal.invariant-lines
invariant-lines l = record {
  rising : l.from ≤ l.line;
  bound : l.line < length l.starts;
  begins : get_or l.starts l.line 0 ≤ l.offset;
}

abbrev pub decreases-lines : goal.decreases-lines
decreases-lines l = length l.starts - l.line
