use Rattle.std.proofs.Common.{ℕ, ◌*◌, ◌<◌, ◌≤◌, length, get_or}
use Rattle.rast_document.specs.Indexed.{AreRows}
use Rattle.rast_document.proofs.lines.rows_of.Given as goal

abbrev pub invariant-loop-step : goal.invariant-loop-step
invariant-loop-step l = record {
  some : l.line < length l.starts;
  begins : get_or l.starts l.line 0 ≤ l.step * 256;
  last : (k : ℕ) → k < l.step → get_or l.rows.items k 0 ≤ l.line;
  rows : AreRows l.starts l.rows.items l.step;
}
