use Rattle.std.proofs.Common.{◌≡◌, ◌-◌, ◌≤◌, length}
use Rattle.rast_document.specs.Lines.{starts_to}
use Rattle.rast_document.proofs.lines.line_starts.Given as goal

abbrev pub invariant-whole : goal.invariant-whole
invariant-whole l = record {
  within : l.at ≤ length l.text;
  starts : l.starts.items ≡ starts_to l.text l.at;
}

abbrev pub decreases-whole : goal.decreases-whole
decreases-whole l = length l.text - l.at

abbrev pub invariant-loop-index : goal.invariant-loop-index
invariant-loop-index l = l.starts.items ≡ starts_to l.text l.index
