use Rattle.std.proofs.Common.{◌≡◌, ◌+◌, ◌-◌, ◌<◌, ◌≤◌, length}
use Rattle.rast_document.specs.Lines.{starts_to}
use Rattle.rast_document.proofs.lines.start_of_line.Given as goal

abbrev pub invariant-whole : goal.invariant-whole
invariant-whole l = record {
  within : l.at ≤ length l.text;
  some : 0 < l.left;
  ends : length (starts_to l.text l.at) + l.left ≡ l.line + 1;
}

abbrev pub decreases-whole : goal.decreases-whole
decreases-whole l = length l.text - l.at

abbrev pub invariant-loop-index : goal.invariant-loop-index
invariant-loop-index l = record {
  some : 0 < l.left;
  ends : length (starts_to l.text l.index) + l.left ≡ l.line + 1;
}
