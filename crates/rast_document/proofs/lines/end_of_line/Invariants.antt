use Rattle.std.proofs.Common.{◌≡◌, ℕ, ◌-◌, ◌<◌, ◌≤◌, false, length, get_or}
use Rattle.rast_document.specs.Lines.{is_line_break}
use Rattle.rast_document.proofs.lines.end_of_line.Given as goal

abbrev pub invariant-whole : goal.invariant-whole
invariant-whole l = record {
  from : l.start ≤ l.at;
  within : l.at ≤ length l.text;
  none : (i : ℕ) → l.start ≤ i → i < l.at → is_line_break (get_or l.text i 0) ≡ false;
}

abbrev pub decreases-whole : goal.decreases-whole
decreases-whole l = length l.text - l.at

abbrev pub invariant-loop-index : goal.invariant-loop-index
invariant-loop-index l = record {
  from : l.start ≤ l.index;
  none : (i : ℕ) → l.start ≤ i → i < l.index → is_line_break (get_or l.text i 0) ≡ false;
}
