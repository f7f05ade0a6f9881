use Rattle.std.proofs.Common.{◌≡◌, ◌+◌, ◌-◌, ◌≤◌, length, map, drop}
use Rattle.std.specs.Simd.Lanes.{chunk, mask_l}
use Rattle.rast_document.specs.Lines.{is_line_break, starts_to}
use Rattle.rast_document.proofs.lines.ends_by_breaks.Given as goal

abbrev pub invariant-breaks : goal.invariant-breaks
invariant-breaks l = record {
  from : l.at ≤ l.place;
  to : l.place ≤ l.at + 64;
  left : l.bits ≡ mask_l (map is_line_break (drop (l.place - l.at) (chunk l.at 64 l.text)));
  few : l.ends ≤ l.place - l.at;
  ends : length (starts_to l.text l.place) ≡ length (starts_to l.text l.at) + l.ends;
}

abbrev pub decreases-breaks : goal.decreases-breaks
decreases-breaks l = l.at + 64 - l.place
