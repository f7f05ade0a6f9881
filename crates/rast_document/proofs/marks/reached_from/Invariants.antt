use Rattle.std.proofs.Common.{◌≡◌, ◌+◌, ◌-◌, ◌≤◌, take}
use Rattle.rast_document.specs.Units.{units}
use Rattle.rast_document.proofs.marks.reached_from.Given as goal

abbrev pub invariant-whole : goal.invariant-whole
invariant-whole l = record {
  from : l.start ≤ l.at;
  to : l.at ≤ l.end;
  few : l.units ≤ l.count;
  units : units l.encoding (take l.start l.text) + l.units ≡ units l.encoding (take l.at l.text);
}

abbrev pub decreases-whole : goal.decreases-whole
decreases-whole l = l.end - l.at

abbrev pub invariant-loop-index : goal.invariant-loop-index
invariant-loop-index l = record {
  from : l.start ≤ l.index;
  to : l.index ≤ l.end;
  few : l.units ≤ l.count;
  units : units l.encoding (take l.start l.text) + l.units ≡ units l.encoding (take l.index l.text);
}
