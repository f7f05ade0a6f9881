use Rattle.std.proofs.Common.{◌≡◌, ◌+◌, ◌-◌, ◌≤◌, take}
use Rattle.rast_document.specs.Units.{units}
use Rattle.rast_document.proofs.marks.units_between.Given as goal

abbrev pub invariant-whole : goal.invariant-whole
invariant-whole l = record {
  from : l.from ≤ l.at;
  to : l.at ≤ l.to;
  total : units l.encoding (take l.from l.text) + l.total ≡ units l.encoding (take l.at l.text);
}

abbrev pub decreases-whole : goal.decreases-whole
decreases-whole l = l.to - l.at
