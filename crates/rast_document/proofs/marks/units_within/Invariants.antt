use Rattle.std.proofs.Common.{◌≡◌, ◌+◌, ◌≤◌, take}
use Rattle.rast_document.specs.Units.{units}
use Rattle.rast_document.proofs.marks.units_within.Given as goal

abbrev pub invariant-loop-index : goal.invariant-loop-index
invariant-loop-index l = record {
  total : units l.encoding (take l.from l.text) + l.total ≡ units l.encoding (take l.index l.text);
  to : l.index ≤ l.to;
}
