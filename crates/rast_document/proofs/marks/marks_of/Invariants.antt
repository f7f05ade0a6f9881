use Rattle.std.proofs.Common.{◌≡◌, ◌*◌, take}
use Rattle.rast_document.specs.Indexed.{AreMarks}
use Rattle.rast_document.specs.Units.{units}
use Rattle.rast_document.proofs.marks.marks_of.Given as goal

abbrev pub invariant-loop-step : goal.invariant-loop-step
invariant-loop-step l = record {
  total : l.total ≡ units l.encoding (take (l.step * 256) l.text);
  marks : AreMarks l.encoding l.text (l.step * 256) l.marks.items;
}
