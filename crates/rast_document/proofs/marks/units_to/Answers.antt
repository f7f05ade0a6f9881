use Rattle.std.proofs.Common.{◌/◌, take, arith}
use Rattle.std.proofs.lemmas.List.{length-take-le}
use Rattle.rast_document.proofs.UnitLemmas.{units_le}
use Rattle.rast_document.proofs.marks.units_to.Goals as goal

pub overflow_add-result : goal.overflow_add-result
overflow_add-result c =
    let s = c.args.text.now in
    omega (
      arith,
      c.requires.marks.each (c.args.offset / 256) (omega arith),
      c.units_between.ensures,
      units_le c.args.encoding (take c.args.offset s),
      length-take-le c.args.offset s c.requires.offset,
      c.requires.room,
    )
