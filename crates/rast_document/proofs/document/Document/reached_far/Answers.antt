use Rattle.std.proofs.Common.{◌-◌, ◌/◌, string_bytes, arith}
use Rattle.rast_document.proofs.UnitLemmas.{units_rise}
use Rattle.rast_document.proofs.document.Document.reached_far.Goals as goal

pub overflow_sub-units_to : goal.overflow_sub-units_to
overflow_sub-units_to c =
    let d = c.args.self.now in
    let middle = c.halves.high - (c.halves.high - c.halves.low) / 2 in
    omega (
      arith,
      c.units_to-before.ensures,
      c.units_to.ensures,
      units_rise d.encoding (string_bytes d.text) c.args.start middle (omega arith),
    )
