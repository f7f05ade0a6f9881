use Rattle.std.proofs.Common.{string_bytes, arith}
use Rattle.rast_document.proofs.UnitLemmas.{units_rise}
use Rattle.rast_document.proofs.document.Document.units_between.Goals as goal

pub overflow_sub-result : goal.overflow_sub-result
overflow_sub-result c =
    let d = c.args.self.now in
    omega (
      arith,
      c.units_to.ensures,
      c.units_to-else-to-from-le-NEAR.ensures,
      units_rise d.encoding (string_bytes d.text) c.args.from c.args.to c.requires.rising,
    )

pub returns-else-to-from-le-NEAR : goal.returns-else-to-from-le-NEAR
returns-else-to-from-le-NEAR c =
    let d = c.args.self.now in
    omega (
      arith,
      c.units_to.ensures,
      c.units_to-else-to-from-le-NEAR.ensures,
      units_rise d.encoding (string_bytes d.text) c.args.from c.args.to c.requires.rising,
    )
