use Rattle.std.proofs.Common.{take, get_or, arith}
use Rattle.std.proofs.lemmas.List.{length-take-le}
use Rattle.rast_document.proofs.BlockLemmas.{units_of_part}
use Rattle.rast_document.proofs.UnitLemmas.{units_le, units_of_byte_le}
use Rattle.rast_document.proofs.marks.units_within.Goals as goal

pub returns-then-text-from-ge-BLOCK : goal.returns-then-text-from-ge-BLOCK
returns-then-text-from-ge-BLOCK c =
    omega (arith, c.units_of_first.ensures, units_of_part c.args.encoding c.args.text.now c.args.from c.args.to c.requires.rising (omega (arith, c.requires.few)))

pub overflow_add-total : goal.overflow_add-total
overflow_add-total c =
    let i = c.loop-index.index in
    let s = c.args.text.now in
    omega (
      arith,
      units_le c.args.encoding (take i s),
      length-take-le i s (omega (arith, c.requires.within)),
      units_of_byte_le c.args.encoding (get_or s i 0),
      c.units_of_byte-total.ensures,
      c.loop-index.invariant.total,
      c.requires.room,
    )
