use Rattle.std.proofs.Common.{◌+◌, take, arith}
use Rattle.std.proofs.lemmas.List.{length-take-le}
use Rattle.rast_document.proofs.BlockLemmas.{units_chunk}
use Rattle.rast_document.proofs.UnitLemmas.{units_le}
use Rattle.rast_document.proofs.marks.units_between.Goals as goal

pub overflow_add-total : goal.overflow_add-total
overflow_add-total c =
    let s = c.args.text.now in
    let e = c.args.encoding in
    let at = c.whole.at in
    omega (
      arith,
      c.whole.invariant.total,
      c.units_of_block-total.ensures,
      units_chunk e s at,
      units_le e (take (at + 64) s),
      length-take-le (at + 64) s (omega (arith, c.requires.within)),
      c.requires.room,
    )

pub whole-preserved : goal.whole-preserved
whole-preserved c =
    record {
      from = omega (arith, c.whole.invariant.from);
      to = omega arith;
      total = omega (arith, c.whole.invariant.total, c.units_of_block-total.ensures, units_chunk c.args.encoding c.args.text.now c.whole.at);
    }

pub overflow_add-result : goal.overflow_add-result
overflow_add-result c =
    let s = c.args.text.now in
    omega (
      arith,
      c.whole.invariant.total,
      c.units_within.ensures,
      units_le c.args.encoding (take c.args.to s),
      length-take-le c.args.to s c.requires.within,
      c.requires.room,
    )
