use Rattle.std.proofs.Common.{arith}
use Rattle.rast_document.proofs.BlockLemmas.{units_chunk}
use Rattle.rast_document.proofs.marks.reached_from.Goals as goal

pub whole-preserved : goal.whole-preserved
whole-preserved c =
    let is = c.whole.invariant in
    record {
      from = omega (arith, is.from);
      to = omega arith;
      few = omega (arith, is.few);
      units = omega (arith, is.units, c.units_of_block-more.ensures, units_chunk c.args.encoding c.args.text.now c.whole.at);
    }
