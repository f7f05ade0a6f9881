use Rattle.std.proofs.Common.{◌≡◌, length, ap, arith}
use Rattle.rap_base.proofs.Bits.{bit-past}
use Rattle.rap_events.proofs.input.columns.Columns.with_capacity.Goals as goal

pub returns : goal.returns
returns c =
    let none : length c.in_ok-joints.joints.items ≡ 0 = ap length c.in_ok-joints.ensures.items in
    record {
      room = omega arith;
      codes = omega arith;
      editions = λ used. omega arith;
      clear = λ i past. bit-past c.in_ok-joints.joints.items i (omega arith);
    }
