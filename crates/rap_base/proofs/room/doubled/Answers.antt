use Rattle.std.proofs.Common.{inl, inr, refl, arith}
use Rattle.rap_base.specs.Room as room
use Rattle.rap_base.proofs.room.doubled.Goals as goal

pub doublings-init : goal.doublings-init
doublings-init c = record {
  some = omega arith;
  doubled = room.once;
  near = inl refl;
}

pub doublings-preserved : goal.doublings-preserved
doublings-preserved c = record {
  some = omega arith;
  doubled = room.again c.doublings.room c.doublings.invariant.doubled;
  near = inr (omega arith);
}
