use Rattle.std.proofs.Common.{◌≡◌, ◌⊎◌, ◌*◌, ◌-◌, ◌<◌}
use Rattle.rap_base.specs.Room.{IsDoubled}
use Rattle.rap_base.proofs.room.doubled.Given as goal

abbrev pub invariant-doublings : goal.invariant-doublings
invariant-doublings l = record {
  some : 0 < l.room;
  doubled : IsDoubled l.first l.room;
  near : (l.room ≡ l.first) ⊎ (l.room < 2 * l.least);
}

abbrev pub decreases-doublings : goal.decreases-doublings
decreases-doublings l = l.least - l.room
