use Rattle.std.proofs.Common.{◌≡◌, ◌≢◌, ◌+◌, ◌-◌, ◌*◌, ◌<◌, ◌≤◌, ◌++◌, All, IsTrue, length, take, drop, get_or}
use Rattle.rap_base.specs.TokenKind.{EOF, FLOAT_NUMBER}
use Rattle.rap_events.specs.Input.{records, Holds, KeepsRoom}
use Rattle.rap_events.specs.KindRecords.{touches, kind_records}
use Rattle.rap_events.proofs.input.columns.Columns.put_eights.Given as goal

abbrev pub invariant-eights : goal.invariant-eights
invariant-eights l = record {
  within : l.taken < length l.kinds;
  touching : l.touching ≡ touches (get_or l.kinds l.taken EOF);
  keeps : KeepsRoom l.fn.self l.self;
  holds : Holds l.self l.place;
  records : records l.self l.place ≡ records l.fn.self l.start ++ kind_records (take (l.taken + 1) l.kinds) l.fn.self.edition;
  floats : All (λ kind. kind ≢ FLOAT_NUMBER) (take l.taken l.kinds);
  kinds : IsTrue l.more → l.taken + 8 < length l.kinds;
  room : IsTrue l.more → l.place + 8 ≤ 64 * length l.self.joints.items;
  next_floats : IsTrue l.more → All (λ kind. kind ≢ FLOAT_NUMBER) (take 8 (drop l.taken l.kinds));
}

abbrev pub decreases-eights : goal.decreases-eights
decreases-eights l = length l.kinds - l.taken
