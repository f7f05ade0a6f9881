use Rattle.std.proofs.Common.{◌≡◌, ◌≢◌, ◌+◌, ◌-◌, ◌≤◌, ◌++◌, All, take, get_or}
use Rattle.rap_base.specs.TokenKind.{EOF, FLOAT_NUMBER}
use Rattle.rap_events.specs.Input.{records, Holds, KeepsRoom}
use Rattle.rap_events.specs.KindRecords.{touches, kind_records}
use Rattle.rap_events.proofs.input.columns.Columns.put_few.Given as goal

abbrev pub invariant-tokens : goal.invariant-tokens
invariant-tokens l = record {
  few : l.taken ≤ l.few;
  near : l.place ≤ l.start + l.taken;
  touching : l.touching ≡ touches (get_or l.kinds l.taken EOF);
  keeps : KeepsRoom l.fn.self l.self;
  holds : Holds l.self l.place;
  records : records l.self l.place ≡ records l.fn.self l.start ++ kind_records (take (l.taken + 1) l.kinds) l.fn.self.edition;
  floats : All (λ kind. kind ≢ FLOAT_NUMBER) (take l.taken l.kinds);
}

abbrev pub decreases-tokens : goal.decreases-tokens
decreases-tokens l = l.few - l.taken
