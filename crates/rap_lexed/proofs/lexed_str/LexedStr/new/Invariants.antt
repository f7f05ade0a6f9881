use Rattle.std.proofs.Common.{List, length, ◌-◌, All}
use Rattle.rap_base.specs.TokenTests.{IsTokenKind}
use Rattle.rap_lexed.specs.Contextual.{AreNoted}
use Rattle.rap_lexed.specs.Header.{IsHeader}
use Rattle.rap_lexed.specs.LexedStr.{Token}
use Rattle.rap_lexed.proofs.Cuts.{piece}
use Rattle.rap_lexed.proofs.Upto.{Upto}
use Rattle.rap_lexed.proofs.lexed_str.LexedStr.new.Given as goal

abbrev pub invariant-tokens : goal.invariant-tokens
invariant-tokens l = record {
  header : List Token;
  is_header : IsHeader l.edition l.text header;
  upto : Upto l.edition l.text header l.kind.items l.start.items l.error.items l.since_open l.offset;
  kinds : All IsTokenKind l.kind.items;
  numbers : AreNoted (piece l.text l.kind.items l.start.items) 0 (length l.kind.items) l.contextual.items;
}

abbrev pub decreases-tokens : goal.decreases-tokens
decreases-tokens l = length l.text - l.offset
