use Rattle.std.proofs.Common.{◌≡◌, ℕ, ◌-◌, List, length, not}
use Rattle.std.specs.List.{count_by}
use Rattle.rap_base.specs.TokenTests.{is_trivia}
use Rattle.rap_lexed.specs.Header.{IsHeader}
use Rattle.rap_lexed.specs.LexedStr.{Token, Message}
use Rattle.rap_lexed.proofs.Upto.{Upto}
use Rattle.rap_lexed.proofs.lexed_str.count.significant_tokens.Given as goal

abbrev pub invariant-tokens : goal.invariant-tokens
invariant-tokens l = record {
  header : List Token;
  kinds : List ℕ;
  starts : List ℕ;
  errors : List Message;
  since : ℕ;
  is_header : IsHeader l.edition l.text header;
  upto : Upto l.edition l.text header kinds starts errors since l.offset;
  counted : l.count ≡ count_by (λ kind. not (is_trivia kind)) kinds;
}

abbrev pub decreases-tokens : goal.decreases-tokens
decreases-tokens l = length l.text - l.offset
