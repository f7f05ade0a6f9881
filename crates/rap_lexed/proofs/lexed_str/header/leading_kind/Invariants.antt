use Rattle.std.proofs.Common.{ℕ, ◌-◌, Option, length, drop, chars, IsCharBoundary}
use Rattle.rap_lexed.specs.Header.{Leads}
use Rattle.rap_lexed.proofs.lexed_str.header.leading_kind.Given as goal

abbrev pub invariant-tokens : goal.invariant-tokens
invariant-tokens l = record {
  border : IsCharBoundary l.text l.offset;
  same : (kind : Option ℕ) → Leads l.edition (chars (drop l.offset l.text)) kind → Leads l.edition (chars l.text) kind;
}

abbrev pub decreases-tokens : goal.decreases-tokens
decreases-tokens l = length l.text - l.offset
