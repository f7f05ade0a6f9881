use Rattle.std.proofs.Common.{◌≡◌, ◌++◌, ◌-◌, ◌≤◌, drop, length}
use Rattle.rap_lexed.specs.Contextual.{AreNoted}
use Rattle.rap_lexed.specs.Input.{records}
use Rattle.rap_lexed.specs.LexedStr.{token_at}
use Rattle.rap_lexed.proofs.lexed_str.LexedStr.to_input.Given as goal

abbrev pub invariant-tokens : goal.invariant-tokens
invariant-tokens l = record {
  done : l.input ++ records (drop l.i l.self.tokens) l.edition ≡ records l.self.tokens l.edition;
  within : l.i ≤ length l.self.tokens;
  rest : AreNoted (token_at l.self.tokens) l.i (length l.self.tokens) l.numbers;
}

abbrev pub decreases-tokens : goal.decreases-tokens
decreases-tokens l = length l.self.tokens - l.i
