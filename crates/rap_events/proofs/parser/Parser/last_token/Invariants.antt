use Rattle.std.proofs.Common.{◌≡◌, ◌≤◌, length, take}
use Rattle.rap_base.specs.TokenKind.{EOF}
use Rattle.rap_events.proofs.LastTokens.{kind_of_last}
use Rattle.rap_events.proofs.parser.Parser.last_token.Given as goal

abbrev pub invariant-loop-i : goal.invariant-loop-i
invariant-loop-i l = record {
  within : l.i ≤ length l.fn.self.events.items;
  so_far : kind_of_last EOF (take l.i l.fn.self.events.items) ≡ kind_of_last EOF l.fn.self.events.items;
}

abbrev pub decreases-loop-i : goal.decreases-loop-i
decreases-loop-i l = l.i
