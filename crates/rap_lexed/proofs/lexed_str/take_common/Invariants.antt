use Rattle.std.proofs.Common.{length, ◌-◌, ◌≤◌, IsCharBoundary}
use Rattle.rap_lexed.specs.CommonTokens.{TakesCommon}
use Rattle.rap_lexed.proofs.lexed_str.take_common.Given as goal

abbrev pub invariant-common : goal.invariant-common
invariant-common l = record {
  border : IsCharBoundary l.text l.end;
  taken : TakesCommon l.edition l.text l.initial.kind.items l.initial.start.items l.initial.contextual.items l.from l.kind.items l.start.items l.contextual.items l.end;
  few : length l.kind.items ≤ l.end;
  further : l.from ≤ l.end;
  grows : length l.initial.kind.items ≤ length l.kind.items;
}

abbrev pub decreases-common : goal.decreases-common
decreases-common l = length l.text - l.end
