use Rattle.std.proofs.Common.{◌≡◌, reverse}
use Rattle.rap_events.specs.Pending.{inners, pasts}
use Rattle.rap_events.proofs.event.walk.push_past.Given as goal

abbrev pub invariant-loop : goal.invariant-loop
invariant-loop l = record {
  inners : inners l.pending.items ≡ inners l.fn.pending.items;
  past : reverse l.pending.items ≡ pasts l.counter (reverse l.fn.pending.items);
}
