use Rattle.std.proofs.Common.{◌+◌, ◌-◌, ◌<◌, ◌≤◌, take, string_bytes}
use Rattle.rast_document.specs.Units.{units}
use Rattle.rast_document.proofs.document.Document.reached_far.Given as goal

abbrev pub invariant-halves : goal.invariant-halves
invariant-halves l = record {
  from : l.start ≤ l.low;
  rising : l.low ≤ l.high;
  to : l.high ≤ l.end;
  few : units l.self.encoding (take l.low (string_bytes l.self.text)) ≤ units l.self.encoding (take l.start (string_bytes l.self.text)) + l.count;
  next : l.high < l.end → units l.self.encoding (take l.start (string_bytes l.self.text)) + l.count < units l.self.encoding (take (l.high + 1) (string_bytes l.self.text));
}

abbrev pub decreases-halves : goal.decreases-halves
decreases-halves l = l.high - l.low
