use Rattle.std.proofs.Common.{◌≡◌, ◌≤◌, ◌+◌, ◌-◌, length, drop}
use Rattle.rap_lexer.specs.Class.{is_in}
use Rattle.rap_lexer.specs.Run.{run_of}
use Rattle.rap_lexer.specs.declared.lexer.run.Class.TheVariants.{InString}
use Rattle.rap_lexer.proofs.lexer.lanes.string_run.Given as goal

abbrev pub invariant-lanes : goal.invariant-lanes
invariant-lanes l = record {
  within : l.n ≤ length l.bytes;
  same : l.n + length (run_of (is_in InString) (drop l.n l.bytes)) ≡ length (run_of (is_in InString) l.bytes);
}

abbrev pub decreases-lanes : goal.decreases-lanes
decreases-lanes l = length l.bytes - l.n
