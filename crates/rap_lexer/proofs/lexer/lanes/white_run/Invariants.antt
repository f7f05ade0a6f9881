use Rattle.std.proofs.Common.{◌≡◌, ◌≤◌, ◌+◌, ◌-◌, length, drop}
use Rattle.rap_lexer.specs.Class.{is_ascii_in}
use Rattle.rap_lexer.specs.Run.{run_of}
use Rattle.rap_lexer.specs.declared.lexer.run.Class.TheVariants.{White}
use Rattle.rap_lexer.proofs.lexer.lanes.white_run.Given as goal

abbrev pub invariant-lanes : goal.invariant-lanes
invariant-lanes l = record {
  within : l.n ≤ length l.bytes;
  same : l.n + length (run_of (is_ascii_in White) (drop l.n l.bytes)) ≡ length (run_of (is_ascii_in White) l.bytes);
}

abbrev pub decreases-lanes : goal.decreases-lanes
decreases-lanes l = length l.bytes - l.n
