use Rattle.std.proofs.Common.{◌≡◌, ◌≤◌, ◌+◌, ◌-◌, length, drop}
use Rattle.rap_lexer.specs.Class.{is_ascii_in}
use Rattle.rap_lexer.specs.Run.{run_of}
use Rattle.rap_lexer.proofs.lexer.run.byte_run.Given as goal

abbrev pub invariant-run : goal.invariant-run
invariant-run l = record {
  within : l.n ≤ length l.bytes;
  same : l.n + length (run_of (is_ascii_in l.class) (drop l.n l.bytes)) ≡ length (run_of (is_ascii_in l.class) l.bytes);
}

abbrev pub decreases-run : goal.decreases-run
decreases-run l = length l.bytes - l.n
