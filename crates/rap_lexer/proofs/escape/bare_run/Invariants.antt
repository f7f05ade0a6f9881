use Rattle.std.proofs.Common.{◌≡◌, ◌≤◌, ◌+◌, ◌-◌, length, drop}
use Rattle.rap_lexer.specs.PlainLiteral.{is_bare}
use Rattle.rap_lexer.specs.Run.{run_of}
use Rattle.rap_lexer.proofs.escape.bare_run.Given as goal

abbrev pub invariant-run : goal.invariant-run
invariant-run l = record {
  within : l.n ≤ length l.bytes;
  same : l.n + length (run_of is_bare (drop l.n l.bytes)) ≡ length (run_of is_bare l.bytes);
}

abbrev pub decreases-run : goal.decreases-run
decreases-run l = length l.bytes - l.n
