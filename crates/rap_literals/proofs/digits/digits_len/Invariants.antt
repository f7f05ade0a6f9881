use Rattle.std.proofs.Common.{◌≡◌, ◌≤◌, ◌+◌, ◌-◌, length, drop}
use Rattle.rap_lexer.specs.Class.{is_in}
use Rattle.rap_lexer.specs.Run.{run_of}
use Rattle.rap_literals.specs.Number.{class_of}
use Rattle.rap_literals.proofs.digits.digits_len.Given as goal

abbrev pub invariant-run : goal.invariant-run
invariant-run l = record {
  within : l.n ≤ length l.bytes;
  same : l.n + length (run_of (is_in (class_of l.radix)) (drop l.n l.bytes)) ≡ length (run_of (is_in (class_of l.radix)) l.bytes);
}

abbrev pub decreases-run : goal.decreases-run
decreases-run l = length l.bytes - l.n
