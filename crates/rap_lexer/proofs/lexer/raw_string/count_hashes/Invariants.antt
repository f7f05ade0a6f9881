use Rattle.std.proofs.Common.{◌≡◌, ◌≤◌, ◌+◌, ◌^◌, length}
use Rattle.rap_lexer.specs.Class.{is_in}
use Rattle.rap_lexer.specs.Run.{run_of, after_run}
use Rattle.rap_lexer.specs.declared.lexer.run.Class.TheVariants.{Hash}
use Rattle.rap_lexer.proofs.lexer.raw_string.count_hashes.Given as goal

abbrev pub invariant-hashes : goal.invariant-hashes
invariant-hashes l = record {
  room : l.count + length l.cursor ≤ 2 ^ 63;
  count : l.count + length (run_of (is_in Hash) l.cursor) ≡ length (run_of (is_in Hash) l.initial.cursor);
  rest : after_run (is_in Hash) l.cursor ≡ after_run (is_in Hash) l.initial.cursor;
}

abbrev pub decreases-hashes : goal.decreases-hashes
decreases-hashes l = length l.cursor
