use denote.Text.{Utf8}
use denote.Shadow.{shadow}
use Rattle.rap_bench.proofs.faults.push_edited.Given as goal

-- what is left is text
abbrev pub invariant-loop : goal.invariant-loop
invariant-loop l = shadow (Utf8 l.rest)
