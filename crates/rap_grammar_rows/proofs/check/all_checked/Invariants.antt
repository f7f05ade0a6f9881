use Rattle.std.specs.Prelude.{All}
use Rattle.rap_grammar_rows.specs.Claims.{Holds}
use Rattle.rap_grammar_rows.proofs.check.all_checked.Given as goal

abbrev pub invariant-claims : goal.invariant-claims
invariant-claims l = All (Holds l.input) l.facts.items
