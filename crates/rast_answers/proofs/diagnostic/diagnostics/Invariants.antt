use Rattle.std.proofs.Common.{◌≡◌, ◌++◌, drop}
use Rattle.std.specs.Prelude.{map}
use Rattle.rast_answers.specs.Diagnostics.{said, shown}
use Rattle.rast_answers.proofs.diagnostic.diagnostics.Given as goal

abbrev pub invariant-messages : goal.invariant-messages
invariant-messages l = map shown l.list.items ++ map said (drop l.message-index l.messages) ≡ map said l.messages
