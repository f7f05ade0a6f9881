use Rattle.std.proofs.Common.{◌≡◌, ◌++◌, drop}
use Rattle.rast_answers.specs.Deltas.{deltas_from}
use Rattle.rast_answers.proofs.deltas.deltas.Given as goal

abbrev pub invariant-tokens : goal.invariant-tokens
invariant-tokens l =
    l.list.items ++ deltas_from l.line l.start (drop l.token-index l.tokens) ≡ deltas_from 0 0 l.tokens
