use Rattle.std.proofs.Common.{◌≢◌, ◌<◌, ℕ}
use Rattle.rap_base.specs.Names.{name_of}
use Rattle.rast_print.proofs.asked.kind_named.Given as goal

abbrev pub invariant-kinds : goal.invariant-kinds
invariant-kinds l = (kind : ℕ) → kind < l.number → l.fn.name ≢ name_of kind
