use Rattle.std.proofs.Common.{◌≢◌, ◌<◌, ℕ}
use Rattle.rap_base.specs.Names.{name_of}
use Rattle.rap_c.proofs.kind_name.rap_kind_of_name.Given as goal

abbrev pub invariant-kinds : goal.invariant-kinds
invariant-kinds l = (kind : ℕ) → kind < l.kind → name_of kind ≢ l.name
