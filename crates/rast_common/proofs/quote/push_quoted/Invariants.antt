use Rattle.std.proofs.Common.{◌≡◌, ◌++◌, codes, string_bytes}
use Rattle.std.specs.List.{flat_map}
use Rattle.rast_common.specs.Quote.{escaped}
use Rattle.rast_common.proofs.quote.push_quoted.Given as goal

abbrev pub invariant-loop-c : goal.invariant-loop-c
invariant-loop-c l = string_bytes l.out ≡ (string_bytes l.fn.out ++ codes "\"") ++ flat_map escaped l.yielded
