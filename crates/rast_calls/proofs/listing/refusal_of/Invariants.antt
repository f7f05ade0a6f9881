use Rattle.std.proofs.Common.{◌≡◌}
use Rattle.rast_calls.specs.Listed.{span, spans}
use Rattle.rast_calls.proofs.listing.refusal_of.Given as goal

abbrev pub invariant-spans : goal.invariant-spans
invariant-spans l = l.error ≡ record { message = l.fn.message; primary = span l.fn.start l.fn.end; visible = spans l.i }
