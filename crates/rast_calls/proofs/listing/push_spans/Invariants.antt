use Rattle.std.proofs.Common.{◌≡◌, ◌++◌, drop, string_bytes}
use Rattle.rast_calls.specs.Listed.{shown_spans}
use Rattle.rast_calls.proofs.listing.push_spans.Given as goal

abbrev pub invariant-spans : goal.invariant-spans
invariant-spans l = string_bytes l.lines ++ shown_spans (drop l.span-index l.fn.error.visible) ≡ string_bytes l.fn.lines ++ shown_spans l.fn.error.visible
