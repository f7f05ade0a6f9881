use Rattle.std.proofs.Common.{◌≡◌, ◌++◌, drop, string_bytes}
use Rattle.rast_lex.specs.Listed.{shown_spans}
use Rattle.rast_lex.proofs.listing.push_spans.Given as goal

abbrev pub invariant-spans : goal.invariant-spans
invariant-spans l = string_bytes l.lines ++ shown_spans (drop l.span-index l.fn.spans) ≡ string_bytes l.fn.lines ++ shown_spans l.fn.spans
