use Rattle.std.proofs.Common.{◌≡◌, ◌++◌, string_bytes}
use Rattle.rast_lex.specs.Listed.{lines, record_line}
use Rattle.rast_lex.proofs.listing.push_records.Given as goal

abbrev pub invariant-records : goal.invariant-records
invariant-records l = string_bytes l.page ≡ string_bytes l.fn.page ++ lines (record_line l.fn.input) l.i
