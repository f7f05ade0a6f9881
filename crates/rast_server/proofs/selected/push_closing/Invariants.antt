use Rattle.std.proofs.Common.{◌≡◌, ◌++◌, string_bytes}
use Rattle.rast_server.specs.SelectionText.{closing}
use Rattle.rast_server.proofs.selected.push_closing.Given as goal

abbrev pub invariant-brackets : goal.invariant-brackets
invariant-brackets l = string_bytes l.json ≡ string_bytes l.fn.json ++ closing l._bracket
