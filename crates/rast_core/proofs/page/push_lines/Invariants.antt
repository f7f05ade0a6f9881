use Rattle.std.proofs.Common.{◌≡◌, ◌++◌, drop, string_bytes}
use Rattle.rast_core.specs.Listed.{place_lines}
use Rattle.rast_core.proofs.page.push_lines.Given as goal

abbrev pub invariant-places : goal.invariant-places
invariant-places l =
    string_bytes l.lines ++ place_lines l.fn.front (drop l.place-index l.fn.places)
    ≡ string_bytes l.fn.lines ++ place_lines l.fn.front l.fn.places
