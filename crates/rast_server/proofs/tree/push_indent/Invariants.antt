use Rattle.std.proofs.Common.{◌≡◌, ◌*◌, ◌++◌, string_bytes}
use Rattle.rast_common.specs.Indented.{indent}
use Rattle.rast_server.proofs.tree.push_indent.Given as goal

abbrev pub invariant-eights : goal.invariant-eights
invariant-eights l = string_bytes l.json ≡ string_bytes l.fn.json ++ indent (8 * l._eight)
