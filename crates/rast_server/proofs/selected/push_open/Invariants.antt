use Rattle.std.proofs.Common.{◌≡◌, ◌++◌, IsUtf8, codes, string_bytes}
use Rattle.rast_server.specs.SelectionText.{nested_from}
use Rattle.rast_server.proofs.Nested.{rest_nested}
use Rattle.rast_server.proofs.selected.push_open.Given as goal

abbrev pub invariant-loop-extent : goal.invariant-loop-extent
invariant-loop-extent l =
    (string_bytes l.json ++ rest_nested l.document l.before l.extents l.extent-index
    ≡ string_bytes l.fn.json ++ nested_from l.document (codes "{\"range\":") l.extents)
    × IsUtf8 l.before
