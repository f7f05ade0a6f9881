use Rattle.std.proofs.Common.{string_bytes, take}
use Rattle.rast_server.proofs.Positions.{IsWritten}
use Rattle.rast_server.proofs.selected.selections.Given as goal

abbrev pub invariant-loop-place : goal.invariant-loop-place
invariant-loop-place l =
    IsWritten l.listing.document.now l.listing.elements.now (take l.place-index l.positions) (string_bytes l.json) l.is_first
