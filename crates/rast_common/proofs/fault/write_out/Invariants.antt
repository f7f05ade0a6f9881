use Rattle.std.proofs.Common.{◌<◌, length, take}
use Rattle.std.specs.Io.KnownBytes.{Appends}
use Rattle.rast_common.proofs.fault.write_out.Given as goal

abbrev pub invariant-writes : goal.invariant-writes
invariant-writes g l =
    (l.written < length l.bytes) × Appends (g.V.Write.contents l.initial.out) (g.V.Write.contents l.out) (take l.written l.bytes)
