use Rattle.std.specs.Io.KnownBytes.{Keeps}
use Rattle.rast_server.proofs.run.read_piece.Given as goal

abbrev pub invariant-reads : goal.invariant-reads
invariant-reads g l = Keeps (g.R.Read.remaining l.fn.input) (g.R.Read.remaining l.input)
