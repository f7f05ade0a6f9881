use Rattle.std.proofs.Common.{◌≡◌}
use Rattle.rast_frames.specs.Stream.{waiting}
use Rattle.rast_server.specs.Ran.{IsRunning}
use Rattle.rast_server.proofs.run.run.Given as goal

abbrev pub invariant-pieces : goal.invariant-pieces
invariant-pieces g l =
    IsRunning (g.W.Write.contents l.fn.out) (g.W.Write.contents l.out) (g.R.Read.remaining l.fn.input) (g.R.Read.remaining l.input) l.server (waiting l.frames)
    × (l.err ≡ l.fn.err)
