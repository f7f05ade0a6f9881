use Rattle.std.proofs.Common.{take}
use Rattle.rast_server.proofs.Runs.{kept, kept_consumed, kept_same}
use Rattle.rast_server.proofs.run.read_piece.Goals as goal

pub reads-init : goal.reads-init
reads-init g c = kept_same (g.R.Read.remaining c.args.input.now)

pub reads-preserved : goal.reads-preserved
reads-preserved g c =
    kept (g.R.Read.remaining c.args.input.now) (g.R.Read.remaining c.reads.input) (g.R.Read.remaining c.read.new.self) c.reads.invariant c.in-Err.ensures.bytes

pub returns-in-Ok-clause-read : goal.returns-in-Ok-clause-read
returns-in-Ok-clause-read g c =
    kept_consumed (g.R.Read.remaining c.args.input.now) (g.R.Read.remaining c.reads.input) (g.R.Read.remaining c.read.new.self) (take c.in-Ok.count c.read.new.buf)
    c.reads.invariant c.in-Ok.ensures.bytes.0
