use Rattle.std.proofs.Common.{◌++◌}
use Rattle.rast_frames.specs.Stream.{waiting}
use Rattle.rast_server.proofs.Runs.{goes_on}
use Rattle.rast_server.proofs.run.serve.Goals as goal

pub returns-in-Read : goal.returns-in-Read
returns-in-Read g c = λ start input h.
    c.answer_whole.ensures start (input ++ c.args.piece.now)
    (goes_on start (g.W.Write.contents c.keep.new.out) (input ++ c.args.piece.now) c.args.server.now (waiting c.keep.new.frames) c.in_ok-kept.kept
    c.in-Read.is (c.in_ok-kept.ensures start input c.args.server.now h))
