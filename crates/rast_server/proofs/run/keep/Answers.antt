use Rattle.rast_frames.specs.Stream.{waiting}
use Rattle.rast_server.proofs.Runs.{came}
use Rattle.rast_server.proofs.run.keep.Goals as goal

pub returns-in-Ok : goal.returns-in-Ok
returns-in-Ok g c = λ start input server h.
    came start (g.W.Write.contents c.args.out.now) input c.args.piece.now server (waiting c.args.frames.now) (waiting c.push.new.self) c.in-Ok.ensures.come h
