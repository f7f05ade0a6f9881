use Rattle.rast_frames.specs.Stream.{waiting}
use Rattle.rast_server.proofs.Runs.{left_out}
use Rattle.rast_server.proofs.run.leave_out.Goals as goal

pub returns : goal.returns
returns g c = λ start input server h.
    left_out start (g.W.Write.contents c.args.out.now) (g.W.Write.contents c.send.new.out) input c.args.piece.now server
    (waiting c.args.frames.now) (waiting c.pass.new.self) (waiting c.push.new.self) c.front-begun.result c.send.result
    c.front-begun.ensures c.pass.ensures c.in_ok-push.ensures.come c.send.ensures h
