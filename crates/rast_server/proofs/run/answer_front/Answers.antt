use Rattle.rast_frames.specs.Stream.{waiting}
use Rattle.rast_server.proofs.Runs.{went_on}
use Rattle.rast_server.proofs.run.answer_front.Goals as goal

pub returns-else-eq : goal.returns-else-eq
returns-else-eq g c = λ start input h.
    went_on start (g.W.Write.contents c.args.out.now) (g.W.Write.contents c.send.new.out) input c.args.server.now c.answer-outcome.new.server
    (waiting c.args.frames.now) (waiting c.pass.new.self) c.args.front c.answer-outcome.result c.send.result
    c.requires c.answer-outcome.ensures.answers c.answer-outcome.ensures.leaves c.send.ensures c.in-Read.is c.pass.ensures h
