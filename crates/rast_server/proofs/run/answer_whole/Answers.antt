use Rattle.rast_frames.specs.Stream.{waiting}
use Rattle.rast_server.proofs.Runs.{goes_on}
use Rattle.rast_server.proofs.run.answer_whole.Goals as goal

pub fronts-init : goal.fronts-init
fronts-init g c = λ start input h. h

pub fronts-preserved : goal.fronts-preserved
fronts-preserved g c = λ start input h.
    goes_on start (g.W.Write.contents c.answer_front.new.out) input c.answer_front.new.server (waiting c.answer_front.new.frames) c.answer_front.result
    c.in-Read.is (c.answer_front.ensures start input (c.fronts.invariant start input h))

pub returns-then-eq : goal.returns-then-eq
returns-then-eq g c = λ start input h. c.fronts.invariant start input h
