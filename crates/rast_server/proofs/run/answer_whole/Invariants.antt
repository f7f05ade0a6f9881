use Rattle.std.proofs.Common.{ℕ, List, Option}
use Rattle.rast_frames.specs.Stream.{waiting}
use Rattle.rast_server.specs.Ran.{IsServed}
use Rattle.rast_server.proofs.run.answer_whole.Given as goal

abbrev pub invariant-fronts : goal.invariant-fronts
invariant-fronts g l = (start : Option (List ℕ)) (input : List ℕ) → IsServed start (g.W.Write.contents l.fn.out) input l.fn.server (waiting l.fn.frames)
    → IsServed start (g.W.Write.contents l.out) input l.server (waiting l.frames)
