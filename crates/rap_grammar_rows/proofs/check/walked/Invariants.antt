use Rattle.rap_grammar_rows.specs.Claims.{Leads, point}
use Rattle.rap_grammar_rows.proofs.check.walked.Given as goal

abbrev pub invariant-parts : goal.invariant-parts
invariant-parts l =
    Leads l.input l.end (point l.fn.start.place l.fn.start.shape l.fn.start.frames.items l.fn.start.at)
    (point l.walk.place l.walk.shape l.walk.frames.items l.walk.at)
