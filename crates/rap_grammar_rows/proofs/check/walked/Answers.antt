use Rattle.rap_grammar_rows.proofs.Joins.{step_done, step_on}
use Rattle.rap_grammar_rows.specs.Claims.{point}
use Rattle.rap_grammar_rows.proofs.check.walked.Goals as goal

pub parts-preserved : goal.parts-preserved
parts-preserved c o more =
    c.parts.invariant o
    (step_on c.args.input.now c.args.end
    (point c.parts.walk.place c.parts.walk.shape c.parts.walk.frames.items c.parts.walk.at)
    (point c.step.new.self.place c.step.new.self.shape c.step.new.self.frames.items c.step.new.self.at)
    c.in_ok-step.field-0 c.in_ok-step.ensures c.in-On.is o more)

pub returns-in-Done : goal.returns-in-Done
returns-in-Done c =
    c.parts.invariant c.step.new.self.shape
    (step_done c.args.input.now c.args.end
    (point c.parts.walk.place c.parts.walk.shape c.parts.walk.frames.items c.parts.walk.at)
    (point c.step.new.self.place c.step.new.self.shape c.step.new.self.frames.items c.step.new.self.at)
    c.in_ok-step.field-0 c.in_ok-step.ensures c.in-Done.is)
