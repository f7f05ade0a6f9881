use Rattle.std.proofs.Common.{map, take}
use Rattle.rap_events.specs.Step.{step_value}
use Rattle.rap_c.specs.Shown.{AreStepsOf}
use Rattle.rap_c.proofs.given.steps_of.Given as goal

abbrev pub invariant-steps : goal.invariant-steps
invariant-steps l = AreStepsOf l.messages (take l.step-index l.steps) (map step_value l.given.items)
