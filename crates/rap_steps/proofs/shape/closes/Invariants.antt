use Rattle.std.proofs.Common.{◌≡◌, drop, map, reverse}
use Rattle.rap_events.specs.Step.{step_value}
use Rattle.rap_steps.specs.Walk.{closes}
use Rattle.rap_steps.proofs.shape.closes.Given as goal

abbrev pub invariant-steps : goal.invariant-steps
invariant-steps l = closes (map step_value (drop l.step-index l.steps)) (reverse l.begun.items) ≡ closes (map step_value l.steps) (reverse l.initial.begun.items)
