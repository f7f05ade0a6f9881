use Rattle.std.proofs.Common.{inl, refl, arith}
use Rattle.rap_c.proofs.Shown.{no_steps, steps_on}
use Rattle.rap_c.specs.declared.step.RapStep.{RapStep}
use Rattle.rap_c.proofs.given.steps_of.Goals as goal

abbrev zeros : RapStep
zeros = record { what = 0; kind = 0; at = 0; start = 0; end = 0 }

pub returns-in_default-step_of-clause-fault : goal.returns-in_default-step_of-clause-fault
returns-in_default-step_of-clause-fault c =
    inl (refl, no_steps c.args.messages.now c.args.steps.now c.steps.step-index zeros (omega (arith, c.steps-test.true)) c.in_default-step_of.ensures)

pub steps-preserved : goal.steps-preserved
steps-preserved c =
    steps_on c.args.messages.now c.args.steps.now c.steps.step-index zeros c.steps.given.items c.push.new.self.items c.in-Some.next (omega (arith, c.steps-test.true)) c.in-Some.ensures
    c.in-Ok-push.ensures.items c.steps.invariant
