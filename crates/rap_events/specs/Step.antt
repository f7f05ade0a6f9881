-- A step of an output, as callers see it.
use Rattle.rap_events.specs.StepValue.{StepValue, enter, exit, token, float_split, error}
use Rattle.rap_events.specs.declared.output.Step.{Step}
use Rattle.rap_events.specs.declared.output.Step.TheVariants as step

-- the step, with its message by its bytes
abbrev pub step_value : Step → StepValue
step_value (step.Token kind width) = token kind width
step_value (step.FloatSplit ends_in_dot) = float_split ends_in_dot
step_value (step.Enter kind) = enter kind
step_value step.Exit = exit
step_value (step.Error msg) = error msg.now
