use Rattle.std.proofs.Common.{◌≡◌}
use Rattle.rap_events.specs.LastSteps.{left_behind}
use Rattle.rap_events.proofs.output.end_in.Given as goal

abbrev pub invariant-steps : goal.invariant-steps
invariant-steps l =
    (goal.iterator-steps).can_next l.step-iterator ×
    (goal.iterator-steps).is_finite l.step-iterator ×
    (left_behind l.fn.kind l.fn.depth l.left l.step-iterator ≡ left_behind l.fn.kind l.fn.depth 0 l.fn.last)
