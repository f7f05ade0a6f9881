use Rattle.rap_events.specs.Reading.{with_ends}
use Rattle.rap_core.specs.Walked.{IsAt}
use Rattle.rap_core.proofs.nodes.find_nodes.Given as goal

abbrev pub invariant-steps : goal.invariant-steps
invariant-steps l =
    (goal.iterator-steps).can_next l.step-iterator ×
    (goal.iterator-steps).is_finite l.step-iterator ×
    IsAt l.fn.output (with_ends l.step-iterator) l.walk
