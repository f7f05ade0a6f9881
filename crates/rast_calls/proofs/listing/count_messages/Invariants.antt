use Rattle.std.proofs.Common.{◌≡◌, ◌+◌}
use Rattle.rap_events.specs.Forest.{flat}
use Rattle.rast_calls.specs.Listed.{messages_in}
use Rattle.rast_calls.proofs.listing.count_messages.Given as goal

abbrev pub invariant-steps : goal.invariant-steps
invariant-steps l =
    (goal.iterator-steps).can_next l.step-iterator ×
    (goal.iterator-steps).is_finite l.step-iterator ×
    (l.count + messages_in l.step-iterator ≡ messages_in (flat l.fn.output))
