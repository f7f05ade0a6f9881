use Rattle.std.proofs.Common.{◌≡◌, ◌++◌, string_bytes}
use Rattle.rap_events.specs.Forest.{flat}
use Rattle.rast_print.specs.Listed.{step_lines}
use Rattle.rast_calls.proofs.listing.push_steps.Given as goal

abbrev pub invariant-steps : goal.invariant-steps
invariant-steps l =
    (goal.iterator-steps).can_next l.step-iterator ×
    (goal.iterator-steps).is_finite l.step-iterator ×
    (string_bytes l.lines ++ step_lines l.step-iterator ≡ string_bytes l.fn.lines ++ step_lines (flat l.fn.output))
