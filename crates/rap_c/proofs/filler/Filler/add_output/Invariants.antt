use Rattle.std.proofs.Common.{◌≡◌}
use Rattle.rap_events.specs.Forest.{flat}
use Rattle.rap_c.specs.Filling.{after_all}
use Rattle.rap_c.specs.Fills.{filling_of, IsSame}
use Rattle.rap_c.specs.Item.{output_items}
use Rattle.rap_c.proofs.filler.Filler.add_output.Given as goal

abbrev pub invariant-steps : goal.invariant-steps
invariant-steps l =
    (goal.iterator-steps).can_next l.step-iterator ×
    (goal.iterator-steps).is_finite l.step-iterator ×
    (after_all (filling_of l.self) (output_items l.step-iterator) ≡ after_all (filling_of l.fn.self) (output_items (flat l.fn.output))) ×
    IsSame l.fn.self l.self
