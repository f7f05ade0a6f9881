use Rattle.std.proofs.Common.{◌≡◌, ◌+◌, ◌≤◌, length, drop, map}
use Rattle.rap_events.specs.Cover.{stand, widths}
use Rattle.rap_events.specs.Step.{step_value}
use Rattle.rap_steps.specs.Walk.{leaves_in}
use Rattle.rap_steps.proofs.cover.covered.Given as goal

abbrev pub invariant-steps : goal.invariant-steps
invariant-steps l = record {
  within : l.place ≤ length l.input;
  so_far : stand (leaves_in (map step_value (drop l.step-index l.steps))) (drop l.place l.input) ≡ stand (leaves_in (map step_value l.steps)) l.input;
  count : l.place + widths (leaves_in (map step_value (drop l.step-index l.steps))) ≡ widths (leaves_in (map step_value l.steps));
}
