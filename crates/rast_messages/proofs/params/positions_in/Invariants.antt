use Rattle.std.proofs.Common.{◌≡◌, ◌++◌, drop, option_map}
use Rattle.serde_json.specs.View.{items_view}
use Rattle.rast_messages.specs.Params.{all_in}
use Rattle.rast_messages.specs.Places.{position_in}
use Rattle.rast_messages.proofs.params.positions_in.Given as goal

abbrev pub invariant-loop-value : goal.invariant-loop-value
invariant-loop-value l = all_in position_in (items_view l.value-items)
    ≡ option_map (λ ps. l.positions.items ++ ps) (all_in position_in (items_view (drop l.value-index l.value-items)))
