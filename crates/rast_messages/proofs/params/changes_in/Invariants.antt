use Rattle.std.proofs.Common.{◌≡◌, ◌++◌, drop, map, option_map}
use Rattle.serde_json.specs.View.{items_view}
use Rattle.rast_messages.specs.Params.{all_in, change_in, said}
use Rattle.rast_messages.proofs.params.changes_in.Given as goal

abbrev pub invariant-loop-value : goal.invariant-loop-value
invariant-loop-value l = all_in change_in (items_view l.value-items)
    ≡ option_map (λ cs. map said l.changes.items ++ cs) (all_in change_in (items_view (drop l.value-index l.value-items)))
