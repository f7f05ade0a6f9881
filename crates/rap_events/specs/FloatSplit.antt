-- The float of a field access, taken apart.
use Rattle.std.specs.Prelude.{List, [], ◌∷◌, Bool, true, false}
use Rattle.rap_base.specs.NodeKind.{FIELD_EXPR}
use Rattle.rap_events.specs.Forest.{Forest, none, node, split}
use Rattle.rap_events.specs.History.{Call}
use Rattle.rap_events.specs.History as call

-- what a float that is taken apart ends: a field access over what stands before it, or two, the newer one outside
abbrev pub split_children : Forest → Bool → Forest
split_children f true = split f true
split_children f false = node none FIELD_EXPR (split f false)

-- how that is recorded
abbrev pub split_calls : Bool → List Call
split_calls true = call.float_split true ∷ call.finish FIELD_EXPR ∷ []
split_calls false = call.float_split false ∷ call.finish FIELD_EXPR ∷ call.precede ∷ call.finish FIELD_EXPR ∷ []
