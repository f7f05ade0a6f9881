-- Trees of small histories.
use Rattle.std.proofs.Common.{◌≡◌, [], ◌∷◌, ◌++◌, true, false, refl}
use Rattle.rap_events.specs.StepValue.{enter, exit, token, float_split, error}
use Rattle.rap_events.specs.History.{Call}
use Rattle.rap_events.specs.History as call
use Rattle.rap_events.specs.FloatSplit.{split_calls}
use Rattle.rap_events.specs.Forest.{none, node, leaf, split, splits_placed, one_tree}
use Rattle.rap_events.specs.Interval.{tree_steps}
use Rattle.rap_base.specs.NodeKind.{FIELD_EXPR}

one_node : tree_steps (call.start ∷ call.token 5 1 ∷ call.finish 9 ∷ []) ≡ enter 9 ∷ token 5 1 ∷ exit ∷ []
one_node = refl

message_after_a_node : tree_steps (call.start ∷ call.finish 9 ∷ call.error [] ∷ []) ≡ enter 9 ∷ exit ∷ error [] ∷ []
message_after_a_node = refl

abandoned : tree_steps (call.start ∷ call.token 5 1 ∷ call.abandon ∷ []) ≡ token 5 1 ∷ []
abandoned = refl

inner_first : tree_steps (call.start ∷ call.start ∷ call.finish 8 ∷ call.finish 9 ∷ []) ≡ enter 9 ∷ enter 8 ∷ exit ∷ exit ∷ []
inner_first = refl

preceded : tree_steps (call.start ∷ call.finish 8 ∷ call.precede ∷ call.token 5 1 ∷ call.finish 9 ∷ []) ≡ enter 9 ∷ enter 8 ∷ exit ∷ token 5 1 ∷ exit ∷ []
preceded = refl

extended : tree_steps (call.start ∷ call.token 5 1 ∷ call.start ∷ call.token 6 1 ∷ call.finish 9 ∷ call.extend ∷ []) ≡ enter 9 ∷ token 5 1 ∷ token 6 1 ∷ exit ∷ []
extended = refl

-- the older marker precedes a node, which then stands inside the extended one
extended_to_preceding : tree_steps (call.start ∷ call.finish 8 ∷ call.precede ∷ call.start ∷ call.finish 9 ∷ call.extend ∷ []) ≡ enter 9 ∷ enter 8 ∷ exit ∷ exit ∷ []
extended_to_preceding = refl

preceded_after_extended : tree_steps (call.start ∷ call.token 5 1 ∷ call.start ∷ call.finish 8 ∷ call.extend ∷ call.precede ∷ call.finish 9 ∷ []) ≡ enter 9 ∷ enter 8 ∷ token 5 1 ∷ exit ∷ exit ∷ []
preceded_after_extended = refl

-- the float of `x.0.1` ends two nodes, and that of `x.1.` one
whole_float : tree_steps (call.start ∷ call.token 5 1 ∷ split_calls false) ≡ enter FIELD_EXPR ∷ enter FIELD_EXPR ∷ token 5 1 ∷ float_split false ∷ []
whole_float = refl

dotted_float : tree_steps (call.start ∷ call.start ∷ call.token 5 1 ∷ (split_calls true ++ call.token 6 1 ∷ call.finish 9 ∷ [])) ≡ enter 9 ∷ enter FIELD_EXPR ∷ token 5 1 ∷ float_split true ∷ token 6 1 ∷ exit ∷ []
dotted_float = refl

-- a float that does not end in a dot ends two nodes; one that does leaves its dot outside
one_node_short : splits_placed (node none FIELD_EXPR (split (leaf none 5 1) false)) ≡ false
one_node_short = refl

wrong_kind : splits_placed (node none 9 (split (leaf none 5 1) true)) ≡ false
wrong_kind = refl

not_last : splits_placed (node none FIELD_EXPR (leaf (split (leaf none 5 1) true) 6 1)) ≡ false
not_last = refl

dot_outside : one_tree (node none FIELD_EXPR (split (leaf none 5 1) true)) ≡ false
dot_outside = refl
