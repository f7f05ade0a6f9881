-- Trees in a row: what an output is.
use Rattle.std.specs.Prelude.{ℕ, zero, suc, ◌+◌, ◌-◌, List, [], ◌∷◌, ◌++◌, Bool, true, false, ◌&&◌, ◌||◌, ◌==◌, not, if◌then◌else◌}
use Rattle.rap_base.specs.NodeKind.{FIELD_EXPR}
use Rattle.rap_events.specs.StepValue.{StepValue, enter, exit, token, float_split, error}

-- Nothing, or a forest and one thing after it: a node over a forest, a leaf of so many tokens, a message, or the float
-- of a field access that is taken apart, as `0.1` of `x.0.1`, and whether it ends in a dot.
pub data Forest : Type 0 where
  none : Forest
  node : Forest → ℕ → Forest → Forest
  leaf : Forest → ℕ → ℕ → Forest
  message : Forest → List ℕ → Forest
  split : Forest → Bool → Forest

infixl 20 ◌⧺◌
-- one forest after another
abbrev pub ◌⧺◌ : Forest → Forest → Forest
f ⧺ none = f
f ⧺ node before kind children = node (f ⧺ before) kind children
f ⧺ leaf before kind width = leaf (f ⧺ before) kind width
f ⧺ message before bytes = message (f ⧺ before) bytes
f ⧺ split before ends_in_dot = split (f ⧺ before) ends_in_dot

-- how many nodes a float that is taken apart ends
abbrev pub ended_by : Bool → ℕ
ended_by ends_in_dot = if ends_in_dot then 1 else 2

-- how many of the nodes around a forest are ended by a float at its end
abbrev pub split_ends : Forest → ℕ
split_ends none = 0
split_ends (node before kind children) = split_ends children - 1
split_ends (leaf before kind width) = 0
split_ends (message before bytes) = 0
split_ends (split before ends_in_dot) = ended_by ends_in_dot

abbrev pub exit_of : ℕ → List StepValue
exit_of zero = exit ∷ []
exit_of (suc n) = []

-- Its steps, from left to right. The step of a float that is taken apart stands for the ends of the one or two nodes
-- that it ends.
abbrev pub flat : Forest → List StepValue
flat none = []
flat (node before kind children) = flat before ++ enter kind ∷ (flat children ++ exit_of (split_ends children))
flat (leaf before kind width) = flat before ++ token kind width ∷ []
flat (message before bytes) = flat before ++ error bytes ∷ []
flat (split before ends_in_dot) = flat before ++ float_split ends_in_dot ∷ []

-- no node around the forest is ended by a float at its end
abbrev pub is_ended : Forest → Bool
is_ended f = split_ends f == 0

-- each float that is taken apart stands last in as many nodes as it ends, all of them a `FIELD_EXPR`, or at the
-- forest's end
abbrev pub splits_last : Forest → Bool
splits_last none = true
splits_last (node before kind children) =
    (splits_last before && is_ended before) && (splits_last children && (is_ended children || (kind == FIELD_EXPR)))
splits_last (leaf before kind width) = splits_last before && is_ended before
splits_last (message before bytes) = splits_last before && is_ended before
splits_last (split before ends_in_dot) = splits_last before && is_ended before

-- Each float that is taken apart stands last in a `FIELD_EXPR`. If it does not end in a dot, that node is the last
-- thing in another `FIELD_EXPR`.
abbrev pub splits_placed : Forest → Bool
splits_placed f = splits_last f && is_ended f

-- how many input tokens its leaves stand for
abbrev pub used : Forest → ℕ
used none = 0
used (node before kind children) = used before + used children
used (leaf before kind width) = used before + width
used (message before bytes) = used before
used (split before ends_in_dot) = used before + 1

-- how many messages it has
abbrev pub message_count : Forest → ℕ
message_count none = 0
message_count (node before kind children) = message_count before + message_count children
message_count (leaf before kind width) = message_count before
message_count (message before bytes) = message_count before + 1
message_count (split before ends_in_dot) = message_count before

-- the last thing is a float that ends in a dot, which stands after the node around it
abbrev pub ends_in_dot : Forest → Bool
ends_in_dot none = false
ends_in_dot (node before kind children) = false
ends_in_dot (leaf before kind width) = false
ends_in_dot (message before bytes) = false
ends_in_dot (split before dot) = dot

-- whether it is exactly one node, with nothing beside it, nor the dot of a float
abbrev pub one_tree : Forest → Bool
one_tree none = false
one_tree (node none kind children) = not (ends_in_dot children)
one_tree (node (node f k x) kind children) = false
one_tree (node (leaf f k w) kind children) = false
one_tree (node (message f m) kind children) = false
one_tree (node (split f d) kind children) = false
one_tree (leaf before kind width) = false
one_tree (message before bytes) = false
one_tree (split before dot) = false

-- whether the last thing is a leaf of this kind that stands in so many nodes, each the last thing in the one around it
abbrev pub ends_in : ℕ → ℕ → Forest → Bool
ends_in kind n none = false
ends_in kind zero (node before other children) = false
ends_in kind (suc n) (node before other children) = ends_in kind n children
ends_in kind zero (leaf before other width) = other == kind
ends_in kind (suc n) (leaf before other width) = false
ends_in kind n (message before bytes) = false
ends_in kind n (split before ends_in_dot) = false
