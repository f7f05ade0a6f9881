-- A walk through steps.
-- (Used in contracts between internal functions only; no public contract rests on it.)
use Rattle.std.specs.Prelude.{ℕ, List, [], ◌∷◌, ◌++◌, Bool, true, false, ◌==◌, Option, Some, None, if◌then◌else◌}
use Rattle.rap_base.specs.NodeKind.{FIELD_EXPR}
use Rattle.rap_events.specs.Cover.{Leaf, of_tokens, of_float}
use Rattle.rap_events.specs.StepValue.{StepValue, enter, exit, token, float_split, error}

-- the kinds of the nodes that are open after a split float, the newest first, if it is valid there
abbrev pub after_split : Bool → List ℕ → Option (List ℕ)
after_split ends_in_dot [] = None
after_split ends_in_dot (j ∷ []) = None
after_split true (j ∷ i ∷ ks) = if j == FIELD_EXPR then Some (i ∷ ks) else None
after_split false (j ∷ i ∷ ks) = if j == FIELD_EXPR then (if i == FIELD_EXPR then Some ks else None) else None

-- the same after any step
abbrev pub after_step : StepValue → List ℕ → Option (List ℕ)
after_step s [] = None
after_step (enter kind) (j ∷ ks) = Some (kind ∷ j ∷ ks)
after_step exit (j ∷ ks) = Some ks
after_step (token kind width) (j ∷ ks) = Some (j ∷ ks)
after_step (error bytes) (j ∷ ks) = Some (j ∷ ks)
after_step (float_split ends_in_dot) (j ∷ ks) = after_split ends_in_dot (j ∷ ks)

abbrev pub is_none_open : List ℕ → Bool
is_none_open [] = true
is_none_open (j ∷ ks) = false

abbrev pub and_then : Option (List ℕ) → (List ℕ → Bool) → Bool
and_then None test = false
and_then (Some ks) test = test ks

-- the steps end all open nodes, the oldest of them with the last step
abbrev pub closes : List StepValue → List ℕ → Bool
closes [] ks = is_none_open ks
closes (s ∷ ss) ks = and_then (after_step s ks) (λ next. closes ss next)

-- the steps are those of one node
abbrev pub makes_tree : List StepValue → Bool
makes_tree [] = false
makes_tree (enter kind ∷ ss) = closes ss (kind ∷ [])
makes_tree (exit ∷ ss) = false
makes_tree (token kind width ∷ ss) = false
makes_tree (float_split ends_in_dot ∷ ss) = false
makes_tree (error bytes ∷ ss) = false

-- the leaves that a step shows
abbrev pub step_leaves : StepValue → List Leaf
step_leaves (enter kind) = []
step_leaves exit = []
step_leaves (token kind width) = of_tokens kind width ∷ []
step_leaves (float_split ends_in_dot) = of_float ends_in_dot ∷ []
step_leaves (error bytes) = []

abbrev pub leaves_in : List StepValue → List Leaf
leaves_in [] = []
leaves_in (s ∷ ss) = step_leaves s ++ leaves_in ss
