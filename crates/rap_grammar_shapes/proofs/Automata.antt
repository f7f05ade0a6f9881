-- Automata over the children of a node, by their kinds.
use Rattle.std.specs.Prelude.{◌≡◌, ◌==◌, ◌&&◌, ◌||◌, ℕ, zero, suc, Bool, true, false, List, [], ◌∷◌}
use Rattle.rap_grammar_table.specs.Known.{among}
use Rattle.rap_grammar_table.specs.Shapes.{Child, leaf_child, node_child, float_child}

-- A step to a state: by a leaf or a node of one of these kinds, by any leaf, or by a float that is taken apart.
pub data Step : Type 0 where
  by_leaf : List ℕ → ℕ → Step
  by_node : List ℕ → ℕ → Step
  by_any : ℕ → Step
  by_float : ℕ → Step

-- A state: whether the children may end here, and the steps from here.
pub data State : Type 0 where
  state : Bool → List Step → State

-- The states of an automaton are numbered from 0. Where there is no such state, no child leads on.
abbrev pub state_at : List State → ℕ → State
state_at [] number = state false []
state_at (s ∷ states) zero = s
state_at (s ∷ states) (suc number) = state_at states number

-- whether the children may end in a state
abbrev pub accepts : State → Bool
accepts (state accepting steps) = accepting

-- the steps from a state
abbrev pub steps_of : State → List Step
steps_of (state accepting steps) = steps

-- whether a step leads by this child to this state
abbrev pub step_leads : Step → Child → ℕ → Bool
step_leads (by_leaf kinds to) (leaf_child kind) target = among kinds kind && (to == target)
step_leads (by_any to) (leaf_child kind) target = to == target
step_leads (by_node kinds to) (node_child kind) target = among kinds kind && (to == target)
step_leads (by_float to) float_child target = to == target
step_leads s c target = false

-- whether one of these steps does
abbrev pub leads : List Step → Child → ℕ → Bool
leads [] c target = false
leads (s ∷ steps) c target = step_leads s c target || leads steps c target

-- These children lead from a state to one where they may end.
pub data Accepts (states : List State) : ℕ → List Child → Type 0 where
  at_end : {from : ℕ} → accepts (state_at states from) ≡ true → Accepts states from []
  by_step : {from to : ℕ} {c : Child} {cs : List Child} → leads (steps_of (state_at states from)) c to ≡ true →
      Accepts states to cs → Accepts states from (c ∷ cs)
