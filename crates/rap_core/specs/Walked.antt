-- How far the steps of a tree are followed.
use Rattle.std.specs.Prelude.{◌≡◌, ℕ, ◌+◌, List, [], ◌∷◌, ◌++◌, All}
use Rattle.rap_events.specs.Forest.{Forest, ◌⧺◌, used}
use Rattle.rap_events.specs.Reading.{Begun, nothing, inside, read}
use Rattle.rap_events.specs.StepValue.{StepValue, enter, exit, token, float_split, error}
use Rattle.rap_core.specs.Nodes.{IsNode}
use Rattle.rap_core.specs.declared.nodes.OpenNode.{OpenNode}
use Rattle.rap_core.specs.declared.nodes.Walk.{Walk}

-- how many tokens a step stands for
abbrev pub width_of : StepValue → ℕ
width_of (enter kind) = 0
width_of exit = 0
width_of (token kind width) = width
width_of (float_split ends_in_dot) = 1
width_of (error bytes) = 0

abbrev pub widths_of : List StepValue → ℕ
widths_of [] = 0
widths_of (s ∷ ss) = width_of s + widths_of ss

-- all that stands before the next step, without the nodes that have begun: what stands in them takes their place
abbrev pub finished : Begun → Forest → Forest
finished nothing f = f
finished (inside begun before kind) f = finished begun before ⧺ f

-- the nodes that have begun, the newest last, each with the number of the tokens before it
abbrev pub open_nodes : Begun → List OpenNode
open_nodes nothing = []
open_nodes (inside begun before kind) =
    open_nodes begun ++ record { kind = kind; start = used (finished begun before) } ∷ []

-- The steps, with an end for each node, lead from here to the tree. What was found are nodes of what stands before them.
pub record IsAt (tree : Forest) (steps : List StepValue) (walk : Walk) : Type 0 where
  pub begun : Begun
  pub forest : Forest
  pub reads : read steps begun forest ≡ tree
  pub nodes : walk.begun.items ≡ open_nodes begun
  pub tokens : walk.tokens ≡ used (finished begun forest)
  pub left : walk.tokens + widths_of steps ≡ used tree
  pub found : All (IsNode (finished begun forest)) walk.found.items
