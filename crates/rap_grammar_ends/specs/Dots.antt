-- Where the floats of field accesses stand that are taken apart and end in a dot, as `0.` of `x.0.`.
use Rattle.std.specs.Prelude.{◌≡◌, ℕ, Bool, true, false, ◌&&◌, not}
use Rattle.rap_events.specs.Forest.{Forest, none, node, leaf, message, split, ends_in_dot}
use Rattle.rap_grammar_ends.specs.StandsIn.{NodeAt}

-- no node at the top ends with a float that ends in a dot, nor does such a float stand there itself
abbrev pub dots_inside : Forest → Bool
dots_inside none = true
dots_inside (node before kind children) = dots_inside before && not (ends_in_dot children)
dots_inside (leaf before kind width) = dots_inside before
dots_inside (message before bytes) = dots_inside before
dots_inside (split before dot) = dots_inside before && not dot

-- A node of this kind over these children stands in a node of a forest.
pub record StandsInNode (tree : Forest) (kind : ℕ) (children : Forest) : Type 0 where
  pub outer_kind : ℕ
  pub outer_children : Forest
  pub outer_place : ℕ
  pub outer : NodeAt tree outer_place outer_kind outer_children
  pub place : ℕ
  pub stands : NodeAt outer_children place kind children

-- The node of a float that ends in a dot stands in another node, where none stands at the top.
abbrev pub DotsStandInNodes : Type 0
DotsStandInNodes =
    (tree children : Forest) (place kind : ℕ) → dots_inside tree ≡ true → NodeAt tree place kind children →
    ends_in_dot children ≡ true → StandsInNode tree kind children

-- It is seen at the top, whatever stands before it.
abbrev pub DotsAreSeen : Type 0
DotsAreSeen = (before children : Forest) (kind : ℕ) → dots_inside (node before kind (split children true)) ≡ false
