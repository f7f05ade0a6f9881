-- A node of a tree, with the tokens that are its own.
use Rattle.std.specs.Prelude.{◌≡◌, ℕ, ◌+◌, List, ◌++◌, length, Bool}
use Rattle.rap_events.specs.Record.{Record}
use Rattle.rap_events.specs.Forest.{Forest, node, leaf, message, split, used}

-- A node of this kind over this forest stands somewhere in a forest, after so many of its tokens.
pub data NodeAt : Forest → ℕ → ℕ → Forest → Type 0 where
  last_node : {f c : Forest} {kind : ℕ} → NodeAt (node f kind c) (used f) kind c
  in_last_node : {f c children : Forest} {k kind tokens : ℕ} → NodeAt c tokens kind children →
      NodeAt (node f k c) (used f + tokens) kind children
  before_node : {f c children : Forest} {k kind tokens : ℕ} → NodeAt f tokens kind children →
      NodeAt (node f k c) tokens kind children
  before_leaf : {f children : Forest} {k width kind tokens : ℕ} → NodeAt f tokens kind children →
      NodeAt (leaf f k width) tokens kind children
  before_message : {f children : Forest} {bytes : List ℕ} {kind tokens : ℕ} → NodeAt f tokens kind children →
      NodeAt (message f bytes) tokens kind children
  before_split : {f children : Forest} {ends_in_dot : Bool} {kind tokens : ℕ} → NodeAt f tokens kind children →
      NodeAt (split f ends_in_dot) tokens kind children

-- The node stands in a tree over these tokens, and its leaves stand for its own among them: those after the leaves
-- before it, as many as its leaves stand for.
pub record StandsIn (tokens : List Record) (tree : Forest) (own : List Record) (kind : ℕ)
    (children : Forest) : Type 0 where
  pub before : List Record
  pub after : List Record
  pub place : ℕ
  pub stands : NodeAt tree place kind children
  pub tokens_are : tokens ≡ before ++ (own ++ after)
  pub before_are : length before ≡ place
  pub own_are : length own ≡ used children
