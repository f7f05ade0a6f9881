-- What a top entry makes of what was parsed.
use Rattle.std.specs.Prelude.{◌≡◌, ℕ, ◌+◌, ◌*◌, ◌≤◌, List, [], ◌∷◌, length, Bool, true, false}
use Rattle.rap_base.specs.TokenKind.{ERROR}
use Rattle.rap_events.specs.Record.{Record}
use Rattle.rap_events.specs.Forest.{Forest, none, node, leaf, flat, used, message_count, one_tree}
use Rattle.rap_events.specs.Cover.{covers}
use Rattle.rap_events.specs.Fit.{AllFitIn}
use Rattle.rap_grammar_scripts.specs.Knot.{script_of}
use Rattle.rap_grammar_scripts.specs.declared.rule.Rule.{Rule}
use Rattle.rap_grammar_scripts.specs.Script.{Script, Outcome, Runs}

-- a forest, and each of these tokens as a leaf of its own kind after it
abbrev pub with_leaves : Forest → List Record → Forest
with_leaves f [] = f
with_leaves f (r ∷ rs) = with_leaves (leaf f r.kind 1) rs

abbrev pub kept : Bool → Forest → Forest
kept true f = f
kept false f = node none ERROR f

-- The forest itself if it is one tree and no token is left. Else one `ERROR` over it and what is left.
abbrev pub top_tree : Forest → List Record → Forest
top_tree f [] = kept (one_tree f) f
top_tree f (r ∷ rs) = node none ERROR (with_leaves f (r ∷ rs))

-- A forest over the first of the input's tokens, by few steps. In an output without messages all binary expressions and
-- token trees are as their rules require.
pub record IsForestOver (input : List Record) (tokens : ℕ) (f : Forest) : Type 0 where
  pub covers : covers input f ≡ true
  pub used : used f ≡ tokens
  pub few : length (flat f) ≤ 256 * (length input + 1)
  pub fit : message_count f ≡ 0 → ∥ AllFitIn f ∥₁

-- one tree over the whole input
pub record IsTreeOver (input : List Record) (f : Forest) : Type 0 where
  pub one : one_tree f ≡ true
  pub forest : IsForestOver input (length input) f

-- The output of a top entry with this script: what the script makes of the whole input under one marker, and of what it
-- leaves.
pub record IsTopOf (s : Script Rule) (input : List Record) (output : Forest) : Type 0 where
  pub made : Forest
  pub rest : List Record
  pub outcome : Outcome
  pub run : Runs script_of s (record { rest = input; forest = none; below = none ∷ [] })
      (record { rest = rest; forest = made; below = none ∷ [] }) outcome
  pub tree : output ≡ top_tree made rest

-- The output of a top entry that makes a node of this kind over the whole input: what its script makes of the input
-- stands under that node.
pub record IsRootOf (kind : ℕ) (s : Script Rule) (input : List Record) (output : Forest) : Type 0 where
  pub made : Forest
  pub outcome : Outcome
  pub run : Runs script_of s (record { rest = input; forest = none; below = none ∷ [] })
      (record { rest = []; forest = made; below = none ∷ [] }) outcome
  pub tree : output ≡ node none kind made
