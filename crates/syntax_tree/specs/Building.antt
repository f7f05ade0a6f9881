-- A tree as far as its steps have come.
-- (What calls promise one another; no promise of the library rests on it.)
use Rattle.std.specs.Prelude.{◌≡◌, ℕ, ◌+◌, ◌-◌, List, [], ◌∷◌, length, take, drop, reverse}
use Rattle.rap_lexed.specs.StrStep.{StrStepValue, str_enter, str_exit, str_token, str_error}
use Rattle.syntax_tree.specs.Children.{children_of}
use Rattle.syntax_tree.specs.StepTexts.{IsText}
use Rattle.syntax_tree.specs.RangedForest.{RangedForest, ranged_none, ranged_node, ranged_leaf}
use Rattle.syntax_tree.specs.declared.builder.Builder.{Builder}
use Rattle.syntax_tree.specs.declared.builder.Open.{Open}
use Rattle.syntax_tree.specs.declared.node.Child.{Child}

-- the nodes that have begun and not ended, the newest on top, each with what stands before it, its kind and its beginning
pub data Frames : Type 0 where
  outermost : Frames
  within : Frames → RangedForest → ℕ → ℕ → Frames

-- those nodes, what stands in the newest of them, and the end of the last leaf
pub record Building : Type 0 where
  pub frames : Frames
  pub forest : RangedForest
  pub at : ℕ

-- the newest node ends
abbrev pub ended : Frames → RangedForest → ℕ → Building
ended outermost f at = record { frames = outermost; forest = f; at = at }
ended (within frames before kind start) f at = record { frames = frames; forest = ranged_node before kind start at f; at = at }

-- after a step
abbrev pub after : Building → StrStepValue → Building
after b (str_enter kind) = record { frames = within b.frames b.forest kind b.at; forest = ranged_none; at = b.at }
after b str_exit = ended b.frames b.forest b.at
after b (str_token kind text) =
    record { frames = b.frames; forest = ranged_leaf b.forest kind b.at (b.at + length text); at = b.at + length text }
after b (str_error bytes pos) = b

-- Children wait in one list: those of the newest node last, and before them those that stand before it in the node around
-- it, and so on. Of the newest node is known how many they are, of each other one how many stand before the next.

-- the children before those of the newest node
abbrev pub rest_of : ℕ → List Child → List Child
rest_of inside cs = take (length cs - inside) cs

-- what stands in the newest of these nodes, which are given the newest first
abbrev pub newest_of : List Open → ℕ → List Child → RangedForest
newest_of [] inside cs = children_of cs
newest_of (o ∷ os) inside cs = children_of (drop (length cs - inside) cs)

-- their frames
abbrev pub frames_of : List Open → ℕ → List Child → Frames
frames_of [] inside cs = outermost
frames_of (o ∷ os) inside cs =
    within (frames_of os o.before (rest_of inside cs)) (newest_of os o.before (rest_of inside cs)) o.kind o.start

-- what a builder holds
abbrev pub building : Builder → Building
building b =
    record {
      frames = frames_of (reverse b.open.items) b.inside b.children.items;
      forest = newest_of (reverse b.open.items) b.inside b.children.items;
      at = b.at;
    }

-- a builder takes a step
pub record Builds (old : Builder) (step : StrStepValue) (new : Builder) : Type 0 where
  pub built : building new ≡ after (building old) step
  pub text : IsText step
