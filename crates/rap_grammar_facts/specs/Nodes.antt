-- What is said of a node that a rule returns, beside the rule's script, since its marker is no part of a stand.
-- (What calls promise one another; no promise of the library rests on it.)
use Rattle.std.specs.Prelude.{◌≡◌, ◌<◌, ℕ, Option, Some, None, true}
use Rattle.rap_events.specs.Fit.{is_plain}
use Rattle.rap_events.specs.State.{State, IsLast, but_last}
use Rattle.rap_events.specs.declared.parser.CompletedMarker.{CompletedMarker}
use Rattle.rap_grammar_scripts.specs.declared.arguments.BlockLike.{BlockLike}

-- it is the last node, of a kind of which no more is required
pub record IsOperand (s : State) (cm : CompletedMarker) : Type 0 where
  pub last : IsLast s cm cm.kind.value
  pub plain : is_plain cm.kind.value ≡ true

-- the same, and a token was taken
pub record IsAtom (old new : State) (cm : CompletedMarker) : Type 0 where
  pub last : IsLast new cm cm.kind.value
  pub plain : is_plain cm.kind.value ≡ true
  pub less : new.left < old.left

-- such a node or none, and a token was taken
abbrev pub AtomIf : State → State → Option (CompletedMarker × BlockLike) → Type 0
AtomIf old new (Some e) = IsAtom old new e.0
AtomIf old new None = new.left < old.left

-- a token was taken, and the last node became a part of this one, of this kind, which is now the last
pub record Wrapped (node_kind : ℕ) (old new : State) (cm : CompletedMarker) : Type 0 where
  pub less : new.left < old.left
  pub last : IsLast new cm cm.kind.value
  pub one : but_last new.forest ≡ but_last old.forest
  pub kind : cm.kind.value ≡ node_kind
