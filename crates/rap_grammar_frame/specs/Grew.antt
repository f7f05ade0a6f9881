-- What a grammar function does to a parser, whatever the tokens are.
-- (What calls promise one another; no promise of the library rests on it.)
use Rattle.std.specs.Prelude.{◌≡◌, ℕ, ◌+◌, ◌≤◌, ◌*◌, ◌<◌, Option, Some, None}
use Rattle.rap_events.specs.Machine.{push, top}
use Rattle.rap_events.specs.State.{State, state, IsLast, but_last}
use Rattle.rap_events.specs.declared.parser.CompletedMarker.{CompletedMarker}
use Rattle.rap_events.specs.declared.parser.Parser.{Parser}

-- No more tokens are left than the recursive rules may have.
abbrev pub Within : {G : Type 0} → (G → Type 0) → (G → ℕ) → G → Parser → Type 0
Within valid left g p = valid g × ((state p).left ≤ left g)

-- The same after a token was taken.
abbrev pub Behind : {G : Type 0} → (G → Type 0) → (G → ℕ) → G → Parser → Type 0
Behind valid left g p = valid g × ((state p).left < left g)

-- The open markers are as before. At most 256 events for each token taken, and `k` more, were recorded.
pub record Grew (old new : State) (k : ℕ) : Type 0 where
  pub input : new.input ≡ old.input
  pub left : new.left ≤ old.left
  pub count : new.count + 256 * new.left ≤ old.count + 256 * old.left + k
  pub messages : old.messages ≤ new.messages
  pub marker : new.marker ≡ old.marker
  pub below : new.below ≡ old.below

-- The same, with at least one token taken, and `room` events fewer than 256 for each.
pub record Took (old new : State) (room : ℕ) : Type 0 where
  pub input : new.input ≡ old.input
  pub left : new.left < old.left
  pub count : new.count + 256 * new.left + room ≤ old.count + 256 * old.left
  pub messages : old.messages ≤ new.messages
  pub marker : new.marker ≡ old.marker
  pub below : new.below ≡ old.below

-- Tokens were taken, and each left so much room.
pub record Spent (old new : State) (room : ℕ) : Type 0 where
  pub left : new.left < old.left
  pub count : new.count + 256 * new.left + room ≤ old.count + 256 * old.left

-- tokens were taken, and exactly this node was made
pub record Made (old new : State) (cm : CompletedMarker) (room : ℕ) : Type 0 where
  pub took : Took old new room
  pub last : IsLast new cm cm.kind.value
  pub one : but_last new.forest ≡ old.forest

-- the same, of a kind
pub record Makes (node_kind room : ℕ) (old new : State) (cm : CompletedMarker) : Type 0 where
  pub made : Made old new cm room
  pub kind : cm.kind.value ≡ node_kind

-- tokens were taken, and the newest open marker became this node
pub record Closed (old new : State) (cm : CompletedMarker) (room : ℕ) : Type 0 where
  pub input : new.input ≡ old.input
  pub left : new.left < old.left
  pub count : new.count + 256 * new.left + room ≤ old.count + 256 * old.left
  pub messages : old.messages ≤ new.messages
  pub last : IsLast new cm cm.kind.value
  pub below : old.below ≡ push new.below new.marker (but_last new.forest)

-- the newest open marker became a node of this kind, with at most `k` events more than the tokens pay for
pub record Closes (node_kind k : ℕ) (old new : State) (cm : CompletedMarker) : Type 0 where
  pub input : new.input ≡ old.input
  pub left : new.left ≤ old.left
  pub count : new.count + 256 * new.left ≤ old.count + 256 * old.left + k
  pub messages : old.messages ≤ new.messages
  pub last : IsLast new cm cm.kind.value
  pub below : old.below ≡ push new.below new.marker (but_last new.forest)
  pub kind : cm.kind.value ≡ node_kind

-- tokens were taken, and the newest open marker is gone
pub record Ended (old new : State) (room : ℕ) : Type 0 where
  pub input : new.input ≡ old.input
  pub left : new.left < old.left
  pub count : new.count + 256 * new.left + room ≤ old.count + 256 * old.left
  pub messages : old.messages ≤ new.messages
  pub below : old.below ≡ push new.below new.marker (top old.below)

-- the newest open marker was abandoned, and a message was reported
pub record Dropped (old new : State) (k : ℕ) : Type 0 where
  pub input : new.input ≡ old.input
  pub left : new.left ≤ old.left
  pub count : new.count + 256 * new.left ≤ old.count + 256 * old.left + k
  pub messages : old.messages < new.messages
  pub below : old.below ≡ push new.below new.marker (top old.below)

-- a rule that makes a node, or reports a message and makes none, with at most `k` events more than its tokens pay for
abbrev pub Reads : ℕ → ℕ → State → State → Option CompletedMarker → Type 0
Reads room k old new (Some cm) = Made old new cm room
Reads room k old new None = Grew old new k × (old.messages < new.messages)

-- a rule that makes a node, or does nothing
abbrev pub Optional : ℕ → ℕ → State → State → Option CompletedMarker → Type 0
Optional kind room old new (Some cm) = Makes kind room old new cm
Optional kind room old new None = new ≡ old
