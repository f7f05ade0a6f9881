-- What a caller sees of a parser, and what each of its calls does to that.
-- (What calls promise one another, but for what docs/ARCHITECTURE.md lists as to be believed.)
use Rattle.std.specs.Prelude.{◌≡◌, ◌≢◌, ℕ, ◌+◌, ◌≤◌, ◌<◌, List, [], ◌∷◌, ◌++◌, Option, Some, Bool, true, false, length, drop, map, string_bytes, codes, ◌||◌, ◌==◌, not}
use Rattle.rap_base.specs.TokenKind.{EOF, ERROR, L_CURLY, R_CURLY}
use Rattle.rap_base.specs.NodeKind.{FIELD_EXPR}
use Rattle.rap_base.specs.TokenSet.{member}
use Rattle.rap_base.specs.declared.token_set.TokenSet.{TokenSet}
use Rattle.rap_base.specs.Names.{name_of}
use Rattle.rap_events.specs.Record.{Record, next_kind, contextual_at, joint_at}
use Rattle.rap_events.specs.Composite.{is_at, width}
use Rattle.rap_events.specs.Cover.{first_may_bear}
use Rattle.rap_events.specs.FloatSplit.{split_children, split_calls}
use Rattle.rap_events.specs.Forest.{Forest, none, node, leaf, message, split, ◌⧺◌}
use Rattle.rap_events.specs.History.{Call, history}
use Rattle.rap_events.specs.History as call
use Rattle.rap_events.specs.Machine.{Stack, push, Config, run, initial, top}
use Rattle.rap_events.specs.declared.parser.Parser.{Parser}
use Rattle.rap_events.specs.declared.parser.CompletedMarker.{CompletedMarker}

-- The tokens; those from the next one on; how many these are; how many calls were recorded, and how many of them
-- reported a message; whether the last one finished a node; the newest open marker, the forest under it so far, and the
-- older open markers.
pub record State : Type 0 where
  pub input : List Record
  pub rest : List Record
  pub left : ℕ
  pub count : ℕ
  pub messages : ℕ
  pub closed : Bool
  pub marker : Option ℕ
  pub forest : Forest
  pub below : Stack

abbrev pub view : List Record → List Record → Config → State
view input rest c =
    record {
      input = input;
      rest = rest;
      left = length rest;
      count = c.count;
      messages = c.messages;
      closed = c.closed;
      marker = c.marker;
      forest = c.forest;
      below = c.below;
    }

-- the calls that a parser recorded
unfoldable pub calls : Parser → List Call
calls p = history p.events.items (map string_bytes p.messages.items)

unfoldable pub state : Parser → State
state p = view p.input.now (drop p.pos p.input.now) (run initial (calls p))

-- at the first token, with nothing recorded
abbrev pub start_state : List Record → State
start_state input = view input input initial

-- the next token's kind, or the end
abbrev pub next : State → ℕ
next s = next_kind s.rest

-- what the next token may be read as instead
abbrev pub next_contextual : State → ℕ
next_contextual s = contextual_at s.rest 0

-- a token of this kind comes next, be it written with one token or with several
abbrev pub At : State → ℕ → Type 0
At s kind = is_at kind s.rest ≡ true

-- the same after so many tokens
abbrev pub NthAt : State → ℕ → ℕ → Type 0
NthAt s n kind = is_at kind (drop n s.rest) ≡ true

-- the next token may be taken under this kind
abbrev pub ReadsAs : State → ℕ → Type 0
ReadsAs s kind = first_may_bear s.rest kind ≡ true

-- the message that a token of this kind is missing
abbrev pub expected : ℕ → List ℕ
expected kind = codes "expected " ++ name_of kind

-- a message that ends with a kind's name
abbrev pub with_kind : List ℕ → ℕ → List ℕ
with_kind bytes kind = bytes ++ name_of kind

-- the forest without its last tree
unfoldable pub but_last : Forest → Forest
but_last none = none
but_last (node before kind children) = before
but_last (leaf before kind width) = before
but_last (message before bytes) = before
but_last (split before ends_in_dot) = before

-- what the last tree has under it
unfoldable pub last_children : Forest → Forest
last_children none = none
last_children (node before kind children) = children
last_children (leaf before kind width) = none
last_children (message before bytes) = none
last_children (split before ends_in_dot) = none

-- the tokens are as before, and one more call is recorded, which reported no message
pub record Recorded (old new : State) : Type 0 where
  pub input : new.input ≡ old.input
  pub rest : new.rest ≡ old.rest
  pub left : new.left ≡ old.left
  pub count : new.count ≡ old.count + 1
  pub messages : new.messages ≡ old.messages

-- a marker is open, with nothing under it
pub record Opened (old new : State) (m : ℕ) : Type 0 where
  pub recorded : Recorded old new
  pub marker : new.marker ≡ Some m
  pub numbered : new.marker ≡ Some old.count
  pub forest : new.forest ≡ none
  pub below : new.below ≡ push old.below old.marker old.forest

-- the last thing under the newest marker is a node of this kind, just finished
pub record IsLast (s : State) (cm : CompletedMarker) (k : ℕ) : Type 0 where
  pub kind : cm.kind.value ≡ k
  pub end : cm.end.value ≡ s.count
  pub closed : s.closed ≡ true
  pub forest : s.forest ≡ node (but_last s.forest) k (last_children s.forest)

-- the newest marker is a node, the last one under the marker below
pub record Completed (old new : State) (kind : ℕ) : Type 0 where
  pub recorded : Recorded old new
  pub below : old.below ≡ push new.below new.marker (but_last new.forest)
  pub forest : new.forest ≡ node (but_last new.forest) kind old.forest
  pub children : last_children new.forest ≡ old.forest

-- the newest marker is gone, and what it had stands under the marker below
pub record Abandoned (old new : State) : Type 0 where
  pub recorded : Recorded old new
  pub below : old.below ≡ push new.below new.marker (top old.below)
  pub forest : new.forest ≡ top old.below ⧺ old.forest

-- a new marker is open, with the last node under it
pub record Preceded (old new : State) (m : ℕ) (kind : ℕ) : Type 0 where
  pub recorded : Recorded old new
  pub marker : new.marker ≡ Some m
  pub numbered : new.marker ≡ Some old.count
  pub forest : new.forest ≡ node none kind (last_children old.forest)
  pub below : new.below ≡ push old.below old.marker (but_last old.forest)

-- the last node has all that the newest marker had, and that marker is gone
pub record Extended (old new : State) (kind : ℕ) : Type 0 where
  pub recorded : Recorded old new
  pub forest : new.forest ≡ node (but_last new.forest) kind (but_last old.forest ⧺ last_children old.forest)
  pub below : old.below ≡ push new.below new.marker (but_last new.forest)

-- so many tokens are taken, as one leaf of this kind
pub record Bumped (old new : State) (kind : ℕ) (width : ℕ) : Type 0 where
  pub input : new.input ≡ old.input
  pub rest : new.rest ≡ drop width old.rest
  pub left : old.left ≡ new.left + width
  pub count : new.count ≡ old.count + 1
  pub messages : new.messages ≡ old.messages
  pub marker : new.marker ≡ old.marker
  pub forest : new.forest ≡ leaf old.forest kind width
  pub below : new.below ≡ old.below

-- a message is reported
pub record Reported (old new : State) (bytes : List ℕ) : Type 0 where
  pub input : new.input ≡ old.input
  pub rest : new.rest ≡ old.rest
  pub left : new.left ≡ old.left
  pub count : new.count ≡ old.count + 1
  pub messages : new.messages ≡ old.messages + 1
  pub marker : new.marker ≡ old.marker
  pub forest : new.forest ≡ message old.forest bytes
  pub below : new.below ≡ old.below

-- A float is taken, which ends in a dot or not, and the newest marker is a field access that ends with it, the last
-- node under the marker below. Where the float does not end in a dot, that node has another one around it.
pub record SplitFloat (old new : State) (ends_in_dot : Bool) : Type 0 where
  pub decided : joint_at old.rest 0 ≡ not ends_in_dot
  pub input : new.input ≡ old.input
  pub rest : new.rest ≡ drop 1 old.rest
  pub left : old.left ≡ new.left + 1
  pub count : new.count ≡ old.count + length (split_calls ends_in_dot)
  pub messages : new.messages ≡ old.messages
  pub below : old.below ≡ push new.below new.marker (but_last new.forest)
  pub forest : new.forest ≡ node (but_last new.forest) FIELD_EXPR (split_children old.forest ends_in_dot)
  pub children : last_children new.forest ≡ split_children old.forest ends_in_dot

-- a token of this kind was taken if one came next, and else nothing was done
pub record Ate (old new : State) (kind : ℕ) (taken : Bool) : Type 0 where
  pub input : new.input ≡ old.input
  pub left : new.left ≤ old.left
  pub less : taken ≡ true → new.left < old.left
  pub count : new.count + new.left ≤ old.count + old.left
  pub messages : new.messages ≡ old.messages
  pub marker : new.marker ≡ old.marker
  pub below : new.below ≡ old.below
  pub decided : taken ≡ is_at kind old.rest
  pub token : taken ≡ true → Bumped old new kind (width kind)
  pub not_token : taken ≡ false → new ≡ old

-- the same for an identifier that is read as a keyword
pub record AteAs (old new : State) (kind : ℕ) (taken : Bool) : Type 0 where
  pub input : new.input ≡ old.input
  pub left : new.left ≤ old.left
  pub less : taken ≡ true → new.left < old.left
  pub count : new.count + new.left ≡ old.count + old.left
  pub messages : new.messages ≡ old.messages
  pub marker : new.marker ≡ old.marker
  pub below : new.below ≡ old.below
  pub decided : taken ≡ (next_contextual old == kind)
  pub bears : taken ≡ true → ReadsAs old kind
  pub token : taken ≡ true → Bumped old new kind 1
  pub not_token : taken ≡ false → new ≡ old

-- a token of this kind was taken if one came next, and else a message says that it is missing
pub record Expected (old new : State) (kind : ℕ) (taken : Bool) : Type 0 where
  pub input : new.input ≡ old.input
  pub left : new.left ≤ old.left
  pub less : taken ≡ true → new.left < old.left
  pub count : new.count + new.left ≤ old.count + old.left + 1
  pub messages : old.messages ≤ new.messages
  pub marker : new.marker ≡ old.marker
  pub below : new.below ≡ old.below
  pub clean : new.messages ≡ 0 → new.forest ≡ leaf old.forest kind (width kind)
  pub decided : taken ≡ is_at kind old.rest
  pub token : taken ≡ true → Bumped old new kind (width kind)
  pub not_token : taken ≡ false → Reported old new (expected kind)

-- a message, and the next token if there is one
abbrev pub skipped : List Record → List ℕ → Forest
skipped [] bytes = message none bytes
skipped (r ∷ rs) bytes = leaf (message none bytes) r.kind 1

-- the calls of the same
abbrev pub skip_calls : List Record → List ℕ → List Call
skip_calls [] bytes = call.start ∷ call.error bytes ∷ call.finish ERROR ∷ []
skip_calls (r ∷ rs) bytes = call.start ∷ call.error bytes ∷ call.token r.kind 1 ∷ call.finish ERROR ∷ []

-- how many these are
abbrev pub skip_count : List Record → ℕ
skip_count [] = 3
skip_count (r ∷ rs) = 4

-- an `ERROR` over a message and the next token, or over the message alone at the end
pub record Skipped (old new : State) (bytes : List ℕ) : Type 0 where
  pub input : new.input ≡ old.input
  pub rest : new.rest ≡ drop 1 old.rest
  pub left : new.left ≤ old.left
  pub less : next old ≢ EOF → old.left ≡ new.left + 1
  pub count : new.count + new.left ≡ old.count + old.left + 3
  pub counted : new.count ≡ old.count + skip_count old.rest
  pub messages : new.messages ≡ old.messages + 1
  pub marker : new.marker ≡ old.marker
  pub forest : new.forest ≡ node old.forest ERROR (skipped old.rest bytes)
  pub below : new.below ≡ old.below

-- a message does not take a brace, or a kind of the set, into an `ERROR`
abbrev pub is_kept : TokenSet → ℕ → Bool
is_kept set kind = (kind == L_CURLY) || ((kind == R_CURLY) || member set kind)

-- a message is reported before a token that is kept, and else with the next token in an `ERROR`
pub record Recovered (old new : State) (bytes : List ℕ) (set : TokenSet) (kept : Bool) : Type 0 where
  pub input : new.input ≡ old.input
  pub left : new.left ≤ old.left
  pub count : new.count + new.left ≤ old.count + old.left + 3
  pub messages : new.messages ≡ old.messages + 1
  pub marker : new.marker ≡ old.marker
  pub below : new.below ≡ old.below
  pub decided : kept ≡ is_kept set (next old)
  pub reported : kept ≡ true → Reported old new bytes
  pub skipped : kept ≡ false → Skipped old new bytes
