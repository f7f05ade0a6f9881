-- What a history has made so far: the forest under the newest open marker, and the older open markers below.
-- (What calls promise one another; no promise of the library rests on it.)
use Rattle.std.specs.Prelude.{ℕ, ◌+◌, List, [], ◌∷◌, ◌++◌, Option, Some, None, Bool, true, false, ◌&&◌}
use Rattle.rap_events.specs.Forest.{Forest, none, node, leaf, message, split, ◌⧺◌, splits_placed}
use Rattle.rap_events.specs.Cover.{Leaf, leaves}
use Rattle.rap_events.specs.History.{Call}
use Rattle.rap_events.specs.History as call

-- the older open markers, the newest of them on top, each with its number and the forest under it so far
pub data Stack : Type 0 where
  floor : Stack
  push : Stack → Option ℕ → Forest → Stack

-- the forest of the topmost of them
unfoldable pub top : Stack → Forest
top floor = none
top (push below marker forest) = forest

-- How many calls there were, how many of them reported a message, whether the last one finished a node, the newest open
-- marker, the forest under it so far, the older markers, and whether each call fitted what was open then.
pub record Config : Type 0 where
  pub count : ℕ
  pub messages : ℕ
  pub closed : Bool
  pub marker : Option ℕ
  pub forest : Forest
  pub below : Stack
  pub sound : Bool

-- the newest marker becomes a node under the marker below it
abbrev pub close : ℕ → Config → Stack → Config
close kind c floor =
    record {
      count = c.count + 1;
      messages = c.messages;
      closed = false;
      marker = c.marker;
      forest = c.forest;
      below = floor;
      sound = false;
    }
close kind c (push r m b) =
    record {
      count = c.count + 1;
      messages = c.messages;
      closed = true;
      marker = m;
      forest = node b kind c.forest;
      below = r;
      sound = c.sound;
    }

-- the newest marker is forgotten, and what it had stands under the marker below it
abbrev pub merge : Config → Stack → Config
merge c floor =
    record {
      count = c.count + 1;
      messages = c.messages;
      closed = false;
      marker = c.marker;
      forest = c.forest;
      below = floor;
      sound = false;
    }
merge c (push r m b) =
    record {
      count = c.count + 1;
      messages = c.messages;
      closed = false;
      marker = m;
      forest = b ⧺ c.forest;
      below = r;
      sound = c.sound;
    }

-- a call that did not fit
abbrev pub misfit : Config → Config
misfit c =
    record {
      count = c.count + 1;
      messages = c.messages;
      closed = false;
      marker = c.marker;
      forest = c.forest;
      below = c.below;
      sound = false;
    }

-- a new marker takes the last node along
abbrev pub wrap : Config → Bool → Forest → Config
wrap c closed none = misfit c
wrap c closed (leaf f k w) = misfit c
wrap c closed (message f m) = misfit c
wrap c closed (split f d) = misfit c
wrap c false (node f k x) = misfit c
wrap c true (node f k x) =
    record {
      count = c.count + 1;
      messages = c.messages;
      closed = false;
      marker = Some c.count;
      forest = node none k x;
      below = push c.below c.marker f;
      sound = c.sound;
    }

-- the last node takes in what stands before it under the newest marker, and that marker is gone
abbrev pub stretch : Config → Forest → Stack → Config
stretch c x floor = misfit c
stretch c none (push r m t) = misfit c
stretch c (leaf f k w) (push r m t) = misfit c
stretch c (message f b) (push r m t) = misfit c
stretch c (split f d) (push r m t) = misfit c
stretch c (node f k x) (push r m t) =
    record {
      count = c.count + 1;
      messages = c.messages;
      closed = c.closed;
      marker = m;
      forest = node t k (f ⧺ x);
      below = r;
      sound = c.closed && c.sound;
    }

-- one call more
abbrev pub step : Config → Call → Config
step c call.start =
    record {
      count = c.count + 1;
      messages = c.messages;
      closed = false;
      marker = Some c.count;
      forest = none;
      below = push c.below c.marker c.forest;
      sound = c.sound;
    }
step c call.precede = wrap c c.closed c.forest
step c (call.finish kind) = close kind c c.below
step c call.extend = stretch c c.forest c.below
step c call.abandon = merge c c.below
step c (call.token kind width) =
    record {
      count = c.count + 1;
      messages = c.messages;
      closed = false;
      marker = c.marker;
      forest = leaf c.forest kind width;
      below = c.below;
      sound = c.sound;
    }
step c (call.float_split ends_in_dot) =
    record {
      count = c.count + 1;
      messages = c.messages;
      closed = false;
      marker = c.marker;
      forest = split c.forest ends_in_dot;
      below = c.below;
      sound = c.sound;
    }
step c (call.error bytes) =
    record {
      count = c.count + 1;
      messages = c.messages + 1;
      closed = false;
      marker = c.marker;
      forest = message c.forest bytes;
      below = c.below;
      sound = c.sound;
    }

-- all calls, one after another
abbrev pub run : Config → List Call → Config
run c [] = c
run c (x ∷ xs) = run (step c x) xs

-- before the first call
abbrev pub initial : Config
initial = record { count = 0; messages = 0; closed = false; marker = None; forest = none; below = floor; sound = true }

-- each float that was taken apart stands where it must
abbrev pub stack_splits_placed : Stack → Bool
stack_splits_placed floor = true
stack_splits_placed (push r m b) = stack_splits_placed r && splits_placed b

abbrev pub all_splits_placed : Config → Bool
all_splits_placed c = stack_splits_placed c.below && splits_placed c.forest

-- the leaves so far, in order
abbrev pub stack_leaves : Stack → List Leaf
stack_leaves floor = []
stack_leaves (push r m b) = stack_leaves r ++ leaves b

abbrev pub all_leaves : Config → List Leaf
all_leaves c = stack_leaves c.below ++ leaves c.forest
