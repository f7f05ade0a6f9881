-- The tree of a history: its nodes are intervals of call numbers.
use Rattle.std.specs.Prelude.{ℕ, ◌+◌, ◌<◌, ◌≤◌, ◌⊎◌, zero, suc, List, [], ◌∷◌, ◌++◌, drop, ◌==◌, if◌then◌else◌}
use Rattle.rap_events.specs.StepValue.{StepValue, enter, exit, token, float_split, error}
use Rattle.rap_events.specs.Forest.{ended_by}
use Rattle.rap_events.specs.History.{Call}
use Rattle.rap_events.specs.History as call

-- a node: its kind, the number of the call where it begins, and the number of the call that finished it
pub record Interval : Type 0 where
  pub kind : ℕ
  pub begin : ℕ
  pub end : ℕ

-- Of two nodes the one that was finished earlier ends before the other begins, or stands inside it.
pub record Nested (later earlier : Interval) : Type 0 where
  pub end : earlier.end < later.end
  pub place : (earlier.end < later.begin) ⊎ (later.begin ≤ earlier.begin)

-- where each open marker begins, the newest first, and the nodes, the last finished first
pub record Marked : Type 0 where
  pub markers : List ℕ
  pub nodes : List Interval

abbrev pub newest : List ℕ → ℕ
newest [] = 0
newest (begin ∷ bs) = begin

abbrev pub begin_of_last : List Interval → ℕ
begin_of_last [] = 0
begin_of_last (n ∷ ns) = n.begin

-- the last node begins at this number
abbrev pub with_last_from : ℕ → List Interval → List Interval
with_last_from begin [] = []
with_last_from begin (n ∷ ns) = record n { begin = begin } ∷ ns

-- What the call of a number does. A marker begins at the call that starts it, or where the node begins that it
-- precedes. A finish makes the newest marker a node. An extended node begins where the newest marker begins, and that
-- marker is gone. An abandoned marker is gone.
abbrev pub marked : ℕ → Call → Marked → Marked
marked number call.start m = record { markers = number ∷ m.markers; nodes = m.nodes }
marked number call.precede m = record { markers = begin_of_last m.nodes ∷ m.markers; nodes = m.nodes }
marked number (call.finish kind) m =
    record {
      markers = drop 1 m.markers;
      nodes = record { kind = kind; begin = newest m.markers; end = number } ∷
          m.nodes;
    }
marked number call.extend m = record { markers = drop 1 m.markers; nodes = with_last_from (newest m.markers) m.nodes }
marked number call.abandon m = record { markers = drop 1 m.markers; nodes = m.nodes }
marked number (call.token kind width) m = m
marked number (call.float_split ends_in_dot) m = m
marked number (call.error bytes) m = m

abbrev pub marked_from : ℕ → List Call → Marked → Marked
marked_from number [] m = m
marked_from number (x ∷ xs) m = marked_from (number + 1) xs (marked number x m)

-- before the first call
abbrev pub unmarked : Marked
unmarked = record { markers = []; nodes = [] }

-- the nodes of a history, the last finished first
abbrev pub nodes_of : List Call → List Interval
nodes_of xs = (marked_from 0 xs unmarked).nodes

-- the nodes that begin at a number, the last finished outside
abbrev pub begins : List Interval → ℕ → List StepValue
begins [] number = []
begins (n ∷ ns) number = if n.begin == number then enter n.kind ∷ begins ns number else begins ns number

-- the nodes that end at a number
abbrev pub ends : List Interval → ℕ → List StepValue
ends [] number = []
ends (n ∷ ns) number = if n.end == number then exit ∷ ends ns number else ends ns number

-- the leaf, the float or the message that a call is
abbrev pub point : Call → List StepValue
point call.start = []
point call.precede = []
point (call.finish kind) = []
point call.extend = []
point call.abandon = []
point (call.token kind width) = token kind width ∷ []
point (call.float_split ends_in_dot) = float_split ends_in_dot ∷ []
point (call.error bytes) = error bytes ∷ []

-- from a number on, at each number: the nodes that begin there, its leaf, float or message, and the nodes that end
-- there
abbrev pub steps_between : List Interval → ℕ → List Call → List StepValue
steps_between ns number [] = []
steps_between ns number (x ∷ xs) = begins ns number ++ (point x ++ (ends ns number ++ steps_between ns (number + 1) xs))

abbrev pub without_exit : List StepValue → List StepValue
without_exit [] = []
without_exit (enter kind ∷ ss) = enter kind ∷ ss
without_exit (exit ∷ ss) = ss
without_exit (token kind width ∷ ss) = token kind width ∷ ss
without_exit (float_split ends_in_dot ∷ ss) = float_split ends_in_dot ∷ ss
without_exit (error bytes ∷ ss) = error bytes ∷ ss

-- the steps without so many of the first of them, as far as these are ends
abbrev pub without_exits : ℕ → List StepValue → List StepValue
without_exits zero ss = ss
without_exits (suc n) ss = without_exits n (without_exit ss)

-- the steps, where that of a float that is taken apart stands for the ends of the nodes that it ends
abbrev pub without_ends : List StepValue → List StepValue
without_ends [] = []
without_ends (enter kind ∷ ss) = enter kind ∷ without_ends ss
without_ends (exit ∷ ss) = exit ∷ without_ends ss
without_ends (token kind width ∷ ss) = token kind width ∷ without_ends ss
without_ends (float_split ends_in_dot ∷ ss) =
    float_split ends_in_dot ∷ without_exits (ended_by ends_in_dot) (without_ends ss)
without_ends (error bytes ∷ ss) = error bytes ∷ without_ends ss

-- the steps of the tree in which these intervals and points are nested
abbrev pub tree_steps : List Call → List StepValue
tree_steps xs = without_ends (steps_between (nodes_of xs) 0 xs)
