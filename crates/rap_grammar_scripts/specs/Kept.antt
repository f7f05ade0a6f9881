-- What a script reports, and what it leaves of the open nodes.
use Rattle.std.specs.Prelude.{ℕ, zero, suc, ◌+◌, ◌-◌, ◌≤◌, ◌<◌, ◌≡◌, ◌==◌, Bool, true, false, ◌&&◌, ◌||◌, nat_le, List, [], ◌∷◌, Option, if◌then◌else◌}
use Rattle.rap_events.specs.Machine.{Stack}
use Rattle.rap_events.specs.Record.{Record}
use Rattle.rap_grammar_scripts.specs.Stand.{Stand, marker_below, far_below}
use Rattle.rap_grammar_scripts.specs.Tally.{Measure}

-- whether a message was reported at least; and the input stays
abbrev pub one_of_two : Bool → Bool → Bool
one_of_two true y = true
one_of_two false y = y

abbrev pub two_of_two : Bool → Bool → Bool
two_of_two true y = y
two_of_two false y = false

abbrev pub told : Measure Bool
told =
    record {
      idle = false;
      takes = false;
      takes_end = false;
      reports = true;
      skips = true;
      opens = false;
      closes = false;
      splits = λ dot. false;
      and_then = one_of_two;
      either = two_of_two;
      turns = λ x. x;
    }

abbrev pub More : Bool → ℕ → ℕ → Type 0
More true a b = a < b
More false a b = a ≤ b

pub record Tells (x : Bool) (p q : Stand) : Type 0 where
  pub input : q.input ≡ p.input
  pub messages : More x p.messages q.messages

-- So many of the nodes that were open are gone, and so many are open above the others. Or that is not known.
pub data Nodes : Type 0 where
  astray : Nodes
  nodes : ℕ → ℕ → Nodes

abbrev pub after_nodes : Nodes → Nodes → Nodes
after_nodes astray y = astray
after_nodes (nodes a b) astray = astray
after_nodes (nodes a b) (nodes c d) = if nat_le c b then nodes a ((b - c) + d) else nodes (a + (c - b)) d

abbrev pub either_nodes : Nodes → Nodes → Nodes
either_nodes astray y = astray
either_nodes (nodes a b) astray = astray
either_nodes (nodes a b) (nodes c d) = if (a == c) && (b == d) then nodes a b else astray

abbrev pub turns_nodes : Nodes → Nodes
turns_nodes astray = astray
turns_nodes (nodes a b) = if a == b then nodes a b else astray

abbrev pub open_nodes : Measure Nodes
open_nodes =
    record {
      idle = nodes 0 0;
      takes = nodes 0 0;
      takes_end = nodes 0 0;
      reports = nodes 0 0;
      skips = nodes 0 0;
      opens = nodes 0 1;
      closes = nodes 1 0;
      splits = λ dot. nodes 1 0;
      and_then = after_nodes;
      either = either_nodes;
      turns = turns_nodes;
    }

-- the newest marker without so many, and what is below it
abbrev pub marker_under : ℕ → Option ℕ → Stack → Option ℕ
marker_under zero k b = k
marker_under (suc n) k b = marker_under n (marker_below b) (far_below b)

abbrev pub stack_under : ℕ → Stack → Stack
stack_under zero b = b
stack_under (suc n) b = stack_under n (far_below b)

pub record Opens (gone new : ℕ) (p q : Stand) : Type 0 where
  pub marker : marker_under new q.marker q.below ≡ marker_under gone p.marker p.below
  pub below : stack_under new q.below ≡ stack_under gone p.below

abbrev pub Stays : Nodes → Stand → Stand → Type 0
Stays astray p q = Unit {0}
Stays (nodes a b) p q = Opens a b p q

-- whether one says what the other does
abbrev pub says_told : Bool → Bool → Bool
says_told x true = x
says_told x false = true

abbrev pub says_nodes : Nodes → Nodes → Bool
says_nodes x astray = true
says_nodes astray (nodes c d) = false
says_nodes (nodes a b) (nodes c d) = (a == c) && (b == d)

-- whether nothing was done
abbrev pub undone : Measure Bool
undone =
    record {
      idle = true;
      takes = false;
      takes_end = false;
      reports = false;
      skips = false;
      opens = false;
      closes = false;
      splits = λ dot. false;
      and_then = two_of_two;
      either = two_of_two;
      turns = λ x. false;
    }

abbrev pub Undone : Bool → Stand → Stand → Type 0
Undone true p q = q ≡ p
Undone false p q = Unit {0}
