-- What a script does beside its tree: events, messages, open nodes.
use Rattle.std.specs.Prelude.{ℕ, Bool, true, false, ◌&&◌, ◌==◌, not, nat_lt, List, [], ◌∷◌}
use Rattle.rap_grammar_scripts.specs.Cost.{Bill, bill, never, paid, events, Costs, says_bill}
use Rattle.rap_grammar_scripts.specs.Kept.{Nodes, nodes, told, open_nodes, undone, Tells, Stays, Undone, says_told, says_nodes}
use Rattle.rap_grammar_scripts.specs.declared.rule.Rule.{Rule}
use Rattle.rap_grammar_scripts.specs.declared.rule.Rule.TheVariants as knot
use Rattle.rap_grammar_scripts.specs.Script.{Script, Outcome, nothing, something, block}
use Rattle.rap_grammar_scripts.specs.Stand.{Stand}
use Rattle.rap_grammar_scripts.specs.Tally.{Measure, tally, within, holds_at, holds_always}

-- its events, whether it reports a message, what it leaves of the open nodes, and whether it does nothing at all
pub record Effect : Type 0 where
  pub events : Bill
  pub told : Bool
  pub nodes : Nodes
  pub undone : Bool

abbrev pub of_all : Bill → Bool → Nodes → Bool → Effect
of_all x y z w = record { events = x; told = y; nodes = z; undone = w }

abbrev pub effects : Measure Effect
effects =
    record {
      idle = of_all events.idle told.idle open_nodes.idle undone.idle;
      takes = of_all events.takes told.takes open_nodes.takes undone.takes;
      takes_end = of_all events.takes_end told.takes_end open_nodes.takes_end undone.takes_end;
      reports = of_all events.reports told.reports open_nodes.reports undone.reports;
      skips = of_all events.skips told.skips open_nodes.skips undone.skips;
      opens = of_all events.opens told.opens open_nodes.opens undone.opens;
      closes = of_all events.closes told.closes open_nodes.closes undone.closes;
      splits = λ dot. of_all (events.splits dot) (told.splits dot) (open_nodes.splits dot) (undone.splits dot);
      and_then =
          λ x y.
          of_all (events.and_then x.events y.events) (told.and_then x.told y.told)
          (open_nodes.and_then x.nodes y.nodes) (undone.and_then x.undone y.undone);
      either =
          λ x y.
          of_all (events.either x.events y.events) (told.either x.told y.told) (open_nodes.either x.nodes y.nodes)
          (undone.either x.undone y.undone);
      turns = λ x. of_all (events.turns x.events) (told.turns x.told) (open_nodes.turns x.nodes) (undone.turns x.undone);
    }

-- what is so of it
pub record Has (x : Effect) (p q : Stand) : Type 0 where
  pub events : Costs x.events p q
  pub told : Tells x.told p q
  pub nodes : Stays x.nodes p q
  pub undone : Undone x.undone p q

abbrev pub says : Effect → Effect → Bool
says x y =
    (says_bill x.events y.events && says_told x.undone y.undone) &&
    (says_told x.told y.told && says_nodes x.nodes y.nodes)

-- What each recursive rule does: so many events without a token, and so much room with one. An expression that is none
-- is reported. The open nodes are as before.
abbrev pub figure : Bool → Effect
figure reported = of_all (bill (paid 20) (paid 150)) reported (nodes 0 0) false

abbrev pub figures : Rule → List (Outcome × Effect)
figures (knot.ExprBp r bp) = (nothing, figure true) ∷ (something, figure false) ∷ (block, figure false) ∷ []
figures c = (something, figure false) ∷ []

-- what a script does, by its outcome
abbrev pub effect : Script Rule → List (Outcome × Effect)
effect s = tally effects figures s

-- the open nodes are as before; or the newest is gone
abbrev pub is_level : Effect → Bool
is_level x = says_nodes x.nodes (nodes 0 0)

abbrev pub ends_one : Effect → Bool
ends_one x = says_nodes x.nodes (nodes 1 0)

-- with so many events more than the tokens pay for; with room where tokens were taken
abbrev pub grows : ℕ → Effect → Bool
grows k x = says_bill x.events (bill (paid k) (paid 0))

abbrev pub leaves : ℕ → Effect → Bool
leaves room x = says_bill x.events (bill (paid 255) (paid room))

abbrev pub level : Script Rule → Bool
level s = holds_always is_level (effect s)
