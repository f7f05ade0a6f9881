-- A loop of calls that do what its turns do, with no recursive rule.
use Rattle.std.proofs.Common.{◌≡◌, ℕ, Bool, true, false, if◌then◌else◌, refl}
use Rattle.rap_events.specs.State.{state}
use Rattle.rap_events.specs.declared.parser.Parser.{Parser}
use Rattle.rap_grammar_scripts.specs.Script.{Script, something, again, loop}
use Rattle.rap_grammar_scripts.specs.declared.rule.Rule.{Rule}
use Rattle.rap_grammar_frame.proofs.Steps.{Turns, turn, last_turn}
use Rattle.rap_grammar_facts.specs.Alone.{DoesAlone}
use Rattle.rap_grammar_facts.proofs.Moved.{turn_moves, turned}

-- as far as it has come between two parsers
pub record TurnsAlone (h : Bool → Bool → Script Rule) (o p : Parser) : Type 0 where
  pub at : (depth : ℕ) → Turns depth h false false false false o p

-- one turn more
pub turned_on : {h : Bool → Bool → Script Rule} (on : Bool) (o p q : Parser) → TurnsAlone h o p →
    DoesAlone (h false false) (if on then again false false else something) (state p) (state q) → on ≡ true →
    turn_moves (h false false) ≡ true → TurnsAlone h o q
turned_on {h = h} true o p q t d e m =
    record { at = λ n. turn {j = n} {h = h} (t.at n) (d.at n) (turned {n = n} {s = h false false} true p q (d.at n) refl m) }
turned_on false o p q t d e m = absurd cc

-- the last turn
pub turned_off : {h : Bool → Bool → Script Rule} (on : Bool) (o p q : Parser) → TurnsAlone h o p →
    DoesAlone (h false false) (if on then again false false else something) (state p) (state q) → on ≡ false →
    DoesAlone (loop h false false) something (state o) (state q)
turned_off true o p q t d e = absurd cc
turned_off {h = h} false o p q t d e = record { at = λ n. last_turn {j = n} {h = h} (t.at n) (d.at n) refl }
