-- How many events a call recorded that does what a script does; what a list is promised of an element: so many events,
-- and room where another element may follow; and that a message was reported where no expression was read.
use Rattle.std.proofs.Common.{◌≡◌, ◌<◌, ◌&&◌, ℕ, Bool, true, false, List, [], ◌∷◌, Option, Some, None, if◌then◌else◌, refl, subst, arith}
use Rattle.rap_events.specs.State.{state}
use Rattle.rap_events.specs.declared.parser.CompletedMarker.{CompletedMarker}
use Rattle.rap_events.specs.declared.parser.Parser.{Parser}
use Rattle.rap_grammar_scripts.specs.Effects.{Effect, effect, grows, leaves, is_level}
use Rattle.rap_grammar_scripts.specs.Exec.{Does}
use Rattle.rap_grammar_scripts.specs.Kept.{Tells}
use Rattle.rap_grammar_scripts.specs.Moves.{moves_unless, every_kind}
use Rattle.rap_grammar_scripts.specs.Script.{Script, Outcome, nothing, something}
use Rattle.rap_grammar_scripts.specs.Tally.{same_outcome, holds_at, holds_always}
use Rattle.rap_grammar_scripts.specs.Words.{of_bool, of_expr}
use Rattle.rap_grammar_scripts.specs.declared.arguments.BlockLike.{BlockLike}
use Rattle.rap_grammar_scripts.specs.declared.rule.Rule.{Rule}
use Rattle.rap_grammar_scripts.specs.Stand.{stand}
use Rattle.rap_grammar_scripts.proofs.Effects.{does, found_at}
use Rattle.rap_grammar_scripts.proofs.Moves.{left_so, right_so}
use Rattle.rap_grammar_frame.specs.Grew.{Grew, Took}
use Rattle.rap_grammar_frame.specs.Room.{element_room, element_events}
use Rattle.rap_grammar_frame.proofs.Done.{grew, took}
use Rattle.rap_grammar_facts.proofs.Moved.{moved_on}

-- so many at most, however the script ends
of_both : (b : Bool) {x y : Bool} → x ≡ true → y ≡ true → (if b then x else true) && y ≡ true
of_both true h i = rw (h, i) refl
of_both false h i = i

at_each : (f : Effect → Bool) (v : Outcome) (l : List (Outcome × Effect)) → holds_always f l ≡ true →
    holds_at f v l ≡ true
at_each f v [] h = refl
at_each f v (e ∷ l) h =
    of_both (same_outcome v e.0) (left_so (f e.1) (holds_always f l) h)
    (at_each f v l (right_so (f e.1) (holds_always f l) h))

pub grown : {n : ℕ} {s : Script Rule} {v : Outcome} (k : ℕ) (p q : Parser) → Does n s v (state p) (state q) →
    holds_always (λ x. grows k x && is_level x) (effect s) ≡ true → Grew (state p) (state q) k
grown {n = n} {s = s} {v = v} k p q d h =
    grew {n = n} {s = s} {v = v} k p q d (at_each (λ x. grows k x && is_level x) v (effect s) h)

pub took_each : {n : ℕ} {s : Script Rule} {v : Outcome} (room : ℕ) (p q : Parser) → Does n s v (state p) (state q) →
    holds_always (λ x. leaves room x && is_level x) (effect s) ≡ true → (state q).left < (state p).left →
    Took (state p) (state q) room
took_each {n = n} {s = s} {v = v} room p q d h less =
    took {n = n} {s = s} {v = v} room p q d (at_each (λ x. leaves room x && is_level x) v (effect s) h) less

-- a message was reported where no expression was read
pub reported : {n : ℕ} {s : Script Rule} (o : Option (CompletedMarker × BlockLike)) (p q : Parser) →
    Does n s (of_expr o) (state p) (state q) → o ≡ None → holds_at (λ x. x.told) nothing (effect s) ≡ true →
    (state p).messages < (state q).messages
reported {n = n} {s = s} None p q d e h =
    let f =
    found_at (λ x. x.told) (effect s) nothing (stand (state p)) (stand (state q)) h
    (does n s (stand (state p)) (stand (state q)) nothing d.run) in
    let t : Tells true (stand (state p)) (stand (state q)) =
    subst (λ (b : Bool). Tells b (stand (state p)) (stand (state q))) f.holds f.has.told in
    t.messages
reported (Some x) p q d e h = absurd cc

pub element_took : {n : ℕ} {s : Script Rule} (on : Bool) (p q : Parser) → Does n s (of_bool on) (state p) (state q) →
    on ≡ true → holds_at (λ x. leaves element_room x && is_level x) something (effect s) ≡ true →
    every_kind (λ k. moves_unless s k) ≡ true → Took (state p) (state q) element_room
element_took {n = n} {s = s} true p q d e l h =
    took {n = n} {s = s} {v = something} element_room p q d l (moved_on {n = n} {s = s} true p q d e h)
element_took false p q d e l h = absurd cc

pub element_grew : {n : ℕ} {s : Script Rule} (on : Bool) (p q : Parser) → Does n s (of_bool on) (state p) (state q) →
    holds_at (λ x. grows element_events x && is_level x) nothing (effect s) ≡ true →
    holds_at (λ x. leaves element_room x && is_level x) something (effect s) ≡ true →
    every_kind (λ k. moves_unless s k) ≡ true → Grew (state p) (state q) element_events
element_grew {n = n} {s = s} true p q d g l h =
    let t = element_took {n = n} {s = s} true p q d refl l h in
    record {
      input = t.input;
      left = omega (arith, t.left);
      count = omega (arith, t.left, t.count);
      messages = t.messages;
      marker = t.marker;
      below = t.below;
    }
element_grew {n = n} {s = s} false p q d g l h = grew {n = n} {s = s} {v = nothing} element_events p q d g
