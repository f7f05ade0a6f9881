-- The steps that lists of steps and messages show.
use Rattle.std.proofs.Common.{◌≡◌, ◌≤◌, ℕ, List, [], ◌∷◌, ◌++◌, length, length-drop, append_assoc, take, drop, ap, ◌∙◌, arith}
use Rattle.std.proofs.lemmas.List.{drop_at, length-take-le}
use Rattle.std.specs.List.{insert}
use Rattle.rap_events.specs.StepValue.{StepValue, enter, exit}
use Rattle.rap_events.specs.Output.{value_of, values}
use Rattle.rap_events.specs.declared.event.Event.{Event}
use Rattle.rap_events.specs.declared.event.Event.TheVariants as event
use Rattle.rap_events.proofs.HistoryLemmas.{in_turn-more, in_turn-length}

pub values_length : (es : List Event) (ms : List (List ℕ)) → length (values es ms) ≡ length es
values_length es ms = in_turn-length value_of es ms

-- one exit more
pub values_exit : (es : List Event) (ms : List (List ℕ)) → values (es ++ event.Exit ∷ []) ms ≡ values es ms ++ exit ∷ []
values_exit es ms = in_turn-more value_of es ms event.Exit

-- steps that begin within a list are no more than it has
pub values_few : (n : ℕ) (es : List Event) (ms : List (List ℕ)) → length (values (drop n es) ms) ≤ length es
values_few n es ms = omega (arith, values_length (drop n es) ms, length-drop n es)

-- a node around all steps
pub values_wrap : (k n : ℕ) (es es' : List Event) (ms : List (List ℕ)) → n ≤ length es → es' ≡ insert es n (event.Enter k) ++ event.Exit ∷ [] → values (drop n es') ms ≡ enter k ∷ (values (drop n es) ms ++ exit ∷ [])
values_wrap k n es es' ms h e =
    ap (λ (xs : List Event). values (drop n xs) ms) (e ∙ append_assoc (take n es) (event.Enter k ∷ drop n es) (event.Exit ∷ []))
    ∙ ap (λ (xs : List Event). values xs ms) (drop_at (take n es) (event.Enter k ∷ (drop n es ++ event.Exit ∷ [])) n (length-take-le n es h))
    ∙ ap (λ (v : List StepValue). enter k ∷ v) (values_exit (drop n es) ms)
