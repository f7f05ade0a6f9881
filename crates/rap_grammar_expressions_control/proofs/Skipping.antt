-- A loop goes on where a token was skipped.
use Rattle.std.proofs.Common.{◌≡◌, ℕ, List, Bool, ap}
use Rattle.rap_events.specs.State.{State, Skipped}
use Rattle.rap_grammar_scripts.specs.Exec.{End, looped}
use Rattle.rap_grammar_scripts.specs.Stand.{Stand, stand, skipped_over}
use Rattle.rap_grammar_frame.proofs.Steps.{skips_to}

pub loop_skipped : (f : Bool → Bool → Stand → End) (a b : Bool) (s t : State) (bytes : List ℕ) → Skipped s t bytes →
    looped f a b (skipped_over bytes (stand s)) ≡ looped f a b (stand t)
loop_skipped f a b s t bytes k =
    ap (λ (x : Stand). looped f a b x) (skips_to k)
