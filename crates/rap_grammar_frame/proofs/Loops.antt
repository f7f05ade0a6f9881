-- A loop is its first turn, and the loop again, where that turn took a token.
use Rattle.std.proofs.Common.{◌≡◌, ◌<◌, ℕ, Bool, true, length, ltb, lt-ltb, if◌then◌else◌, None}
use Rattle.rap_events.specs.State.{state}
use Rattle.rap_events.specs.declared.parser.Parser.{Parser}
use Rattle.rap_grammar_scripts.proofs.Exec as laws
use Rattle.rap_grammar_scripts.specs.Exec.{End, on_again, looped}
use Rattle.rap_grammar_scripts.specs.Stand.{Stand}

pub first_turn : (f : Bool → Bool → Stand → End) (a b : Bool) (p : Stand) →
    looped f a b p ≡
    on_again (f a b p) (λ c d q. if ltb (length q.rest) (length p.rest) then looped f c d q else None)
first_turn f a b p = laws.first_turn f a b p

-- fewer tokens
pub shorter : (p q : Parser) → (state q).left < (state p).left →
    ltb (length (state q).rest) (length (state p).rest) ≡ true
unfolding state
shorter p q l = lt-ltb _ _ l

-- both, for the functions with a loop
pub ruleset turns = (first_turn, shorter)
