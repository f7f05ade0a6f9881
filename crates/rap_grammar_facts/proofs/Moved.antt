-- When a call that does what a script does took a token: before each kind of token, where it says `true`, where another
-- turn follows, and in braces.
use Rattle.std.proofs.Common.{◌≡◌, ◌<◌, ◌&&◌, ◌||◌, ℕ, Bool, true, false, if◌then◌else◌, not, length, refl}
use Rattle.rap_base.specs.TokenKind.{EOF, R_CURLY}
use Rattle.rap_events.specs.Composite.{is_at}
use Rattle.rap_events.specs.State.{state, next}
use Rattle.rap_events.specs.declared.parser.Parser.{Parser}
use Rattle.rap_grammar_scripts.specs.Exec.{Does, run_of}
use Rattle.rap_grammar_scripts.specs.Moves.{stays_so, stays_of, moves, moves_unless, every_kind}
use Rattle.rap_grammar_scripts.specs.Script.{Script, Outcome, something, again, goes_on}
use Rattle.rap_grammar_scripts.specs.Stand.{Stand, stand}
use Rattle.rap_grammar_scripts.specs.Test.{Test, comes, negated, also}
use Rattle.rap_grammar_scripts.specs.Words.{of_bool}
use Rattle.rap_grammar_scripts.specs.declared.rule.Rule.{Rule}
use Rattle.rap_grammar_scripts.proofs.Moves.{Stirs, stirred, stayed, stirs, rules_onward, rules_stir, of_every, next_token}
use Rattle.rap_grammar_frame.proofs.Done.{moved, moved_unless}
use Rattle.rap_grammar_frame.proofs.Ended.{moved_where, rules_out}

pub moved_each : {n : ℕ} {s : Script Rule} {v : Outcome} (p q : Parser) → Does n s v (state p) (state q) →
    every_kind (λ k. moves s k) ≡ true → (state q).left < (state p).left
moved_each {n = n} {s = s} {v = v} p q d h =
    moved {n = n} {s = s} {v = v} p q d (of_every (λ k. moves s k) (next (state p)) h (next_token p))

pub moved_on : {n : ℕ} {s : Script Rule} (on : Bool) (p q : Parser) → Does n s (of_bool on) (state p) (state q) →
    on ≡ true → every_kind (λ k. moves_unless s k) ≡ true → (state q).left < (state p).left
moved_on {n = n} {s = s} true p q d e h =
    moved_unless {n = n} {s = s} {v = something} p q d refl
    (of_every (λ k. moves_unless s k) (next (state p)) h (next_token p))
moved_on false p q d e h = absurd cc

-- a turn takes a token or is the last, whichever kind of token comes next
abbrev pub last_only : Outcome → Bool
last_only v = not (goes_on v)

abbrev pub turn_moves : Script Rule → Bool
turn_moves s = every_kind (λ k. stays_so s k last_only)

fewer_of : {p q : Stand} → Stirs p q false → length q.rest < length p.rest
fewer_of (stirred l) = l
fewer_of (stayed e h) = absurd cc

pub turn_moved : {n : ℕ} {s : Script Rule} {a b : Bool} (p q : Parser) → Does n s (again a b) (state p) (state q) →
    turn_moves s ≡ true → (state q).left < (state p).left
unfolding state
turn_moved {n = n} {s = s} {a = a} {b = b} p q d h =
    fewer_of (stirs (run_of n) (stays_of 1) (rules_onward n) (rules_stir 1 n) s (stand (state p)) (stand (state q))
    (again a b) last_only d.run
    (of_every (λ k. stays_so s k last_only) (next (state p)) h (next_token p)))

pub turned : {n : ℕ} {s : Script Rule} (on : Bool) (p q : Parser) →
    Does n s (if on then again false false else something) (state p) (state q) → on ≡ true → turn_moves s ≡ true →
    (state q).left < (state p).left
turned {n = n} {s = s} true p q d e h = turn_moved {n = n} {s = s} {a = false} {b = false} p q d h
turned false p q d e h = absurd cc

-- in braces a token is taken unless they end there
abbrev pub inside : Test
inside = also (negated (comes 0 EOF)) (negated (comes 0 R_CURLY))

is_inside : (a b : Bool) → a ≡ false → b ≡ false → not a && not b ≡ true
is_inside a b e f = rw (e, f) refl

pub moved_inside : {n : ℕ} {s : Script Rule} {v : Outcome} (p q : Parser) → Does n s v (state p) (state q) →
    is_at EOF (state p).rest ≡ false → is_at R_CURLY (state p).rest ≡ false →
    every_kind (λ k. rules_out inside k || moves s k) ≡ true → (state q).left < (state p).left
moved_inside {n = n} {s = s} {v = v} p q d e f h =
    moved_where {n = n} {s = s} {v = v} inside p q d h (is_inside _ _ e f)
