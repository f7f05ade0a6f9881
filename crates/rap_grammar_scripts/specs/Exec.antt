-- What a script does, as a function of the stand that it begins at: where it ends and with which outcome.
use Rattle.std.specs.Prelude.{◌≡◌, ◌==◌, ℕ, zero, suc, Bool, true, false, length, Option, Some, None, if◌then◌else◌, ltb}
use Rattle.rap_base.specs.TokenKind.{EOF, FLOAT_NUMBER}
use Rattle.rap_events.specs.Record.{next_kind, joint_at}
use Rattle.rap_events.specs.Composite.{is_at, width}
use Rattle.rap_events.specs.Cover.{first_may_bear}
use Rattle.rap_events.specs.State.{State, state, with_kind}
use Rattle.rap_events.specs.declared.parser.Parser.{Parser}
use Rattle.rap_grammar_scripts.specs.Test.{holds}
use Rattle.rap_grammar_scripts.specs.Knot.{script_of}
use Rattle.rap_grammar_scripts.specs.declared.rule.Rule.{Rule}
use Rattle.rap_grammar_scripts.specs.Script.{Script, Outcome, nothing, something, block, again, give, test, ends_with, token, any, bear, report, report_next, skip, start, precede, finish, extend, abandon, split_float, after, rule, loop, last_taken_at}
use Rattle.rap_grammar_scripts.specs.Stand.{Stand, stand, taken, reported, skipped_over, started, preceded, finished, extended, abandoned, split_apart, spot_at}

-- where a script ends and with which outcome, if it does
abbrev pub End : Type 0
End = Option (Stand × Outcome)

-- what comes after an end
abbrev pub and_on : End → (Outcome → Stand → End) → End
and_on None f = None
and_on (Some e) f = f e.1 e.0

-- the end of a turn, or the next one
abbrev pub next_turn : Outcome → Stand → (Bool → Bool → Stand → End) → End
next_turn nothing p f = Some (p, nothing)
next_turn something p f = Some (p, something)
next_turn block p f = Some (p, block)
next_turn (again a b) p f = f a b p

abbrev pub on_again : End → (Bool → Bool → Stand → End) → End
on_again None f = None
on_again (Some e) f = next_turn e.1 e.0 f

-- at most so many turns, each but the last of which takes a token
unfoldable pub turning : ℕ → (Bool → Bool → Stand → End) → Bool → Bool → Stand → End
turning zero f a b p = None
turning (suc k) f a b p =
    on_again (f a b p) (λ c d q. if ltb (length q.rest) (length p.rest) then turning k f c d q else None)

-- the turns of a loop; there are no more than tokens, and one
unfoldable pub looped : (Bool → Bool → Stand → End) → Bool → Bool → Stand → End
looped f a b p = turning (suc (length p.rest)) f a b p

-- where a script ends, by what the rules that it calls answer
abbrev pub exec : {P : Type 0} → (P → Stand → End) → Script P → Stand → End
exec o (give v) p = Some (p, v)
exec o (test h s t) p = if holds h p.rest then exec o s p else exec o t p
exec o (ends_with k s t) p = if last_taken_at (spot_at p) == k then exec o s p else exec o t p
exec o (token k s) p = if is_at k p.rest then exec o s (taken k (width k) p) else None
exec o (any s) p = if next_kind p.rest == EOF then None else exec o s (taken (next_kind p.rest) 1 p)
exec o (bear k s) p = if first_may_bear p.rest k then exec o s (taken k 1 p) else None
exec o (report bytes s) p = exec o s (reported bytes p)
exec o (report_next bytes s) p = exec o s (reported (with_kind bytes (next_kind p.rest)) p)
exec o (skip bytes s) p = exec o s (skipped_over bytes p)
exec o (start s) p = exec o s (started p)
exec o (precede s) p = exec o s (preceded p)
exec o (finish k s) p = exec o s (finished k p)
exec o (extend s) p = exec o s (extended p)
exec o (abandon s) p = exec o s (abandoned p)
exec o (split_float s t) p =
    if next_kind p.rest == FLOAT_NUMBER then
    (if joint_at p.rest 0 then exec o t (split_apart false p) else exec o s (split_apart true p))
    else None
exec o (after s n) p = and_on (exec o s p) (λ w q. exec o (n w) q)
exec o (rule c n) p = and_on (o c p) (λ w q. exec o (n w) q)
exec o (loop h a b) p = looped (λ c d q. exec o (h c d) q) a b p

-- where a recursive rule ends, with at most so many rules inside one another
abbrev pub run_of : ℕ → Rule → Stand → End
run_of zero c p = None
run_of (suc n) c p = exec (run_of n) (script_of c) p

-- A script ends so from one stand to another, with at most so many rules inside one another.
pub record Ends (depth : ℕ) (s : Script Rule) (p q : Stand) (v : Outcome) : Type 0 where
  pub run : exec (run_of depth) s p ≡ Some (q, v)

-- the same for a recursive rule
pub record Answers (depth : ℕ) (c : Rule) (p q : Stand) (v : Outcome) : Type 0 where
  pub run : run_of depth c p ≡ Some (q, v)

-- the parser's calls between two states do what the script does, with this outcome
abbrev pub Does : ℕ → Script Rule → Outcome → State → State → Type 0
Does depth s v old new = Ends depth s (stand old) (stand new) v

-- what the script does between two parsers, where it ends by `something`
abbrev pub Executes : ℕ → Script Rule → Parser → Parser → Type 0
Executes depth s p q = Does depth s something (state p) (state q)

-- the same of the rule
abbrev pub Obeys : ℕ → Rule → Outcome → State → State → Type 0
Obeys depth c v old new = Answers depth c (stand old) (stand new) v
