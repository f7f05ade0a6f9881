-- How a script ends that begins at these levels, said by rules: what is computed, and beside it what the tests on
-- the way say of the dots of a range.
use Rattle.std.proofs.Common.{◌≡◌, ℕ, Bool, true, false, ◌&&◌, not, List, [], ◌∷◌, ◌++◌, append-nil, refl}
use Rattle.rap_events.proofs.Truth.{and_left, and_right}
use Rattle.rap_events.specs.Record.{Record}
use Rattle.rap_grammar_scripts.specs.Postfix.{is_range}
use Rattle.rap_grammar_scripts.specs.declared.rule.Rule.{Rule}
use Rattle.rap_grammar_scripts.specs.Test.{Test, holds}
use Rattle.rap_grammar_scripts.specs.Script.{Script, Outcome, nothing, something, block, again, give, test, ends_with, token, any, bear, report, report_next, skip, start, precede, finish, extend, abandon, split_float, after, rule, loop}
use Rattle.rap_grammar_ends.proofs.Ends.{same_flag}
use Rattle.rap_grammar_ends.proofs.Endings.{Ending, ends_in, gather, flagged, every, Decides, Then, Turned, joined_left, joined_right, gathered, settled, of_flags}
use Rattle.rap_grammar_ends.proofs.DotEnds.{Level, inside, ranged, free, same_level, within, Levels, levels, same_lower, same_levels, as_good, added, lowered, raised, before_last, extended, merged, by_level, by_flag, Said, never, at_level, said, called, one_end, dot_ends}

-- what the next tokens are where the last node may end in a dot
abbrev pub Next : Type 0
Next = List Record → Bool

abbrev pub Implies : Next → Next → Type 0
Implies g h = (rs : List Record) → g rs ≡ true → h rs ≡ true

abbrev pub Never : Next → Type 0
Never g = (rs : List Record) → g rs ≡ false

abbrev pub both : Next → Next → Next
both g h rs = g rs && h rs

abbrev pub but : Next → Next → Next
but g h rs = g rs && not (h rs)

abbrev pub always : Next
always rs = true

-- the dots of a range
abbrev pub at_range : Next
at_range rs = holds is_range rs

-- The script ends so, where at a ranged level this is what comes next if the last node ends in a dot.
pub data Fits : Next → Script Rule → Level → List Bool → (Outcome → Levels → Bool) → Type 0 where
  fits_give : {g : Next} {v : Outcome} {l : Level} {ls : List Bool} {f : Outcome → Levels → Bool} →
      Implies g at_range → f v (levels l ls) ≡ true → Fits g (give v) l ls f
  fits_settled : {g : Next} {v : Outcome} {ls : List Bool} {f : Outcome → Levels → Bool} →
      Never g → f v (levels inside ls) ≡ true → Fits g (give v) ranged ls f
  fits_test : {g : Next} {h : Test} {s t : Script Rule} {l : Level} {ls : List Bool} {f : Outcome → Levels → Bool} →
      Fits (both g (holds h)) s l ls f → Fits (but g (holds h)) t l ls f → Fits g (test h s t) l ls f
  fits_ends_with : {g : Next} {k : ℕ} {s t : Script Rule} {l : Level} {ls : List Bool} {f : Outcome → Levels → Bool} →
      Fits g s l ls f → Fits g t l ls f → Fits g (ends_with k s t) l ls f
  fits_token : {g : Next} {k : ℕ} {s : Script Rule} {l : Level} {ls : List Bool} {f : Outcome → Levels → Bool} →
      Fits at_range s (added l) ls f → Fits g (token k s) l ls f
  fits_any : {g : Next} {s : Script Rule} {l : Level} {ls : List Bool} {f : Outcome → Levels → Bool} →
      Fits at_range s (added l) ls f → Fits g (any s) l ls f
  fits_bear : {g : Next} {k : ℕ} {s : Script Rule} {l : Level} {ls : List Bool} {f : Outcome → Levels → Bool} →
      Fits at_range s (added l) ls f → Fits g (bear k s) l ls f
  fits_report : {g : Next} {bytes : List ℕ} {s : Script Rule} {l : Level} {ls : List Bool}
      {f : Outcome → Levels → Bool} → Fits at_range s (added l) ls f → Fits g (report bytes s) l ls f
  fits_report_next : {g : Next} {bytes : List ℕ} {s : Script Rule} {l : Level} {ls : List Bool}
      {f : Outcome → Levels → Bool} → Fits at_range s (added l) ls f → Fits g (report_next bytes s) l ls f
  fits_skip : {g : Next} {bytes : List ℕ} {s : Script Rule} {l : Level} {ls : List Bool}
      {f : Outcome → Levels → Bool} → Fits at_range s (added l) ls f → Fits g (skip bytes s) l ls f
  fits_start : {g : Next} {s : Script Rule} {l : Level} {ls : List Bool} {f : Outcome → Levels → Bool} →
      Fits at_range s inside (lowered l ∷ ls) f → Fits g (start s) l ls f
  fits_precede : {g : Next} {s : Script Rule} {l : Level} {ls : List Bool} {f : Outcome → Levels → Bool} →
      Fits at_range s free (before_last l ∷ ls) f → Fits g (precede s) l ls f
  fits_finish : {g : Next} {k : ℕ} {s : Script Rule} {l : Level} {c : Bool} {ls : List Bool}
      {f : Outcome → Levels → Bool} → Fits at_range s (raised c) ls f → Fits g (finish k s) l (c ∷ ls) f
  fits_extend : {g : Next} {s : Script Rule} {l : Level} {c : Bool} {ls : List Bool} {f : Outcome → Levels → Bool} →
      Fits g s (extended l c) ls f → Fits g (extend s) l (c ∷ ls) f
  fits_abandon : {g : Next} {s : Script Rule} {l : Level} {c : Bool} {ls : List Bool} {f : Outcome → Levels → Bool} →
      Fits at_range s (merged l c) ls f → Fits g (abandon s) l (c ∷ ls) f
  fits_split : {g : Next} {s t : Script Rule} {l : Level} {ls : List Bool} {f : Outcome → Levels → Bool} →
      Fits always s ranged ls f → Fits at_range t inside ls f → Fits g (split_float s t) l (true ∷ ls) f
  fits_after : {g : Next} {s : Script Rule} {h : Outcome → Script Rule} {l : Level} {ls : List Bool}
      {e f : Outcome → Levels → Bool} → Fits g s l ls e →
      ((v : Outcome) (m : Level) (ms : List Bool) → e v (levels m ms) ≡ true → Fits at_range (h v) m ms f) →
      Fits g (after s h) l ls f
  fits_rule : {g : Next} {c : Rule} {h : Outcome → Script Rule} {l : Level} {ls : List Bool}
      {f : Outcome → Levels → Bool} →
      ((v : Outcome) (m : Level) → said v c ≡ at_level m → Fits at_range (h v) (called l m) ls f) →
      Fits g (rule c h) l ls f
  fits_loop : {g : Next} {h : Bool → Bool → Script Rule} {a b : Bool} {l m : Level} {ls : List Bool}
      {f : Outcome → Levels → Bool} → Implies g at_range → within l m ≡ true →
      ((c d : Bool) → Fits at_range (h c d) m ls (Turned (as_good m ls) f)) → Fits g (loop h a b) l ls f

-- the tests of levels
pub same_level_is : (l m : Level) → same_level l m ≡ true → l ≡ m
same_level_is inside inside h = refl
same_level_is ranged ranged h = refl
same_level_is free free h = refl
same_level_is inside ranged h = absurd cc
same_level_is inside free h = absurd cc
same_level_is ranged inside h = absurd cc
same_level_is ranged free h = absurd cc
same_level_is free inside h = absurd cc
same_level_is free ranged h = absurd cc

same_flag_is : (a b : Bool) → same_flag a b ≡ true → a ≡ b
same_flag_is true true h = refl
same_flag_is true false h = absurd cc
same_flag_is false true h = absurd cc
same_flag_is false false h = refl

pub same_lower_is : (ls ms : List Bool) → same_lower ls ms ≡ true → ls ≡ ms
same_lower_is [] [] h = refl
same_lower_is [] (d ∷ ms) h = absurd cc
same_lower_is (c ∷ ls) [] h = absurd cc
same_lower_is (c ∷ ls) (d ∷ ms) h =
    rw (same_flag_is c d (and_left _ _ h), same_lower_is ls ms (and_right (same_flag c d) _ h)) refl

pub decides : Decides same_levels
decides (levels l ls) (levels m ms) h =
    rw (same_level_is l m (and_left _ _ h), same_lower_is ls ms (and_right (same_level l m) _ h)) refl

pub within_itself : (l : Level) → within l l ≡ true
within_itself inside = refl
within_itself ranged = refl
within_itself free = refl

-- tests that are narrower
pub both_implies : (g h k : Next) → Implies g k → Implies (both g h) k
both_implies g h k i rs e = i rs (and_left (g rs) (h rs) e)

pub but_implies : (g h k : Next) → Implies g k → Implies (but g h) k
but_implies g h k i rs e = i rs (and_left (g rs) (not (h rs)) e)

pub range_implies : Implies at_range at_range
range_implies rs e = e

-- what is computed by a level or a flag is what is computed of it
by_level_is : {A : Type 0} (l : Level) (h : Level → A) → by_level l h ≡ h l
by_level_is inside h = refl
by_level_is ranged h = refl
by_level_is free h = refl

of_level : (f : Outcome → Levels → Bool) (l : Level) (h : Level → List (Ending Levels)) →
    every f (by_level l h) ≡ true → every f (h l) ≡ true
of_level f l h e = rw (by_level_is l h) at e

of_flag : (f : Outcome → Levels → Bool) (c : Bool) (h : Bool → List (Ending Levels)) →
    every f (by_flag c h) ≡ true → every f (h c) ≡ true
of_flag f true h e = e
of_flag f false h e = e

one_end_is : (v : Outcome) (l m : Level) (ls : List Bool) →
    one_end v (at_level m) l ls ≡ ends_in v (levels (called l m) ls) ∷ []
one_end_is v l m ls = by_level_is (called l m) (λ k. ends_in v (levels k ls) ∷ [])

-- what holds of the ends of what follows each of these
abbrev Following : Type 0
Following = Outcome → Levels → List (Ending Levels)

follows_first : (f : Outcome → Levels → Bool) (h : Following) (v : Outcome) (s : Said) (l m : Level) (ls : List Bool)
    (r : List (Ending Levels)) → s ≡ at_level m → every f (gather same_levels h (one_end v s l ls ++ r)) ≡ true →
    every f (h v (levels (called l m) ls)) ≡ true
follows_first f h v s l m ls r i e =
    joined_left same_levels decides f (h v (levels (called l m) ls)) (gather same_levels h r)
    (rw (i, one_end_is v l m ls) at e)

follows_rest : (f : Outcome → Levels → Bool) (h : Following) (v : Outcome) (s : Said) (l : Level) (ls : List Bool)
    (r : List (Ending Levels)) → every f (gather same_levels h (one_end v s l ls ++ r)) ≡ true →
    every f (gather same_levels h r) ≡ true
follows_rest f h v never l ls r e = e
follows_rest f h v (at_level m) l ls r e =
    joined_right same_levels f (h v (levels (called l m) ls)) (gather same_levels h r) (rw (one_end_is v l m ls) at e)

-- the ends of a rule, with what follows them
ruled_on : (f : Outcome → Levels → Bool) (h : Following) (c : Rule) (l : Level) (ls : List Bool) →
    every f (gather same_levels h (one_end nothing (said nothing c) l ls
    ++ (one_end something (said something c) l ls ++ one_end block (said block c) l ls))) ≡ true →
    (v : Outcome) (m : Level) → said v c ≡ at_level m → every f (h v (levels (called l m) ls)) ≡ true
ruled_on f h c l ls e nothing m i =
    follows_first f h nothing (said nothing c) l m ls
    (one_end something (said something c) l ls ++ one_end block (said block c) l ls) i e
ruled_on f h c l ls e something m i =
    follows_first f h something (said something c) l m ls (one_end block (said block c) l ls) i
    (follows_rest f h nothing (said nothing c) l ls
    (one_end something (said something c) l ls ++ one_end block (said block c) l ls) e)
ruled_on f h c l ls e block m i =
    follows_first f h block (said block c) l m ls [] i
    (rw (append-nil (one_end block (said block c) l ls))
    (follows_rest f h something (said something c) l ls (one_end block (said block c) l ls)
    (follows_rest f h nothing (said nothing c) l ls
    (one_end something (said something c) l ls ++ one_end block (said block c) l ls) e)))
ruled_on f h c l ls e (again a b) m i = absurd cc

-- A script ends as is computed.
pub computed : (s : Script Rule) (g : Next) (l : Level) (ls : List Bool) (f : Outcome → Levels → Bool) →
    Implies g at_range → every f (dot_ends s l ls) ≡ true → Fits g s l ls f
computed (give v) g l ls f i e = fits_give i (and_left _ _ e)
computed (test h s t) g l ls f i e =
    fits_test
    (computed s (both g (holds h)) l ls f (both_implies g (holds h) at_range i)
    (joined_left same_levels decides f (dot_ends s l ls) (dot_ends t l ls) e))
    (computed t (but g (holds h)) l ls f (but_implies g (holds h) at_range i)
    (joined_right same_levels f (dot_ends s l ls) (dot_ends t l ls) e))
computed (ends_with k s t) g l ls f i e =
    fits_ends_with
    (computed s g l ls f i (joined_left same_levels decides f (dot_ends s l ls) (dot_ends t l ls) e))
    (computed t g l ls f i (joined_right same_levels f (dot_ends s l ls) (dot_ends t l ls) e))
computed (token k s) g l ls f i e =
    fits_token (computed s at_range (added l) ls f range_implies (of_level f (added l) (λ m. dot_ends s m ls) e))
computed (any s) g l ls f i e =
    fits_any (computed s at_range (added l) ls f range_implies (of_level f (added l) (λ m. dot_ends s m ls) e))
computed (bear k s) g l ls f i e =
    fits_bear (computed s at_range (added l) ls f range_implies (of_level f (added l) (λ m. dot_ends s m ls) e))
computed (report bytes s) g l ls f i e =
    fits_report (computed s at_range (added l) ls f range_implies (of_level f (added l) (λ m. dot_ends s m ls) e))
computed (report_next bytes s) g l ls f i e =
    fits_report_next (computed s at_range (added l) ls f range_implies (of_level f (added l) (λ m. dot_ends s m ls) e))
computed (skip bytes s) g l ls f i e =
    fits_skip (computed s at_range (added l) ls f range_implies (of_level f (added l) (λ m. dot_ends s m ls) e))
computed (start s) g l ls f i e =
    fits_start (computed s at_range inside (lowered l ∷ ls) f range_implies
    (of_flag f (lowered l) (λ c. dot_ends s inside (c ∷ ls)) e))
computed (precede s) g l ls f i e =
    fits_precede (computed s at_range free (before_last l ∷ ls) f range_implies
    (of_flag f (before_last l) (λ c. dot_ends s free (c ∷ ls)) e))
computed (finish k s) g l [] f i e = absurd cc
computed (finish k s) g l (c ∷ ls) f i e =
    fits_finish (computed s at_range (raised c) ls f range_implies (of_level f (raised c) (λ m. dot_ends s m ls) e))
computed (extend s) g l ls f i e = absurd cc
computed (abandon s) g l [] f i e = absurd cc
computed (abandon s) g l (c ∷ ls) f i e =
    fits_abandon (computed s at_range (merged l c) ls f range_implies
    (of_level f (merged l c) (λ m. dot_ends s m ls) e))
computed (split_float s t) g l ls f i e = absurd cc
computed (after s h) g l ls f i e =
    let on : Following = λ v. elim [ levels m ms ↦ dot_ends (h v) m ms ] in
    fits_after (computed s g l ls (Then f on) i (gathered same_levels decides f on (dot_ends s l ls) e))
    (λ v m ms k. computed (h v) at_range m ms f range_implies k)
computed (rule c h) g l ls f i e =
    let on : Following = λ v. elim [ levels m ms ↦ dot_ends (h v) m ms ] in
    fits_rule (λ v m k. computed (h v) at_range (called l m) ls f range_implies (ruled_on f on c l ls e v m k))
computed (loop h a b) g l ls f i e =
    let on : Bool → Bool → List (Ending Levels) = λ c d. dot_ends (h c d) l ls in
    let t = settled (as_good l ls) f (flagged same_levels on) e in
    fits_loop i (within_itself l)
    (λ c d. computed (h c d) at_range l ls (Turned (as_good l ls) f) range_implies
    (of_flags same_levels decides (Turned (as_good l ls) f) on c d t))
