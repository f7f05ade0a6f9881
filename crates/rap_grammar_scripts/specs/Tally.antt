-- What a script does by its outcome, computed from the script in some measure: of events, of messages, of open nodes.
use Rattle.std.specs.Prelude.{Bool, true, false, ◌&&◌, ◌==◌, List, [], ◌∷◌, ◌++◌, Option, Some, None, if◌then◌else◌}
use Rattle.rap_base.specs.TokenKind.{EOF}
use Rattle.rap_grammar_scripts.specs.declared.rule.Rule.{Rule}
use Rattle.rap_grammar_scripts.specs.Script.{Script, Outcome, nothing, something, block, again, give, test, ends_with, token, any, bear, report, report_next, skip, start, precede, finish, extend, abandon, split_float, after, rule, loop}

-- A measure: of nothing done, and of each word (a token that is the end may be none); of one thing after another, of one
-- thing or the other, and of turns of a loop, each of which is so and takes a token.
pub record Measure (D : Type 0) : Type 0 where
  pub idle : D
  pub takes : D
  pub takes_end : D
  pub reports : D
  pub skips : D
  pub opens : D
  pub closes : D
  pub splits : Bool → D
  pub and_then : D → D → D
  pub either : D → D → D
  pub turns : D → D

abbrev pub same_flag : Bool → Bool → Bool
same_flag true b = b
same_flag false true = false
same_flag false false = true

abbrev pub same_outcome : Outcome → Outcome → Bool
same_outcome nothing nothing = true
same_outcome something something = true
same_outcome block block = true
same_outcome (again a b) (again c d) = same_flag a c && same_flag b d
same_outcome v w = false

-- the outcomes with their measures, each outcome once
abbrev pub put : {D : Type 0} → Measure D → Outcome → D → List (Outcome × D) → List (Outcome × D)
put m v x [] = (v, x) ∷ []
put m v x (e ∷ l) = if same_outcome v e.0 then (e.0, m.either x e.1) ∷ l else e ∷ put m v x l

abbrev pub pool : {D : Type 0} → Measure D → List (Outcome × D) → List (Outcome × D) → List (Outcome × D)
pool m [] k = k
pool m (e ∷ l) k = put m e.0 e.1 (pool m l k)

-- the same behind something
abbrev pub behind : {D : Type 0} → Measure D → D → List (Outcome × D) → List (Outcome × D)
behind m x [] = []
behind m x (e ∷ l) = (e.0, m.and_then x e.1) ∷ behind m x l

-- what comes after each outcome
abbrev pub gather : {D : Type 0} → Measure D → (Outcome → List (Outcome × D)) → List (Outcome × D) → List (Outcome × D)
gather m f [] = []
gather m f (e ∷ l) = pool m (behind m e.1 (f e.0)) (gather m f l)

-- the last turns of a loop, and those that go on
abbrev pub last_or : {D : Type 0} → Outcome → D → List (Outcome × D) → List (Outcome × D)
last_or nothing x l = (nothing, x) ∷ l
last_or something x l = (something, x) ∷ l
last_or block x l = (block, x) ∷ l
last_or (again a b) x l = l

abbrev pub last_turns : {D : Type 0} → List (Outcome × D) → List (Outcome × D)
last_turns [] = []
last_turns (e ∷ l) = last_or e.0 e.1 (last_turns l)

abbrev pub either_turn : {D : Type 0} → Measure D → D → Option D → Option D
either_turn m x None = Some x
either_turn m x (Some y) = Some (m.either x y)

abbrev pub turn_or : {D : Type 0} → Measure D → Outcome → D → Option D → Option D
turn_or m nothing x o = o
turn_or m something x o = o
turn_or m block x o = o
turn_or m (again a b) x o = either_turn m x o

abbrev pub other_turns : {D : Type 0} → Measure D → List (Outcome × D) → Option D
other_turns m [] = None
other_turns m (e ∷ l) = turn_or m e.0 e.1 (other_turns m l)

-- a loop by its turns: the last one alone, or after others
abbrev pub with_turns : {D : Type 0} → Measure D → Option D → List (Outcome × D) → List (Outcome × D)
with_turns m None l = l
with_turns m (Some x) l = pool m l (behind m (m.turns x) l)

abbrev pub turned : {D : Type 0} → Measure D → List (Outcome × D) → List (Outcome × D)
turned m l = with_turns m (other_turns m l) (last_turns l)

-- the turns with any flags
abbrev pub any_flags : {D : Type 0} → Measure D → (Bool → Bool → List (Outcome × D)) → List (Outcome × D)
any_flags m f = pool m (pool m (f true true) (f true false)) (pool m (f false true) (f false false))

-- what a script does, by its outcome; `t` has the same of the recursive rules
abbrev pub tally : {D : Type 0} → Measure D → (Rule → List (Outcome × D)) → Script Rule → List (Outcome × D)
tally m t (give v) = (v, m.idle) ∷ []
tally m t (test h s u) = pool m (tally m t s) (tally m t u)
tally m t (ends_with k s u) = pool m (tally m t s) (tally m t u)
tally m t (token k s) = behind m (if k == EOF then m.takes_end else m.takes) (tally m t s)
tally m t (any s) = behind m m.takes (tally m t s)
tally m t (bear k s) = behind m m.takes (tally m t s)
tally m t (report bytes s) = behind m m.reports (tally m t s)
tally m t (report_next bytes s) = behind m m.reports (tally m t s)
tally m t (skip bytes s) = behind m m.skips (tally m t s)
tally m t (start s) = behind m m.opens (tally m t s)
tally m t (precede s) = behind m m.opens (tally m t s)
tally m t (finish k s) = behind m m.closes (tally m t s)
tally m t (extend s) = behind m m.closes (tally m t s)
tally m t (abandon s) = behind m m.closes (tally m t s)
tally m t (split_float s u) = pool m (behind m (m.splits true) (tally m t s)) (behind m (m.splits false) (tally m t u))
tally m t (after s n) = gather m (λ v. tally m t (n v)) (tally m t s)
tally m t (rule c n) = gather m (λ v. tally m t (n v)) (t c)
tally m t (loop h a b) = turned m (any_flags m (λ c d. tally m t (h c d)))

-- whether each outcome's measure says what another table does of that outcome
abbrev pub says_one : {D : Type 0} → (D → D → Bool) → Outcome → D → List (Outcome × D) → Bool
says_one says v x [] = false
says_one says v x (e ∷ l) = if same_outcome v e.0 then says x e.1 else says_one says v x l

abbrev pub within : {D : Type 0} → (D → D → Bool) → List (Outcome × D) → List (Outcome × D) → Bool
within says [] k = true
within says (e ∷ l) k = says_one says e.0 e.1 k && within says l k

-- whether something holds of the measure of an outcome, and of any outcome's
abbrev pub holds_at : {D : Type 0} → (D → Bool) → Outcome → List (Outcome × D) → Bool
holds_at f v [] = true
holds_at f v (e ∷ l) = (if same_outcome v e.0 then f e.1 else true) && holds_at f v l

abbrev pub holds_always : {D : Type 0} → (D → Bool) → List (Outcome × D) → Bool
holds_always f [] = true
holds_always f (e ∷ l) = f e.1 && holds_always f l
