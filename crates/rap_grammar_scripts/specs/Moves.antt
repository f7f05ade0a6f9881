-- Whether a script takes a token, computed from the script and the kind of the token that comes next.
use Rattle.std.specs.Prelude.{ℕ, ◌+◌, zero, suc, Bool, true, false, ◌&&◌, ◌||◌, ◌==◌, not, List, [], ◌∷◌, if◌then◌else◌}
use Rattle.rap_base.specs.TokenKind.{EOF, IDENT, SHEBANG}
use Rattle.rap_events.specs.Composite.{parts}
use Rattle.rap_grammar_scripts.specs.Knot.{script_of}
use Rattle.rap_grammar_scripts.specs.Test.{Test, kind_so, word_so, edition_so, comes, borne, negated, also, or_else, told, operator_so}
use Rattle.rap_grammar_scripts.specs.declared.rule.Rule.{Rule}
use Rattle.rap_grammar_scripts.specs.Script.{Script, Outcome, nothing, something, block, again, goes_on, give, test, ends_with, token, any, bear, report, report_next, skip, start, precede, finish, extend, abandon, split_float, after, rule, loop}

-- a test holds, it does not, or the next token's kind does not say
pub data Answer : Type 0 where
  sure : Answer
  never : Answer
  unclear : Answer

abbrev pub of_truth : Bool → Answer
of_truth true = sure
of_truth false = never

abbrev pub perhaps : Bool → Answer
perhaps true = unclear
perhaps false = never

abbrev pub not_so : Answer → Answer
not_so sure = never
not_so never = sure
not_so unclear = unclear

abbrev pub and_so : Answer → Answer → Answer
and_so sure b = b
and_so never b = never
and_so unclear sure = unclear
and_so unclear never = never
and_so unclear unclear = unclear

abbrev pub or_so : Answer → Answer → Answer
or_so sure b = sure
or_so never b = b
or_so unclear sure = sure
or_so unclear never = unclear
or_so unclear unclear = unclear

-- whether an operator with these tokens may come, and whether a token of a kind does
abbrev pub first_so : List ℕ → ℕ → ℕ → Answer
first_so [] j k = of_truth (k == j)
first_so (i ∷ is) j k = perhaps (k == i)

-- what the next token's kind says of a test
abbrev pub judge : Test → ℕ → Answer
judge (kind_so zero f) k = of_truth (f k)
judge (kind_so (suc n) f) k = unclear
judge (word_so n f) k = unclear
judge (edition_so n f) k = unclear
judge (comes zero j) k = first_so (parts j) j k
judge (comes (suc n) j) k = unclear
judge (borne zero j) k = perhaps ((k == j) || ((k == IDENT) || (j == IDENT)))
judge (borne (suc n) j) k = unclear
judge (negated h) k = not_so (judge h k)
judge (also h i) k = and_so (judge h k) (judge i k)
judge (or_else h i) k = or_so (judge h k) (judge i k)
judge (told b) k = of_truth b
judge (operator_so f) k = unclear

-- the way that a test goes, or both
abbrev pub by_answer : Answer → Bool → Bool → Bool
by_answer sure x y = x
by_answer never x y = y
by_answer unclear x y = x && y

-- Where the script takes no token, this holds of its outcome. `t` says the same of the recursive rules.
abbrev pub stays : (Rule → ℕ → (Outcome → Bool) → Bool) → Script Rule → ℕ → (Outcome → Bool) → Bool
stays t (give v) k f = f v
stays t (test h s u) k f = by_answer (judge h k) (stays t s k f) (stays t u k f)
stays t (ends_with j s u) k f = stays t s k f && stays t u k f
stays t (token j s) k f = not (j == EOF)
stays t (any s) k f = true
stays t (bear j s) k f = true
stays t (report bytes s) k f = stays t s k f
stays t (report_next bytes s) k f = stays t s k f
stays t (skip bytes s) k f = not (k == EOF) || stays t s k f
stays t (start s) k f = stays t s k f
stays t (precede s) k f = stays t s k f
stays t (finish j s) k f = stays t s k f
stays t (extend s) k f = stays t s k f
stays t (abandon s) k f = stays t s k f
stays t (split_float s u) k f = true
stays t (after s n) k f = stays t s k (λ v. stays t (n v) k f)
stays t (rule c n) k f = t c k (λ v. stays t (n v) k f)
stays t (loop h a b) k f = stays t (h a b) k (λ v. goes_on v || f v)

-- the same for a recursive rule, as far as so many rules inside one another say
abbrev pub stays_of : ℕ → Rule → ℕ → (Outcome → Bool) → Bool
stays_of zero c k f = false
stays_of (suc m) c k f = stays (stays_of m) (script_of c) k f

-- A rule is begun inside another one only after a token; a script may begin with one.
abbrev pub stays_so : Script Rule → ℕ → (Outcome → Bool) → Bool
stays_so s k f = stays (stays_of 1) s k f

abbrev pub no_outcome : Outcome → Bool
no_outcome v = false

-- it takes a token, whichever way it ends
abbrev pub moves : Script Rule → ℕ → Bool
moves s k = stays_so s k no_outcome

abbrev pub is_nothing : Outcome → Bool
is_nothing nothing = true
is_nothing something = false
is_nothing block = false
is_nothing (again a b) = false

-- it takes a token unless it ends with nothing
abbrev pub moves_unless : Script Rule → ℕ → Bool
moves_unless s k = stays_so s k is_nothing

-- whether something holds of each kind of token, and of the end
abbrev pub up_to : ℕ → (ℕ → Bool) → Bool
up_to zero f = f zero
up_to (suc n) f = f (suc n) && up_to n f

abbrev pub every_kind : (ℕ → Bool) → Bool
every_kind f = up_to SHEBANG f

-- the same for so many kinds from one on
abbrev pub from_on : ℕ → ℕ → (ℕ → Bool) → Bool
from_on a zero f = f a
from_on a (suc n) f = f (a + suc n) && from_on a n f

-- The script takes no token, and this holds of its outcome. `t` says the same of the recursive rules.
abbrev pub rests : (Rule → ℕ → (Outcome → Bool) → Bool) → Script Rule → ℕ → (Outcome → Bool) → Bool
rests t (give v) k f = f v
rests t (test h s u) k f = by_answer (judge h k) (rests t s k f) (rests t u k f)
rests t (ends_with j s u) k f = rests t s k f && rests t u k f
rests t (token j s) k f = false
rests t (any s) k f = false
rests t (bear j s) k f = false
rests t (report bytes s) k f = rests t s k f
rests t (report_next bytes s) k f = rests t s k f
rests t (skip bytes s) k f = (k == EOF) && rests t s k f
rests t (start s) k f = rests t s k f
rests t (precede s) k f = rests t s k f
rests t (finish j s) k f = rests t s k f
rests t (extend s) k f = rests t s k f
rests t (abandon s) k f = rests t s k f
rests t (split_float s u) k f = false
rests t (after s n) k f = rests t s k (λ v. rests t (n v) k f)
rests t (rule c n) k f = t c k (λ v. rests t (n v) k f)
rests t (loop h a b) k f = rests t (h a b) k (λ v. not (goes_on v) && f v)

abbrev pub rests_of : ℕ → Rule → ℕ → (Outcome → Bool) → Bool
rests_of zero c k f = false
rests_of (suc m) c k f = rests (rests_of m) (script_of c) k f

abbrev pub rests_so : Script Rule → ℕ → (Outcome → Bool) → Bool
rests_so s k f = rests (rests_of 1) s k f
