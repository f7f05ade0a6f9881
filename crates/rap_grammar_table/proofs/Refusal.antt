-- What a walk says: that it comes to its end, or where it is refused.
use Rattle.std.specs.Prelude.{ℕ, Bool, true, false, not, ◌||◌, List}
use Rattle.rap_grammar_scripts.specs.Script.{Script, Outcome, give, test, ends_with, token, any, bear, report, report_next, skip, start, precede, finish, extend, abandon, split_float, after, rule, loop}
use Rattle.rap_grammar_scripts.specs.Test.{Test}
use Rattle.rap_grammar_scripts.specs.declared.rule.Rule.{Rule}
use Rattle.rap_grammar_table.proofs.Built.{Built}
use Rattle.rap_grammar_table.specs.Table.{cat, Items, begin, close, piece, repeat, group, folds, unless}

-- the word that a script has next, without what stands after it
pub data Word : Type 0 where
  gives : Outcome → Word
  asks : Test → Word
  asks_what_ended : ℕ → Word
  takes : ℕ → Word
  takes_any : Word
  bears : ℕ → Word
  reports : List ℕ → Word
  reports_next : List ℕ → Word
  skips : List ℕ → Word
  starts : Word
  precedes : Word
  finishes : ℕ → Word
  extends : Word
  abandons : Word
  splits : Word
  calls : Word
  obeys : Rule → Word
  turns : Word

abbrev pub word_of : Script Rule → Word
word_of (give v) = gives v
word_of (test h a b) = asks h
word_of (ends_with kind a b) = asks_what_ended kind
word_of (token kind a) = takes kind
word_of (any a) = takes_any
word_of (bear kind a) = bears kind
word_of (report bytes a) = reports bytes
word_of (report_next bytes a) = reports_next bytes
word_of (skip bytes a) = skips bytes
word_of (start a) = starts
word_of (precede a) = precedes
word_of (finish kind a) = finishes kind
word_of (extend a) = extends
word_of (abandon a) = abandons
word_of (split_float a b) = splits
word_of (after a n) = calls
word_of (rule r n) = obeys r
word_of (loop h a b) = turns

-- Why a walk is refused. The script has this word next, and the row these items. The script ends while this is left of
-- the row, or where the row has built these forests and the script those. It ends with an outcome that is not wanted. A
-- turn goes on with flags that no guess has. The row nests too deep. So where this test is so answered, in a turn with
-- these flags, in what stands after the turns, and in a part that is read alone.
pub data Refusal : Type 0 where
  stopped : Word → Items → Refusal
  left_over : Items → Refusal
  unequal : Built → List Built → Built → List Built → Refusal
  ends_as : Outcome → Refusal
  goes_on_as : Outcome → Refusal
  too_deep : Refusal
  where_so : Test → Bool → Refusal → Refusal
  in_turn : Bool → Bool → Refusal → Refusal
  after_turns : Bool → Bool → Refusal → Refusal
  in_part : Refusal → Refusal

pub data Verdict : Type 0 where
  accepted : Verdict
  refused : Refusal → Verdict

abbrev pub both : Verdict → Verdict → Verdict
both accepted v = v
both (refused r) v = refused r

abbrev pub check : Bool → Refusal → Verdict
check true r = accepted
check false r = refused r

-- where this is so, what comes then
abbrev pub provided : Bool → Refusal → (Unit {0} → Verdict) → Verdict
provided true r f = f tt
provided false r f = refused r

-- where this may be, what comes then
abbrev pub in_case : Bool → (Unit {0} → Verdict) → Verdict
in_case true f = f tt
in_case false f = accepted

abbrev pub by_bool : Bool → (Unit {0} → Verdict) → (Unit {0} → Verdict) → Verdict
by_bool true f g = f tt
by_bool false f g = g tt

-- one verdict, or else another
abbrev pub or_else_so : Verdict → (Unit {0} → Verdict) → (Refusal → Verdict) → Verdict
or_else_so accepted f g = f tt
or_else_so (refused r) f g = g r

-- a refusal is told with where it is
abbrev pub told_with : (Refusal → Refusal) → Verdict → Verdict
told_with f accepted = accepted
told_with f (refused r) = refused (f r)

-- A refusal by which a guess has too few flags or outcomes tells nothing. One where the row goes on with a part or turns
-- that are read as a whole tells only that they were not; so does one at a category, unless a rule is called.
abbrev pub is_call : Word → Bool
is_call (obeys r) = true
is_call w = false

abbrev pub tells_at : Word → Items → Bool
tells_at w (begin is) = tells_at w is
tells_at w (close k is) = tells_at w is
tells_at w (unless h v is) = tells_at w is
tells_at w (repeat a z is) = false
tells_at w (group a is) = false
tells_at w (folds n a is) = false
tells_at w (piece (cat c) is) = is_call w
tells_at w is = true

abbrev pub tells : Refusal → Bool
tells (stopped w is) = tells_at w is
tells (left_over is) = tells_at turns is
tells (unequal a xs b ys) = true
tells (ends_as v) = false
tells (goes_on_as v) = false
tells too_deep = true
tells (where_so h b r) = tells r
tells (in_turn a b r) = tells r
tells (after_turns a b r) = tells r
tells (in_part r) = tells r

-- this verdict, or where it is a refusal the one of two that tells more
abbrev pub by_telling : Bool → Refusal → Refusal → Verdict
by_telling true r s = refused r
by_telling false r s = refused s

abbrev pub or_earlier : Refusal → Verdict → Verdict
or_earlier r accepted = accepted
or_earlier r (refused s) = by_telling (tells s) s r

abbrev pub or_later : Refusal → Verdict → Verdict
or_later r accepted = accepted
or_later r (refused s) = by_telling (tells r || not (tells s)) r s
