-- A script that is said to take a token takes one.
use Rattle.std.proofs.Common.{◌≡◌, ◌==◌, ◌<◌, ◌≤◌, ◌+◌, nat_lt, ℕ, zero, suc, Bool, true, false, ◌&&◌, ◌||◌, not, List, [], ◌∷◌, length, length-drop, drop, Some, None, if◌then◌else◌, ltb, ltb-true, arith, refl, ap, sym, ◌∙◌, subst, eqb-true, All}
use Rattle.std.proofs.lemmas.Bool.Decides.{nat_tests}
use Rattle.rap_base.specs.TokenKind.{EOF, IDENT, FLOAT_NUMBER, SHEBANG}
use Rattle.rap_base.specs.TokenTests.{is_token}
use Rattle.rap_base.specs.Keyword.{is_keyword}
use Rattle.rap_base.specs.declared.edition.Edition.TheVariants.{Edition2024}
use Rattle.rap_events.specs.Record.{Record, next_kind, joint_at, IsTokenRecord}
use Rattle.rap_events.specs.Composite.{is_at, is_first, width, width_of, parts}
use Rattle.rap_events.specs.Cover.{first_may_bear}
use Rattle.rap_events.specs.State.{with_kind, state, next}
use Rattle.rap_events.specs.declared.parser.Parser.{Parser}
use Rattle.std.proofs.lemmas.List.Elements.{All-drop}
use Rattle.rap_grammar_scripts.specs.Knot.{script_of}
use Rattle.rap_grammar_scripts.specs.declared.rule.Rule.{Rule}
use Rattle.rap_grammar_scripts.specs.Exec.{End, and_on, on_again, turning, looped, exec, run_of}
use Rattle.rap_grammar_scripts.specs.Test.{Test, holds, kind_so, word_so, edition_so, comes, borne, negated, also, or_else, told, operator_so}
use Rattle.rap_grammar_scripts.specs.Script.{Script, Outcome, nothing, something, block, again, goes_on, give, test, ends_with, token, any, bear, report, report_next, skip, start, precede, finish, extend, abandon, split_float, after, rule, loop, last_taken_at}
use Rattle.rap_grammar_scripts.specs.Stand.{Stand, taken, reported, skipped_over, started, preceded, finished, extended, abandoned, split_apart, spot_at}
use Rattle.rap_grammar_scripts.specs.Moves.{Answer, sure, never, unclear, of_truth, perhaps, not_so, and_so, or_so, first_so, judge, by_answer, stays, stays_of, up_to, every_kind, from_on}
use Rattle.rap_grammar_scripts.proofs.Exec.{no_end, by_test, by_end, by_again, first_turn, differs, spot_of, outcome_of}

-- what an answer says of a truth value
abbrev pub Tells : Answer → Bool → Type 0
Tells sure b = b ≡ true
Tells never b = b ≡ false
Tells unclear b = Unit {0}

truth_tells : (b : Bool) → Tells (of_truth b) b
truth_tells true = refl
truth_tells false = refl

none_tells : (b : Bool) → Tells (perhaps b) false
none_tells true = tt
none_tells false = refl

some_tells : (b x : Bool) → Tells (perhaps b) (b && x)
some_tells true x = tt
some_tells false x = refl

same_tells : (b : Bool) → Tells (perhaps b) b
same_tells true = tt
same_tells false = refl

bears_tells : (a b c x y : Bool) → Tells (perhaps (a || (b || c))) (a || ((b && x) || (c && y)))
bears_tells true b c x y = tt
bears_tells false true c x y = tt
bears_tells false false true x y = tt
bears_tells false false false x y = refl

first_tells : (is : List ℕ) (j : ℕ) (rs : List Record) → Tells (first_so is j (next_kind rs)) (is_first is j rs)
first_tells [] j rs = truth_tells (next_kind rs == j)
first_tells (i ∷ is) j [] = none_tells (EOF == i)
first_tells (i ∷ []) j (r ∷ rs) = same_tells (r.kind == i)
first_tells (i ∷ k ∷ is) j (r ∷ rs) = some_tells (r.kind == i) _

bear_tells : (j : ℕ) (rs : List Record) → Tells (judge (borne zero j) (next_kind rs)) (first_may_bear rs j)
bear_tells j [] = none_tells ((EOF == j) || ((EOF == IDENT) || (j == IDENT)))
bear_tells j (r ∷ rs) =
    bears_tells (r.kind == j) (r.kind == IDENT) (j == IDENT) (r.contextual == j) (is_keyword r.kind Edition2024)

not_tells : (a : Answer) (b : Bool) → Tells a b → Tells (not_so a) (not b)
not_tells sure b t = rw t refl
not_tells never b t = rw t refl
not_tells unclear b t = tt

and_tells : (a c : Answer) (b d : Bool) → Tells a b → Tells c d → Tells (and_so a c) (b && d)
and_tells sure c b d t u = rw t u
and_tells never c b d t u = rw t refl
and_tells unclear sure b d t u = tt
and_tells unclear never true d t u = u
and_tells unclear never false d t u = refl
and_tells unclear unclear b d t u = tt

or_tells : (a c : Answer) (b d : Bool) → Tells a b → Tells c d → Tells (or_so a c) (b || d)
or_tells sure c b d t u = rw t refl
or_tells never c b d t u = rw t u
or_tells unclear sure true d t u = refl
or_tells unclear sure false d t u = u
or_tells unclear never b d t u = tt
or_tells unclear unclear b d t u = tt

-- what is judged of a test is so
pub judged : (h : Test) (rs : List Record) → Tells (judge h (next_kind rs)) (holds h rs)
judged (kind_so zero f) rs = truth_tells (f (next_kind rs))
judged (kind_so (suc n) f) rs = tt
judged (word_so n f) rs = tt
judged (edition_so n f) rs = tt
judged (comes zero j) rs = first_tells (parts j) j rs
judged (comes (suc n) j) rs = tt
judged (borne zero j) rs = bear_tells j rs
judged (borne (suc n) j) rs = tt
judged (negated h) rs = not_tells (judge h (next_kind rs)) (holds h rs) (judged h rs)
judged (also h i) rs =
    and_tells (judge h (next_kind rs)) (judge i (next_kind rs)) (holds h rs) (holds i rs) (judged h rs) (judged i rs)
judged (or_else h i) rs =
    or_tells (judge h (next_kind rs)) (judge i (next_kind rs)) (holds h rs) (holds i rs) (judged h rs) (judged i rs)
judged (told b) rs = truth_tells b
judged (operator_so f) rs = tt

-- truth values
pub left_so : (a b : Bool) → a && b ≡ true → a ≡ true
left_so true b h = refl
left_so false b h = absurd cc

pub right_so : (a b : Bool) → a && b ≡ true → b ≡ true
right_so true b h = h
right_so false b h = absurd cc

pub apart : {b : Bool} → b ≡ true → b ≡ false → ⊥
apart h i = let x : true ≡ false = sym h ∙ i in cc

-- the way that a test goes
pub first_way : (a : Answer) (b x y : Bool) → Tells a b → b ≡ true → by_answer a x y ≡ true → x ≡ true
first_way sure b x y t e h = h
first_way never b x y t e h = absurd (apart e t)
first_way unclear b x y t e h = left_so x y h

pub other_way : (a : Answer) (b x y : Bool) → Tells a b → b ≡ false → by_answer a x y ≡ true → y ≡ true
other_way sure b x y t e h = absurd (apart t e)
other_way never b x y t e h = h
other_way unclear b x y t e h = right_so x y h

-- a token was taken, or the tokens are as before and something holds
pub data Stirs (p q : Stand) (b : Bool) : Type 0 where
  stirred : length q.rest < length p.rest → Stirs p q b
  stayed : q.rest ≡ p.rest → b ≡ true → Stirs p q b

-- the tokens that are left are no more
pub record Onward (p q : Stand) : Type 0 where
  pub fewer : length q.rest ≤ length p.rest

-- a token that is taken is one at least
pub wide : (ps : List ℕ) → 1 ≤ width_of ps
wide [] = omega arith
wide (p ∷ ps) = omega arith

pub some_left : (rs : List Record) → (next_kind rs == EOF) ≡ false → 0 < length rs
some_left [] h = absurd (apart refl h)
some_left (r ∷ rs) h = omega arith

none_begins : (ps : List ℕ) (k : ℕ) → is_first ps k [] ≡ true → (k == EOF) ≡ true
none_begins [] k h = grind (arith, nat_tests)
none_begins (p ∷ ps) k h = absurd cc

pub at_some : (rs : List Record) (k : ℕ) → is_at k rs ≡ true → (k == EOF) ≡ false → 0 < length rs
at_some [] k h e = absurd (apart (none_begins (parts k) k h) e)
at_some (r ∷ rs) k h e = omega arith

pub bear_some : (rs : List Record) (k : ℕ) → first_may_bear rs k ≡ true → 0 < length rs
bear_some [] k h = absurd cc
bear_some (r ∷ rs) k h = omega arith

pub float_some : (rs : List Record) → (next_kind rs == FLOAT_NUMBER) ≡ true → 0 < length rs
float_some [] h = absurd cc
float_some (r ∷ rs) h = omega arith

-- onward behind another way
behind : {p q : Stand} (n : ℕ) (r : Stand) → r.rest ≡ drop n p.rest → Onward r q → Onward p q
behind {p = p} {q = q} n r e h =
    record { fewer = omega (arith, h.fewer, ap (λ (x : List Record). length x) e, length-drop n p.rest) }

onward_on : {p r q : Stand} → Onward p r → Onward r q → Onward p q
onward_on h i = record { fewer = omega (arith, h.fewer, i.fewer) }

turns_onward : (f : Bool → Bool → Stand → End) →
    ((a b : Bool) (p q : Stand) (v : Outcome) → f a b p ≡ Some (q, v) → Onward p q) → (k : ℕ) (a b : Bool) (p q : Stand)
    (v : Outcome) → turning k f a b p ≡ Some (q, v) → Onward p q
unfolding turning
turns_onward f i zero a b p q v e = no_end e
turns_onward f i (suc k) a b p q v e =
    by_again (f a b p) (λ c d r. if ltb (length r.rest) (length p.rest) then turning k f c d r else None) (q, v) e
    (λ w r g l m. rw (sym (ap (spot_of p) m)) (i a b p r w g))
    (λ c d r g m.
    by_test (ltb (length r.rest) (length p.rest)) (turning k f c d r) None (q, v) m
    (λ l n. onward_on (i a b p r (again c d) g) (turns_onward f i k c d r q v n)) (λ l n. no_end n))

-- A script goes on, if the rules that it calls do.
pub onward : {P : Type 0} (o : P → Stand → End) →
    ((c : P) (p q : Stand) (v : Outcome) → o c p ≡ Some (q, v) → Onward p q) → (s : Script P) (p q : Stand)
    (v : Outcome) → exec o s p ≡ Some (q, v) → Onward p q
unfolding looped
onward o u (give w) p q v e = rw (sym (ap (spot_of p) e)) (record { fewer = omega arith })
onward o u (test h s t) p q v e =
    by_test (holds h p.rest) (exec o s p) (exec o t p) (q, v) e (λ b f. onward o u s p q v f)
    (λ b f. onward o u t p q v f)
onward o u (ends_with k s t) p q v e =
    by_test (last_taken_at (spot_at p) == k) (exec o s p) (exec o t p) (q, v) e (λ b f. onward o u s p q v f)
    (λ b f. onward o u t p q v f)
onward o u (token k s) p q v e =
    by_test (is_at k p.rest) (exec o s (taken k (width k) p)) None (q, v) e
    (λ b f. behind (width k) (taken k (width k) p) refl (onward o u s (taken k (width k) p) q v f)) (λ b f. no_end f)
onward o u (any s) p q v e =
    by_test (next_kind p.rest == EOF) None (exec o s (taken (next_kind p.rest) 1 p)) (q, v) e (λ b f. no_end f)
    (λ b f. behind 1 (taken (next_kind p.rest) 1 p) refl (onward o u s (taken (next_kind p.rest) 1 p) q v f))
onward o u (bear k s) p q v e =
    by_test (first_may_bear p.rest k) (exec o s (taken k 1 p)) None (q, v) e
    (λ b f. behind 1 (taken k 1 p) refl (onward o u s (taken k 1 p) q v f)) (λ b f. no_end f)
onward o u (report bytes s) p q v e = behind 0 (reported bytes p) refl (onward o u s (reported bytes p) q v e)
onward o u (report_next bytes s) p q v e =
    behind 0 (reported (with_kind bytes (next_kind p.rest)) p) refl
    (onward o u s (reported (with_kind bytes (next_kind p.rest)) p) q v e)
onward o u (skip bytes s) p q v e = behind 1 (skipped_over bytes p) refl (onward o u s (skipped_over bytes p) q v e)
onward o u (start s) p q v e = behind 0 (started p) refl (onward o u s (started p) q v e)
onward o u (precede s) p q v e = behind 0 (preceded p) refl (onward o u s (preceded p) q v e)
onward o u (finish k s) p q v e = behind 0 (finished k p) refl (onward o u s (finished k p) q v e)
onward o u (extend s) p q v e = behind 0 (extended p) refl (onward o u s (extended p) q v e)
onward o u (abandon s) p q v e = behind 0 (abandoned p) refl (onward o u s (abandoned p) q v e)
onward o u (split_float s t) p q v e =
    by_test (next_kind p.rest == FLOAT_NUMBER)
    (if joint_at p.rest 0 then exec o t (split_apart false p) else exec o s (split_apart true p)) None (q, v) e
    (λ b f.
    by_test (joint_at p.rest 0) (exec o t (split_apart false p)) (exec o s (split_apart true p)) (q, v) f
    (λ j g. behind 1 (split_apart false p) refl (onward o u t (split_apart false p) q v g))
    (λ j g. behind 1 (split_apart true p) refl (onward o u s (split_apart true p) q v g)))
    (λ b f. no_end f)
onward o u (after s n) p q v e =
    by_end (exec o s p) (λ w r. exec o (n w) r) (q, v) e
    (λ w r f g. onward_on (onward o u s p r w f) (onward o u (n w) r q v g))
onward o u (rule c n) p q v e =
    by_end (o c p) (λ w r. exec o (n w) r) (q, v) e
    (λ w r f g. onward_on (u c p r w f) (onward o u (n w) r q v g))
onward o u (loop h a b) p q v e =
    turns_onward (λ c d r. exec o (h c d) r) (λ c d. onward o u (h c d)) (suc (length p.rest)) a b p q v e

pub rules_onward : (n : ℕ) (c : Rule) (p q : Stand) (v : Outcome) → run_of n c p ≡ Some (q, v) → Onward p q
rules_onward zero c p q v e = no_end e
rules_onward (suc n) c p q v e = onward (run_of n) (rules_onward n) (script_of c) p q v e

-- one more token
stirred_behind : {p q : Stand} {b : Bool} (n : ℕ) (r : Stand) → r.rest ≡ drop n p.rest → 1 ≤ n → 0 < length p.rest →
    Onward r q → Stirs p q b
stirred_behind {p = p} {q = q} n r e i l h =
    stirred (omega (arith, i, l, h.fewer, ap (λ (x : List Record). length x) e, length-drop n p.rest))

-- the same tokens
from_same : {p q : Stand} {b : Bool} (r : Stand) → r.rest ≡ p.rest → Stirs r q b → Stirs p q b
from_same {p = p} {q = q} {b = b} r e (stirred l) =
    stirred (subst (λ (x : List Record). length q.rest < length x) e l)
from_same r e (stayed h i) = stayed (h ∙ e) i

from_start : {p q : Stand} {b : Bool} (r : Stand) → r.rest ≡ drop 0 p.rest → Stirs r q b → Stirs p q b
from_start r e h = from_same r e h

-- what holds after the way before
stirs_on : {p r q : Stand} {b c : Bool} → Stirs p r b → Onward r q → (r.rest ≡ p.rest → b ≡ true → Stirs r q c) →
    Stirs p q c
stirs_on {p = p} {q = q} (stirred l) h k = stirred (omega (arith, l, h.fewer))
stirs_on {r = r} (stayed e i) h k = from_same r e (k e i)

-- one or the other
by_or : {A : Type 0} (b x : Bool) → not b || x ≡ true → (b ≡ false → A) → (x ≡ true → A) → A
by_or true x h f g = g h
by_or false x h f g = f refl

-- what a rule's table says is so
abbrev pub StaysBy : {P : Type 0} → (P → Stand → End) → (P → ℕ → (Outcome → Bool) → Bool) → Type 0
StaysBy {P = P} o t =
    (c : P) (p q : Stand) (v : Outcome) (f : Outcome → Bool) → o c p ≡ Some (q, v) → t c (next_kind p.rest) f ≡ true →
    Stirs p q (f v)

-- the last turn of a loop ends it
last_so : (v : Outcome) (b : Bool) → goes_on v ≡ false → goes_on v || b ≡ true → b ≡ true
last_so nothing b h e = e
last_so something b h e = e
last_so block b h e = e
last_so (again c d) b h e = absurd (apart refl h)

not_so_true : (b : Bool) → not b ≡ true → b ≡ false
not_so_true true h = absurd cc
not_so_true false h = refl

-- a token comes next, or none does and none is skipped
by_next : {A : Type 0} (rs : List Record) → (0 < length rs → A) → (drop 1 rs ≡ rs → A) → A
by_next [] f g = g refl
by_next (r ∷ rs) f g = f (omega arith)

-- another end of the way, or another outcome
from_end : {p q r : Stand} {b : Bool} → q ≡ r → Stirs p r b → Stirs p q b
from_end {p = p} {b = b} e h = subst (λ (x : Stand). Stirs p x b) (sym e) h

last_of : {p r : Stand} (w : Outcome) (b : Bool) → goes_on w ≡ false → Stirs p r (goes_on w || b) → Stirs p r b
last_of w b h (stirred l) = stirred l
last_of w b h (stayed e i) = stayed e (last_so w b h i)

fewer_on : {p r q : Stand} {b : Bool} → length r.rest < length p.rest → Onward r q → Stirs p q b
fewer_on l h = stirred (omega (arith, l, h.fewer))

-- A script takes a token, or what is said of its outcome where it takes none is so.
pub stirs : (o : Rule → Stand → End) (t : Rule → ℕ → (Outcome → Bool) → Bool) →
    ((c : Rule) (p q : Stand) (v : Outcome) → o c p ≡ Some (q, v) → Onward p q) → StaysBy o t → (s : Script Rule)
    (p q : Stand) (v : Outcome) (f : Outcome → Bool) → exec o s p ≡ Some (q, v) → stays t s (next_kind p.rest) f ≡ true →
    Stirs p q (f v)
unfolding looped turning
stirs o t i u (give w) p q v f e h =
    stayed (sym (ap (λ (x : End). (spot_of p x).rest) e)) (subst (λ (x : Outcome). f x ≡ true) (ap outcome_of e) h)
stirs o t i u (test c s z) p q v f e h =
    by_test (holds c p.rest) (exec o s p) (exec o z p) (q, v) e
    (λ b g.
    stirs o t i u s p q v f g
    (first_way (judge c (next_kind p.rest)) (holds c p.rest) (stays t s (next_kind p.rest) f)
    (stays t z (next_kind p.rest) f) (judged c p.rest) b h))
    (λ b g.
    stirs o t i u z p q v f g
    (other_way (judge c (next_kind p.rest)) (holds c p.rest) (stays t s (next_kind p.rest) f)
    (stays t z (next_kind p.rest) f) (judged c p.rest) b h))
stirs o t i u (ends_with k s z) p q v f e h =
    by_test (last_taken_at (spot_at p) == k) (exec o s p) (exec o z p) (q, v) e
    (λ b g. stirs o t i u s p q v f g (left_so (stays t s (next_kind p.rest) f) _ h))
    (λ b g. stirs o t i u z p q v f g (right_so (stays t s (next_kind p.rest) f) _ h))
stirs o t i u (token k s) p q v f e h =
    by_test (is_at k p.rest) (exec o s (taken k (width k) p)) None (q, v) e
    (λ b g.
    stirred_behind (width k) (taken k (width k) p) refl (wide (parts k))
    (at_some p.rest k b (not_so_true (k == EOF) h)) (onward o i s (taken k (width k) p) q v g))
    (λ b g. no_end g)
stirs o t i u (any s) p q v f e h =
    by_test (next_kind p.rest == EOF) None (exec o s (taken (next_kind p.rest) 1 p)) (q, v) e (λ b g. no_end g)
    (λ b g.
    stirred_behind 1 (taken (next_kind p.rest) 1 p) refl (omega arith) (some_left p.rest b)
    (onward o i s (taken (next_kind p.rest) 1 p) q v g))
stirs o t i u (bear k s) p q v f e h =
    by_test (first_may_bear p.rest k) (exec o s (taken k 1 p)) None (q, v) e
    (λ b g.
    stirred_behind 1 (taken k 1 p) refl (omega arith) (bear_some p.rest k b) (onward o i s (taken k 1 p) q v g))
    (λ b g. no_end g)
stirs o t i u (report bytes s) p q v f e h = from_start (reported bytes p) refl (stirs o t i u s (reported bytes p) q v f e h)
stirs o t i u (report_next bytes s) p q v f e h =
    from_start (reported (with_kind bytes (next_kind p.rest)) p) refl
    (stirs o t i u s (reported (with_kind bytes (next_kind p.rest)) p) q v f e h)
stirs o t i u (skip bytes s) p q v f e h =
    by_next p.rest
    (λ l.
    stirred_behind 1 (skipped_over bytes p) refl (omega arith) l (onward o i s (skipped_over bytes p) q v e))
    (λ z.
    by_or (next_kind p.rest == EOF) (stays t s (next_kind p.rest) f) h
    (λ b.
    stirred_behind 1 (skipped_over bytes p) refl (omega arith) (some_left p.rest b)
    (onward o i s (skipped_over bytes p) q v e))
    (λ x. from_same (skipped_over bytes p) z (stirs o t i u s (skipped_over bytes p) q v f e (rw z x))))
stirs o t i u (start s) p q v f e h = from_start (started p) refl (stirs o t i u s (started p) q v f e h)
stirs o t i u (precede s) p q v f e h = from_start (preceded p) refl (stirs o t i u s (preceded p) q v f e h)
stirs o t i u (finish k s) p q v f e h = from_start (finished k p) refl (stirs o t i u s (finished k p) q v f e h)
stirs o t i u (extend s) p q v f e h = from_start (extended p) refl (stirs o t i u s (extended p) q v f e h)
stirs o t i u (abandon s) p q v f e h = from_start (abandoned p) refl (stirs o t i u s (abandoned p) q v f e h)
stirs o t i u (split_float s z) p q v f e h =
    by_test (next_kind p.rest == FLOAT_NUMBER)
    (if joint_at p.rest 0 then exec o z (split_apart false p) else exec o s (split_apart true p)) None (q, v) e
    (λ b g.
    by_test (joint_at p.rest 0) (exec o z (split_apart false p)) (exec o s (split_apart true p)) (q, v) g
    (λ j x.
    stirred_behind 1 (split_apart false p) refl (omega arith) (float_some p.rest b)
    (onward o i z (split_apart false p) q v x))
    (λ j x.
    stirred_behind 1 (split_apart true p) refl (omega arith) (float_some p.rest b)
    (onward o i s (split_apart true p) q v x)))
    (λ b g. no_end g)
stirs o t i u (after s n) p q v f e h =
    by_end (exec o s p) (λ w r. exec o (n w) r) (q, v) e
    (λ w r g x.
    stirs_on (stirs o t i u s p r w (λ y. stays t (n y) (next_kind p.rest) f) g h) (onward o i (n w) r q v x)
    (λ a b. stirs o t i u (n w) r q v f x (rw a b)))
stirs o t i u (rule c n) p q v f e h =
    by_end (o c p) (λ w r. exec o (n w) r) (q, v) e
    (λ w r g x.
    stirs_on (u c p r w (λ y. stays t (n y) (next_kind p.rest) f) g h) (onward o i (n w) r q v x)
    (λ a b. stirs o t i u (n w) r q v f x (rw a b)))
stirs o t i u (loop l a b) p q v f e h =
    by_again (exec o (l a b) p)
    (λ c d r.
    if ltb (length r.rest) (length p.rest) then turning (length p.rest) (λ c d q. exec o (l c d) q) c d r else None)
    (q, v) e
    (λ w r g x y.
    rw (← (ap outcome_of y))
    (from_end (sym (ap (spot_of p) y)) (last_of w (f w) x
    (stirs o t i u (l a b) p r w (λ z. goes_on z || f z) g h))))
    (λ c d r g x.
    by_test (ltb (length r.rest) (length p.rest)) (turning (length p.rest) (λ c d q. exec o (l c d) q) c d r) None (q, v) x
    (λ y z.
    fewer_on (ltb-true (length r.rest) (length p.rest) y)
    (turns_onward (λ c d q. exec o (l c d) q) (λ c d. onward o i (l c d)) (length p.rest) c d r q v z))
    (λ y z. no_end z))

-- what a recursive rule is said to do it does
pub rules_stir : (m n : ℕ) → StaysBy (run_of n) (stays_of m)
rules_stir zero n c p q v f e h = absurd cc
rules_stir (suc m) zero c p q v f e h = no_end e
rules_stir (suc m) (suc n) c p q v f e h =
    stirs (run_of n) (stays_of m) (rules_onward n) (rules_stir m n) (script_of c) p q v f e h

-- what holds of each kind
last_or : (f : ℕ → Bool) (n k : ℕ) (b : Bool) → (k == suc n) ≡ b → (f (suc n) && up_to n f) ≡ true →
    ((k == suc n) ≡ false → f k ≡ true) → f k ≡ true
last_or f n k true e h i = rw (eqb-true k (suc n) e) (left_so (f (suc n)) (up_to n f) h)
last_or f n k false e h i = i e

up_so : (n : ℕ) (f : ℕ → Bool) (k : ℕ) → up_to n f ≡ true → k ≤ n → f k ≡ true
up_so zero f k h l = let e : k ≡ 0 = omega (arith, l) in rw e h
up_so (suc n) f k h l =
    last_or f n k (k == suc n) refl h (λ e. up_so n f k (right_so (f (suc n)) (up_to n f) h) (grind (arith, nat_tests)))

pub of_every : (f : ℕ → Bool) (k : ℕ) → every_kind f ≡ true → is_token k ≡ true → f k ≡ true
of_every f k h t = up_so SHEBANG f k h (grind (arith, nat_tests))

first_token : (rs : List Record) → All IsTokenRecord rs → is_token (next_kind rs) ≡ true
first_token [] h = refl
first_token (r ∷ rs) h = (h zero r (omega arith)).token

-- the next token of a parser is of a kind of tokens, or the end
pub next_token : (p : Parser) → is_token (next (state p)) ≡ true
unfolding state
next_token p = first_token (drop p.pos p.input.now) (All-drop IsTokenRecord p.pos p.input.now p.tokens)

-- four parts of the kinds are all of them
from_so : (a n : ℕ) (f : ℕ → Bool) (k : ℕ) → from_on a n f ≡ true → a ≤ k → k ≤ a + n → f k ≡ true
from_so a zero f k h i l = let e : k ≡ a = omega (arith, i, l) in rw e h
from_so a (suc n) f k h i l =
    part_or f a n k (k == a + suc n) refl h
    (λ e. from_so a n f k (right_so (f (a + suc n)) (from_on a n f) h) i (below_last a n k l e)) where
      below_last : (a n k : ℕ) → k ≤ a + suc n → (k == a + suc n) ≡ false → k ≤ a + n
      below_last a n k l e = grind (arith, nat_tests)

      part_or : (f : ℕ → Bool) (a n k : ℕ) (b : Bool) → (k == a + suc n) ≡ b →
          (f (a + suc n) && from_on a n f) ≡ true → ((k == a + suc n) ≡ false → f k ≡ true) → f k ≡ true
      part_or f a n k true e h i = rw (eqb-true k (a + suc n) e) (left_so (f (a + suc n)) (from_on a n f) h)
      part_or f a n k false e h i = i e

pub in_parts : (f : ℕ → Bool) → from_on 0 39 f ≡ true → from_on 40 39 f ≡ true → from_on 80 39 f ≡ true →
    from_on 120 36 f ≡ true → (k : ℕ) → is_token k ≡ true → f k ≡ true
in_parts f a b c d k t = by_less (nat_lt k 40) (nat_lt k 80) (nat_lt k 120) refl refl refl where
  by_less : (x y z : Bool) → nat_lt k 40 ≡ x → nat_lt k 80 ≡ y → nat_lt k 120 ≡ z → f k ≡ true
  by_less true y z e i j = from_so 0 39 f k a (omega arith) (grind (arith, nat_tests))
  by_less false true z e i j = from_so 40 39 f k b (grind (arith, nat_tests)) (grind (arith, nat_tests))
  by_less false false true e i j = from_so 80 39 f k c (grind (arith, nat_tests)) (grind (arith, nat_tests))
  by_less false false false e i j = from_so 120 36 f k d (grind (arith, nat_tests)) (grind (arith, nat_tests))
