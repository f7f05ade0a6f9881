-- What is known of the tokens says of a test what is so.
use Rattle.std.proofs.Common.{◌≡◌, ℕ, zero, suc, Bool, true, false, ◌&&◌, ◌||◌, ◌==◌, not, List, [], ◌∷◌, ◌++◌, drop, Option, Some, None, refl, sym, ◌∙◌, subst, arith, if◌then◌else◌}
use Rattle.std.proofs.lemmas.Bool.Decides.{nat_tests}
use Rattle.rap_base.specs.Keyword.{is_keyword}
use Rattle.rap_base.specs.TokenKind.{EOF, IDENT}
use Rattle.rap_base.specs.declared.edition.Edition.TheVariants.{Edition2024}
use Rattle.rap_events.proofs.Truth.{and_left, and_right}
use Rattle.rap_events.specs.Composite.{parts, begins_with, is_first}
use Rattle.rap_events.specs.Cover.{first_may_bear}
use Rattle.rap_events.specs.OperatorTable.{operators}
use Rattle.rap_events.specs.Record.{Record, next_kind, kind_at, contextual_at, joint_at}
use Rattle.rap_grammar_scripts.specs.Operator.{goes_on_with, first_of, operator_in, operator_at}
use Rattle.rap_grammar_scripts.specs.Test.{Test, kind_so, word_so, edition_so, comes, borne, negated, also, or_else, told, operator_so, holds, kind_after}
use Rattle.rap_grammar_table.specs.Known.{Answer, sure, never, unclear, Place, place_at, among, within, agrees, Fits, Shows, Sees, this_way, later_way, every_one}
use Rattle.rap_grammar_table.proofs.Evaluate.{judged, decided, not_so, and_so, or_so, and_then, or_then, of_truth, where_sure, is_kind, begin_so, comes_so, borne_so, and_more, goes_so, operators_begun, operators_at, operators_of, operators_known, evaluate, either_so, evaluate_all, says_of, says_so, says_place, says_one, says_some, says}

pub same_number : (j k : ℕ) → (j == k) ≡ true → j ≡ k
same_number j k h = grind (arith, nat_tests)

pub by_or : {A : Type 0} (a b : Bool) → (a || b) ≡ true → (a ≡ true → A) → (b ≡ true → A) → A
by_or true b h f g = f refl
by_or false b h f g = g h

pub not_true : (b : Bool) → not b ≡ true → b ≡ false
not_true true h = absurd cc
not_true false h = refl

pub every_so : (f : ℕ → Bool) (ks : List ℕ) (k : ℕ) → every_one f ks ≡ true → among ks k ≡ true → f k ≡ true
every_so f [] k e m = absurd cc
every_so f (j ∷ js) k e m =
    by_or (j == k) (among js k) m
    (λ h. subst (λ (n : ℕ). f n ≡ true) (same_number j k h) (and_left (f j) (every_one f js) e))
    (λ h. every_so f js k (and_right (f j) (every_one f js) e) h)

agrees_judged : (x a b : Bool) → (a ≡ true → x ≡ true) → (b ≡ true → not x ≡ true) → agrees (judged a b) x ≡ true
agrees_judged x true b p q = p refl
agrees_judged x false true p q = q refl
agrees_judged x false false p q = refl

agrees_decided : (f : ℕ → Bool) (o : Option (List ℕ)) (k : ℕ) → within o k ≡ true → agrees (decided f o) (f k) ≡ true
agrees_decided f None k w = refl
agrees_decided f (Some ks) k w =
    agrees_judged (f k) (every_one f ks) (every_one (λ k. not (f k)) ks) (λ e. every_so f ks k e w)
    (λ e. every_so (λ k. not (f k)) ks k e w)

agrees_not : (a : Answer) (x : Bool) → agrees a x ≡ true → agrees (not_so a) (not x) ≡ true
agrees_not sure true p = refl
agrees_not sure false p = absurd cc
agrees_not never x p = p
agrees_not unclear x p = refl

agrees_and : (a b : Answer) (x y : Bool) → agrees a x ≡ true → agrees b y ≡ true → agrees (and_so a b) (x && y) ≡ true
agrees_and sure b true y p q = q
agrees_and sure b false y p q = absurd cc
agrees_and never b true y p q = absurd cc
agrees_and never b false y p q = refl
agrees_and unclear sure x y p q = refl
agrees_and unclear never true y p q = q
agrees_and unclear never false y p q = refl
agrees_and unclear unclear x y p q = refl

agrees_or : (a b : Answer) (x y : Bool) → agrees a x ≡ true → agrees b y ≡ true → agrees (or_so a b) (x || y) ≡ true
agrees_or sure b true y p q = refl
agrees_or sure b false y p q = absurd cc
agrees_or never b true y p q = absurd cc
agrees_or never b false y p q = q
agrees_or unclear sure true y p q = refl
agrees_or unclear sure false y p q = q
agrees_or unclear never x y p q = refl
agrees_or unclear unclear x y p q = refl

agrees_and_then : (a b : Answer) (x y : Bool) → agrees a x ≡ true → agrees b y ≡ true →
    agrees (and_then a (λ u. b)) (x && y) ≡ true
agrees_and_then sure b x y p q = agrees_and sure b x y p q
agrees_and_then never b x y p q = agrees_and never b x y p q
agrees_and_then unclear b x y p q = agrees_and unclear b x y p q

agrees_or_then : (a b : Answer) (x y : Bool) → agrees a x ≡ true → agrees b y ≡ true →
    agrees (or_then a (λ u. b)) (x || y) ≡ true
agrees_or_then sure b x y p q = agrees_or sure b x y p q
agrees_or_then never b x y p q = agrees_or never b x y p q
agrees_or_then unclear b x y p q = agrees_or unclear b x y p q

pub agrees_truth : (b : Bool) → agrees (of_truth b) b ≡ true
agrees_truth true = refl
agrees_truth false = refl

agrees_where : (a b : Answer) (x y : Bool) → agrees a x ≡ true → (x ≡ true → agrees b y ≡ true) →
    agrees (where_sure a b) y ≡ true
agrees_where sure b x y p q = q p
agrees_where never b x y p q = refl
agrees_where unclear b x y p q = refl

pub nothing_known : (rs : List Record) → Shows [] rs
nothing_known rs = record { fits = λ n. record { kinds = refl; words = refl; joint = refl } }

abbrev no_tokens : List Record
no_tokens = []

drop_nil : (n : ℕ) → drop n no_tokens ≡ no_tokens
drop_nil zero = refl
drop_nil (suc n) = refl

pub shows_drop : (n : ℕ) (ps : List Place) (rs : List Record) → Shows ps rs → Shows (drop n ps) (drop n rs)
shows_drop zero ps rs s = s
shows_drop (suc n) [] rs s = nothing_known (drop (suc n) rs)
shows_drop (suc n) (p ∷ ps) [] s =
    subst (λ (rs : List Record). Shows (drop n ps) rs) (drop_nil n)
    (shows_drop n ps [] (record { fits = λ m. s.fits (suc m) }))
shows_drop (suc n) (p ∷ ps) (r ∷ rs) s = shows_drop n ps rs (record { fits = λ m. s.fits (suc m) })

pub kind_after-is : (n : ℕ) (rs : List Record) → kind_at rs n ≡ kind_after n rs
kind_after-is zero [] = refl
kind_after-is zero (r ∷ rs) = refl
kind_after-is (suc n) rs = refl

pub no_end : (k : ℕ) → not (k == EOF) ≡ true → (EOF == k) ≡ false
no_end k h = grind (arith, nat_tests)

agrees_begin : (ks : List ℕ) (ps : List Place) (rs : List Record) → Shows ps rs →
    agrees (begin_so ks ps) (begins_with ks rs) ≡ true
agrees_begin [] ps rs s = refl
agrees_begin (k ∷ []) ps [] s =
    agrees_where (of_truth (not (k == EOF))) _ (not (k == EOF)) false (agrees_truth (not (k == EOF)))
    (λ h. subst (λ (x : Bool). agrees (decided (is_kind k) (place_at 0 ps).kinds) x ≡ true) (no_end k h)
    (agrees_decided (is_kind k) (place_at 0 ps).kinds EOF (s.fits 0).kinds))
agrees_begin (k ∷ []) ps (r ∷ rs) s =
    agrees_where (of_truth (not (k == EOF))) _ (not (k == EOF)) (r.kind == k) (agrees_truth (not (k == EOF)))
    (λ h. agrees_decided (is_kind k) (place_at 0 ps).kinds r.kind (s.fits 0).kinds)
agrees_begin (k ∷ j ∷ ks) ps [] s =
    agrees_where (of_truth (not (k == EOF))) _ (not (k == EOF)) false (agrees_truth (not (k == EOF)))
    (λ h. agrees_and (decided (is_kind k) (place_at 0 ps).kinds) _ false false
    (subst (λ (x : Bool). agrees (decided (is_kind k) (place_at 0 ps).kinds) x ≡ true) (no_end k h)
    (agrees_decided (is_kind k) (place_at 0 ps).kinds EOF (s.fits 0).kinds))
    (agrees_and (place_at 0 ps).joint _ false false (s.fits 0).joint (agrees_begin (j ∷ ks) (drop 1 ps) [] (shows_drop 1 ps [] s))))
agrees_begin (k ∷ j ∷ ks) ps (r ∷ rs) s =
    agrees_where (of_truth (not (k == EOF))) _ (not (k == EOF)) ((r.kind == k) && (r.joint && begins_with (j ∷ ks) rs))
    (agrees_truth (not (k == EOF)))
    (λ h. agrees_and (decided (is_kind k) (place_at 0 ps).kinds) _ (r.kind == k) (r.joint && begins_with (j ∷ ks) rs)
    (agrees_decided (is_kind k) (place_at 0 ps).kinds r.kind (s.fits 0).kinds)
    (agrees_and (place_at 0 ps).joint _ r.joint (begins_with (j ∷ ks) rs) (s.fits 0).joint
    (agrees_begin (j ∷ ks) (drop 1 ps) rs (shows_drop 1 ps (r ∷ rs) s))))

first_is : (ps : List Place) (rs : List Record) → Shows ps rs → within (place_at 0 ps).kinds (next_kind rs) ≡ true
first_is ps [] s = (s.fits 0).kinds
first_is ps (r ∷ rs) s = (s.fits 0).kinds

agrees_comes : (js : List ℕ) (k : ℕ) (ps : List Place) (rs : List Record) → Shows ps rs →
    agrees (comes_so js k ps) (is_first js k rs) ≡ true
agrees_comes [] k ps rs s = agrees_decided (is_kind k) (place_at 0 ps).kinds (next_kind rs) (first_is ps rs s)
agrees_comes (j ∷ js) k ps rs s = agrees_begin (j ∷ js) ps rs s

agrees_borne : (k : ℕ) (ps : List Place) (rs : List Record) → Shows ps rs →
    agrees (borne_so k (place_at 0 ps)) (first_may_bear rs k) ≡ true
agrees_borne k ps [] s =
    agrees_where (decided (λ j. not (j == EOF)) (place_at 0 ps).kinds) _ false false
    (agrees_decided (λ j. not (j == EOF)) (place_at 0 ps).kinds EOF (s.fits 0).kinds) (λ h. absurd cc)
agrees_borne k ps (r ∷ rs) s =
    let w = (s.fits 0).kinds in
    agrees_where (decided (λ j. not (j == EOF)) (place_at 0 ps).kinds) _ (not (r.kind == EOF)) _
    (agrees_decided (λ j. not (j == EOF)) (place_at 0 ps).kinds r.kind w)
    (λ h. agrees_or (decided (is_kind k) (place_at 0 ps).kinds) _ (r.kind == k) _
    (agrees_decided (is_kind k) (place_at 0 ps).kinds r.kind w)
    (agrees_or _ _ ((r.kind == IDENT) && (r.contextual == k)) ((k == IDENT) && is_keyword r.kind Edition2024)
    (agrees_and (decided (is_kind IDENT) (place_at 0 ps).kinds) _ (r.kind == IDENT) (r.contextual == k)
    (agrees_decided (is_kind IDENT) (place_at 0 ps).kinds r.kind w)
    (agrees_decided (is_kind k) (place_at 0 ps).words r.contextual (s.fits 0).words))
    (agrees_and (of_truth (k == IDENT)) _ (k == IDENT) (is_keyword r.kind Edition2024) (agrees_truth (k == IDENT))
    (agrees_decided (λ j. is_keyword j Edition2024) (place_at 0 ps).kinds r.kind w))))

-- where a truth value is so, and where it is not
pub by_truth : {A : Type 0} (x : Bool) → (x ≡ true → A) → (x ≡ false → A) → A
by_truth true p q = p refl
by_truth false p q = q refl

-- the operator that comes next is among those that may
own_kind : (k : ℕ) → (k == k) ≡ true
own_kind k = grind (arith, nat_tests)

or_true : (a b : Bool) → b ≡ true → (a || b) ≡ true
or_true true b h = refl
or_true false b h = h

among_left : (xs ys : List ℕ) (k : ℕ) → among xs k ≡ true → among (xs ++ ys) k ≡ true
among_left [] ys k h = absurd cc
among_left (x ∷ xs) ys k h =
    by_or (x == k) (among xs k) h (λ e. rw e refl)
    (λ m. or_true (x == k) (among (xs ++ ys) k) (among_left xs ys k m))

among_right : (xs ys : List ℕ) (k : ℕ) → among ys k ≡ true → among (xs ++ ys) k ≡ true
among_right [] ys k h = h
among_right (x ∷ xs) ys k h = or_true (x == k) (among (xs ++ ys) k) (among_right xs ys k h)

among_more : (a : Answer) (b : Bool) (op k : ℕ) (f : Unit {0} → List ℕ) → agrees a b ≡ true →
    among (f tt) k ≡ true → among (and_more a op f) (if b then op else k) ≡ true
among_more sure true op k f h m = rw (own_kind op) refl
among_more sure false op k f h m = absurd cc
among_more never true op k f h m = absurd cc
among_more never false op k f h m = m
among_more unclear true op k f h m = rw (own_kind op) refl
among_more unclear false op k f h m = or_true (op == k) (among (f tt) k) m

agrees_goes : (first : ℕ) (ks : List ℕ) (ps : List Place) (rs : List Record) → Shows ps rs → next_kind rs ≡ first →
    agrees (goes_so ks ps) (goes_on_with first ks rs) ≡ true
agrees_goes first [] ps rs s e = refl
agrees_goes first (k ∷ ks) ps [] s e =
    agrees_and (place_at 0 ps).joint _ false false (s.fits 0).joint
    (agrees_begin (k ∷ ks) (drop 1 ps) [] (shows_drop 1 ps [] s))
agrees_goes first (k ∷ ks) ps (r ∷ rs) s e =
    rw (e, own_kind first)
    (agrees_and (place_at 0 ps).joint _ r.joint (begins_with (k ∷ ks) rs) (s.fits 0).joint
    (agrees_begin (k ∷ ks) (drop 1 ps) rs (shows_drop 1 ps (r ∷ rs) s)))

begun_among : (first : ℕ) (ops : List (ℕ × ℕ × List ℕ)) (ps : List Place) (rs : List Record) → Shows ps rs →
    next_kind rs ≡ first → among (operators_begun ops ps) (first_of first ops rs) ≡ true
begun_among first [] ps rs s e = refl
begun_among first (op ∷ ops) ps rs s e =
    among_more (goes_so op.2 ps) (goes_on_with first op.2 rs) op.0 (first_of first ops rs)
    (λ u. operators_begun ops ps) (agrees_goes first op.2 ps rs s e) (begun_among first ops ps rs s e)

at_among : (rows : List (ℕ × List (ℕ × ℕ × List ℕ))) (kind : ℕ) (ps : List Place) (rs : List Record) → Shows ps rs →
    next_kind rs ≡ kind → among (operators_at rows kind ps) (operator_in rows kind rs) ≡ true
at_among [] kind ps rs s e = refl
at_among (row ∷ rows) kind ps rs s e =
    by_truth (row.0 == kind)
    (λ h. rw h (begun_among row.0 row.1 ps rs s (e ∙ sym (same_number row.0 kind h))))
    (λ h. rw h (at_among rows kind ps rs s e))

of_among : (rows : List (ℕ × List (ℕ × ℕ × List ℕ))) (ks : List ℕ) (ps : List Place) (rs : List Record) →
    Shows ps rs → among ks (next_kind rs) ≡ true →
    among (operators_of rows ks ps) (operator_in rows (next_kind rs) rs) ≡ true
of_among rows [] ps rs s m = absurd cc
of_among rows (k ∷ ks) ps rs s m =
    let op = operator_in rows (next_kind rs) rs in
    by_or (k == next_kind rs) (among ks (next_kind rs)) m
    (λ h. among_left (operators_at rows k ps) (operators_of rows ks ps) op
    (subst (λ (j : ℕ). among (operators_at rows j ps) op ≡ true) (sym (same_number k (next_kind rs) h))
    (at_among rows (next_kind rs) ps rs s refl)))
    (λ h. among_right (operators_at rows k ps) (operators_of rows ks ps) op (of_among rows ks ps rs s h))

operator_is : (rs : List Record) → operator_at rs ≡ operator_in operators (next_kind rs) rs
unfolding operator_at
operator_is rs = refl

agrees_operator : (f : ℕ → Bool) (o : Option (List ℕ)) (ps : List Place) (rs : List Record) → Shows ps rs →
    within o (next_kind rs) ≡ true → agrees (decided f (operators_known o ps)) (f (operator_at rs)) ≡ true
agrees_operator f None ps rs s w = refl
agrees_operator f (Some ks) ps rs s w =
    agrees_decided f (Some (operators_of operators ks ps)) (operator_at rs)
    (subst (λ (k : ℕ). among (operators_of operators ks ps) k ≡ true) (sym (operator_is rs))
    (of_among operators ks ps rs s w))

pub agrees_test : (h : Test) (ps : List Place) (rs : List Record) → Shows ps rs →
    agrees (evaluate h ps) (holds h rs) ≡ true
agrees_test (kind_so n f) ps rs s =
    subst (λ (k : ℕ). agrees (decided f (place_at n ps).kinds) (f k) ≡ true) (kind_after-is n rs)
    (agrees_decided f (place_at n ps).kinds (kind_at rs n) (s.fits n).kinds)
agrees_test (word_so n f) ps rs s = agrees_decided f (place_at n ps).words (contextual_at rs n) (s.fits n).words
agrees_test (edition_so n f) ps rs s = refl
agrees_test (comes n k) ps rs s = agrees_comes (parts k) k (drop n ps) (drop n rs) (shows_drop n ps rs s)
agrees_test (borne n k) ps rs s = agrees_borne k (drop n ps) (drop n rs) (shows_drop n ps rs s)
agrees_test (negated t) ps rs s = agrees_not (evaluate t ps) (holds t rs) (agrees_test t ps rs s)
agrees_test (also t u) ps rs s =
    agrees_and_then (evaluate t ps) (evaluate u ps) (holds t rs) (holds u rs) (agrees_test t ps rs s) (agrees_test u ps rs s)
agrees_test (or_else t u) ps rs s =
    agrees_or_then (evaluate t ps) (evaluate u ps) (holds t rs) (holds u rs) (agrees_test t ps rs s) (agrees_test u ps rs s)
agrees_test (told b) ps rs s = agrees_truth b
agrees_test (operator_so f) ps rs s = agrees_operator f (place_at 0 ps).kinds ps rs s (first_is ps rs s)

either_left : (a b : Answer) (x : Bool) → agrees a x ≡ true → agrees (either_so a b) x ≡ true
either_left sure sure x p = p
either_left sure never x p = refl
either_left sure unclear x p = refl
either_left never sure x p = refl
either_left never never x p = p
either_left never unclear x p = refl
either_left unclear b x p = refl

either_right : (a b : Answer) (x : Bool) → agrees b x ≡ true → agrees (either_so a b) x ≡ true
either_right sure sure x p = p
either_right sure never x p = refl
either_right sure unclear x p = refl
either_right never sure x p = refl
either_right never never x p = p
either_right never unclear x p = refl
either_right unclear b x p = refl

pub agrees_all : (h : Test) (ps : List (List Place)) (rs : List Record) → Sees ps rs →
    agrees (evaluate_all h ps) (holds h rs) ≡ true
agrees_all h [] rs s = elim s [ ]
agrees_all h (p ∷ []) rs (this_way s) = agrees_test h p rs s
agrees_all h (p ∷ []) rs (later_way s) = elim s [ ]
agrees_all h (p ∷ q ∷ ps) rs (this_way s) =
    either_left (evaluate h p) (evaluate_all h (q ∷ ps)) (holds h rs) (agrees_test h p rs s)
agrees_all h (p ∷ q ∷ ps) rs (later_way s) =
    either_right (evaluate h p) (evaluate_all h (q ∷ ps)) (holds h rs) (agrees_all h (q ∷ ps) rs s)

-- what is known says something weaker
weaker_of : (a b : Option (List ℕ)) (k : ℕ) → says_of a b ≡ true → within a k ≡ true → within b k ≡ true
weaker_of a None k h w = refl
weaker_of None (Some ks) k h w = absurd cc
weaker_of (Some js) (Some ks) k h w = every_so (among ks) js k h w

weaker_so : (a b : Answer) (x : Bool) → says_so a b ≡ true → agrees a x ≡ true → agrees b x ≡ true
weaker_so a unclear x h w = refl
weaker_so sure sure x h w = w
weaker_so sure never x h w = absurd cc
weaker_so never sure x h w = absurd cc
weaker_so never never x h w = w
weaker_so unclear sure x h w = absurd cc
weaker_so unclear never x h w = absurd cc

weaker_place : (p q : Place) (k w : ℕ) (j : Bool) → says_place p q ≡ true → Fits p k w j → Fits q k w j
weaker_place p q k w j h f =
    let i = and_right (says_of p.kinds q.kinds) _ h in
    record {
      kinds = weaker_of p.kinds q.kinds k (and_left (says_of p.kinds q.kinds) _ h) f.kinds;
      words = weaker_of p.words q.words w (and_left (says_of p.words q.words) _ i) f.words;
      joint = weaker_so p.joint q.joint j (and_right (says_of p.words q.words) _ i) f.joint;
    }

weaker_fits : (ps qs : List Place) (n : ℕ) (k w : ℕ) (j : Bool) → says_one ps qs ≡ true → Fits (place_at n ps) k w j →
    Fits (place_at n qs) k w j
weaker_fits ps [] n k w j h f = record { kinds = refl; words = refl; joint = refl }
weaker_fits [] (q ∷ qs) n k w j h f = absurd cc
weaker_fits (p ∷ ps) (q ∷ qs) zero k w j h f = weaker_place p q k w j (and_left (says_place p q) _ h) f
weaker_fits (p ∷ ps) (q ∷ qs) (suc n) k w j h f =
    weaker_fits ps qs n k w j (and_right (says_place p q) (says_one ps qs) h) f

weaker_shows : (ps qs : List Place) (rs : List Record) → says_one ps qs ≡ true → Shows ps rs → Shows qs rs
weaker_shows ps qs rs h s =
    record { fits = λ n. weaker_fits ps qs n (kind_at rs n) (contextual_at rs n) (joint_at rs n) h (s.fits n) }

weaker_some : (p : List Place) (qs : List (List Place)) (rs : List Record) → says_some p qs ≡ true → Shows p rs →
    Sees qs rs
weaker_some p [] rs h s = absurd cc
weaker_some p (q ∷ qs) rs h s =
    by_or (says_one p q) (says_some p qs) h (λ i. this_way (weaker_shows p q rs i s))
    (λ i. later_way (weaker_some p qs rs i s))

pub weaker : (ps qs : List (List Place)) (rs : List Record) → says ps qs ≡ true → Sees ps rs → Sees qs rs
weaker [] qs rs h s = elim s [ ]
weaker (p ∷ ps) qs rs h (this_way s) = weaker_some p qs rs (and_left (says_some p qs) _ h) s
weaker (p ∷ ps) qs rs h (later_way s) = weaker ps qs rs (and_right (says_some p qs) (says ps qs) h) s

-- some of the ways
pub sees_left : (p q : List (List Place)) (rs : List Record) → Sees p rs → Sees (p ++ q) rs
sees_left [] q rs s = elim s [ ]
sees_left (x ∷ p) q rs (this_way s) = this_way s
sees_left (x ∷ p) q rs (later_way s) = later_way (sees_left p q rs s)

pub sees_right : (p q : List (List Place)) (rs : List Record) → Sees q rs → Sees (p ++ q) rs
sees_right [] q rs s = s
sees_right (x ∷ p) q rs s = later_way (sees_right p q rs s)

-- a test that is known not to hold
pub never_so : (h : Test) (g : List (List Place)) (rs : List Record) → evaluate_all h g ≡ never → Sees g rs →
    holds h rs ≡ false
never_so h g rs e s =
    not_true (holds h rs) (subst (λ (a : Answer). agrees a (holds h rs) ≡ true) e (agrees_all h g rs s))
