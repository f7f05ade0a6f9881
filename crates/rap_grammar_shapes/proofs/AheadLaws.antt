-- What is known of the next tokens is so.
use Rattle.std.proofs.Common.{◌≡◌, ◌≤◌, ◌==◌, ◌||◌, ℕ, zero, suc, Bool, true, false, List, [], ◌∷◌, Option, Some, None, All, drop, refl, sym, ap, ◌∙◌, subst, arith, nat_le}
use Rattle.std.proofs.lemmas.Bool.Decides.{nat_tests}
use Rattle.std.proofs.lemmas.List.Elements.{All-drop}
use Rattle.rap_base.specs.TokenKind.{SHEBANG}
use Rattle.rap_base.specs.TokenTests.{is_token}
use Rattle.rap_events.proofs.Records.{kind_at_is_token}
use Rattle.rap_events.proofs.Truth.{or_left, or_right}
use Rattle.rap_events.specs.Record.{Record, IsTokenRecord, next_kind, kind_at, contextual_at, joint_at}
use Rattle.rap_grammar_scripts.specs.Test.{Test, holds}
use Rattle.rap_grammar_table.specs.Known.{Place, place_at, among, within, Fits, Shows, Sees, this_way, later_way}
use Rattle.rap_grammar_table.proofs.Narrow.{narrowed}
use Rattle.rap_grammar_table.specs.Shapes.{leaf_child}
use Rattle.rap_grammar_table.proofs.Known.{by_truth, nothing_known, shows_drop}
use Rattle.rap_grammar_table.proofs.NarrowLaws.{narrowed_sees}
use Rattle.rap_grammar_shapes.proofs.Ahead.{Ahead, of_kinds, places, Comes, kinds_below, all_kinds, or_all, filled, reach, if_few, few_of, before_more, brief, equal_option, equal_ahead, is_way_of, with_way, ways, asked, is_of_operator, learned, by_list, by_option, by_ahead, next_leaf}
use Rattle.rap_grammar_shapes.proofs.Content.{Holds, a_leaf, some_leaf, equal_kinds}
use Rattle.rap_grammar_shapes.proofs.ContentLaws.{by_choice, by_chosen, by_either, equal_kinds_so}

-- every kind of a token is among all kinds
below_so : (n k : ℕ) → (suc k) ≤ n → among (kinds_below n) k ≡ true
below_so zero k h = absurd (omega arith)
below_so (suc n) k h =
    by_truth (n == k) (λ e. or_left (n == k) (among (kinds_below n) k) e)
    (λ e. or_right (n == k) (among (kinds_below n) k) (below_so n k (grind (arith, nat_tests))))

all_so : (k : ℕ) → is_token k ≡ true → among all_kinds k ≡ true
all_so k h = below_so (suc SHEBANG) k (grind (arith, nat_tests))

-- the first token and those behind it
shows_first : (p : Place) (ps : List Place) (rs : List Record) (n : ℕ) →
    Fits p (kind_at rs 0) (contextual_at rs 0) (joint_at rs 0) → Shows ps (drop 1 rs) →
    Fits (place_at n (p ∷ ps)) (kind_at rs n) (contextual_at rs n) (joint_at rs n)
shows_first p ps rs zero f s = f
shows_first p ps [] (suc n) f s = s.fits n
shows_first p ps (r ∷ rs) (suc n) f s = s.fits n

shows_more : (p : Place) (ps : List Place) (rs : List Record) →
    Fits p (kind_at rs 0) (contextual_at rs 0) (joint_at rs 0) → Shows ps (drop 1 rs) → Shows (p ∷ ps) rs
shows_more p ps rs f s = record { fits = λ n. shows_first p ps rs n f s }

kinds_fit : (ks : Option (List ℕ)) (k w : ℕ) (j : Bool) → within ks k ≡ true → Fits (of_kinds ks) k w j
kinds_fit ks k w j h = record { kinds = h; words = refl; joint = refl }

in_all : (ks : Option (List ℕ)) (k : ℕ) → is_token k ≡ true → within ks k ≡ true → within (or_all ks) k ≡ true
in_all None k t h = all_so k t
in_all (Some ks) k t h = h

-- each is one of all kinds
filled_so : (n : ℕ) (l : Ahead) (rs : List Record) → All IsTokenRecord rs → Comes l rs → Shows (filled n l) rs
filled_so zero l rs t s = s
filled_so (suc n) [] rs t s =
    shows_more (of_kinds (or_all None)) (filled n []) rs
    (kinds_fit (or_all None) (kind_at rs 0) (contextual_at rs 0) (joint_at rs 0)
    (in_all None (kind_at rs 0) (kind_at_is_token rs 0 0 t) refl))
    (filled_so n [] (drop 1 rs) (All-drop IsTokenRecord 1 rs t) (nothing_known (drop 1 rs)))
filled_so (suc n) (ks ∷ l) rs t s =
    shows_more (of_kinds (or_all ks)) (filled n l) rs
    (kinds_fit (or_all ks) (kind_at rs 0) (contextual_at rs 0) (joint_at rs 0)
    (in_all ks (kind_at rs 0) (kind_at_is_token rs 0 0 t) (s.fits 0).kinds))
    (filled_so n l (drop 1 rs) (All-drop IsTokenRecord 1 rs t) (shows_drop 1 (places (ks ∷ l)) rs s))

-- few kinds
if_few_so : (n : ℕ) (js ks : List ℕ) (k : ℕ) → among ks k ≡ true → within (if_few n js ks) k ≡ true
if_few_so n [] ks k h = h
if_few_so zero (j ∷ js) ks k h = refl
if_few_so (suc n) (j ∷ js) ks k h = if_few_so n js ks k h

few_so : (ks : Option (List ℕ)) (k : ℕ) → within ks k ≡ true → within (few_of ks) k ≡ true
few_so None k h = refl
few_so (Some ks) k h = if_few_so 10 ks ks k h

before_so : (ks : Option (List ℕ)) (l : Ahead) (rs : List Record) → within ks (kind_at rs 0) ≡ true →
    Comes l (drop 1 rs) → Comes (before_more ks l) rs
before_so None [] rs h s = nothing_known rs
before_so None (js ∷ l) rs h s =
    shows_more (of_kinds None) (places (js ∷ l)) rs
    (kinds_fit None (kind_at rs 0) (contextual_at rs 0) (joint_at rs 0) h) s
before_so (Some ks) l rs h s =
    shows_more (of_kinds (Some ks)) (places l) rs
    (kinds_fit (Some ks) (kind_at rs 0) (contextual_at rs 0) (joint_at rs 0) h) s

brief_so : (ps : List Place) (rs : List Record) → Shows ps rs → Comes (brief ps) rs
brief_so [] rs s = nothing_known rs
brief_so (p ∷ ps) rs s =
    before_so (few_of p.kinds) (brief ps) rs (few_so p.kinds (kind_at rs 0) (s.fits 0).kinds)
    (brief_so ps (drop 1 rs) (shows_drop 1 (p ∷ ps) rs s))

-- the same is known
equal_option_so : (ks js : Option (List ℕ)) → equal_option ks js ≡ true → ks ≡ js
equal_option_so None None h = refl
equal_option_so None (Some js) h = absurd cc
equal_option_so (Some ks) None h = absurd cc
equal_option_so (Some ks) (Some js) h = ap (λ (x : List ℕ). Some x) (equal_kinds_so ks js h)

pub equal_ahead_so : (l m : Ahead) → equal_ahead l m ≡ true → l ≡ m
equal_ahead_so [] [] h = refl
equal_ahead_so [] (js ∷ m) h = absurd cc
equal_ahead_so (ks ∷ l) [] h = absurd cc
equal_ahead_so (ks ∷ l) (js ∷ m) h =
    by_chosen (equal_option ks js) (equal_ahead l m) h
    (λ e i. rw (equal_option_so ks js e, equal_ahead_so l m i) refl)

-- The tokens go on in one of these ways.
pub data Goes : List Ahead → List Record → Type 0 where
  this_going : {l : Ahead} {ls : List Ahead} {rs : List Record} → Comes l rs → Goes (l ∷ ls) rs
  later_going : {l : Ahead} {ls : List Ahead} {rs : List Record} → Goes ls rs → Goes (l ∷ ls) rs

way_of_so : (l : Ahead) (ms : List Ahead) (rs : List Record) → is_way_of l ms ≡ true → Comes l rs → Goes ms rs
way_of_so l [] rs h s = absurd cc
way_of_so l (m ∷ ms) rs h s =
    by_either (equal_ahead l m) (is_way_of l ms) h
    (λ e. this_going (subst (λ (x : Ahead). Comes x rs) (equal_ahead_so l m e) s))
    (λ e. later_going (way_of_so l ms rs e s))

way_new : (l : Ahead) (ms : List Ahead) (rs : List Record) → Comes l rs → Goes (with_way l ms) rs
way_new l ms rs s =
    by_choice (λ (x : List Ahead). Goes x rs) (is_way_of l ms) ms (l ∷ ms) (λ e. way_of_so l ms rs e s)
    (λ e. this_going s)

way_old : (l : Ahead) (ms : List Ahead) (rs : List Record) → Goes ms rs → Goes (with_way l ms) rs
way_old l ms rs g =
    by_choice (λ (x : List Ahead). Goes x rs) (is_way_of l ms) ms (l ∷ ms) (λ e. g) (λ e. later_going g)

ways_so : (ps : List (List Place)) (rs : List Record) → Sees ps rs → Goes (ways ps) rs
ways_so [] rs s = elim s [ ]
ways_so (p ∷ ps) rs (this_way s) = way_new (brief p) (ways ps) rs (brief_so p rs s)
ways_so (p ∷ ps) rs (later_way s) = way_old (brief p) (ways ps) rs (ways_so ps rs s)

asked_so : (b : Bool) (h : Test) (l : Ahead) (rs : List Record) → All IsTokenRecord rs → Comes l rs →
    Shows (asked b h l) rs
asked_so true h l rs t s = filled_so (reach h) l rs t s
asked_so false h l rs t s = s

-- What a test says is so.
pub learned_so : (h : Test) (b : Bool) (l : Ahead) (rs : List Record) → All IsTokenRecord rs →
    Comes l rs → holds h rs ≡ b → Goes (learned h b l) rs
learned_so h b l rs t s e =
    by_choice (λ (ls : List Ahead). Goes ls rs) (is_of_operator h) (l ∷ []) (ways (narrowed h b (asked b h l)))
    (λ i. this_going s)
    (λ i. ways_so (narrowed h b (asked b h l)) rs (narrowed_sees h b (asked b h l) rs (asked_so b h l rs t s) e))

-- tokens that are taken
places-drop : (n : ℕ) (l : Ahead) → places (drop n l) ≡ drop n (places l)
places-drop zero l = refl
places-drop (suc n) [] = refl
places-drop (suc n) (ks ∷ l) = places-drop n l

pub comes_drop : (n : ℕ) (l : Ahead) (rs : List Record) → Comes l rs → Comes (drop n l) (drop n rs)
comes_drop n l rs s =
    subst (λ (ps : List Place). Shows ps (drop n rs)) (sym (places-drop n l)) (shows_drop n (places l) rs s)

-- a leaf of the next token
first_of : (rs : List Record) → kind_at rs 0 ≡ next_kind rs
first_of [] = refl
first_of (r ∷ rs) = refl

pub next_leaf_so : (l : Ahead) (rs : List Record) → Comes l rs → Holds (next_leaf l) (leaf_child (next_kind rs) ∷ [])
next_leaf_so [] rs s = some_leaf
next_leaf_so (None ∷ l) rs s = some_leaf
next_leaf_so (Some ks ∷ l) rs s =
    a_leaf (subst (λ (k : ℕ). among ks k ≡ true) (first_of rs) (s.fits 0).kinds)

-- what is computed of what is known is the same
list_same : {A : Type 0} (ks : List ℕ) (h : List ℕ → A) → by_list ks h ≡ h ks
list_same [] h = refl
list_same (k ∷ ks) h = list_same ks (λ x. h (k ∷ x))

option_same : {A : Type 0} (ks : Option (List ℕ)) (h : Option (List ℕ) → A) → by_option ks h ≡ h ks
option_same None h = refl
option_same (Some ks) h = list_same ks (λ x. h (Some x))

pub ahead_same : {A : Type 0} (l : Ahead) (h : Ahead → A) → by_ahead l h ≡ h l
ahead_same [] h = refl
ahead_same (ks ∷ l) h = option_same ks (λ x. by_ahead l (λ y. h (x ∷ y))) ∙ ahead_same l (λ y. h (ks ∷ y))
