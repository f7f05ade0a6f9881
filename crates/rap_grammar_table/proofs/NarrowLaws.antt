-- The answer to a test rules out no way in which the tokens go on.
use Rattle.std.proofs.Common.{◌≡◌, ℕ, zero, suc, Bool, true, false, ◌&&◌, ◌||◌, ◌==◌, not, List, [], ◌∷◌, drop, Option, Some, None, ◌++◌, refl, sym, ◌∙◌, subst}
use Rattle.rap_base.specs.TokenKind.{EOF}
use Rattle.rap_events.proofs.Truth.{and_left, and_right, and_false}
use Rattle.rap_events.specs.Composite.{parts, is_first, begins_with}
use Rattle.rap_events.specs.Record.{Record, next_kind, kind_at, contextual_at, joint_at}
use Rattle.rap_grammar_scripts.specs.Test.{Test, kind_so, word_so, edition_so, comes, borne, negated, also, or_else, told, operator_so, holds}
use Rattle.rap_grammar_table.specs.Known.{Answer, sure, never, unclear, Place, place_at, among, within, agrees, Fits, Shows, Sees, this_way, later_way}
use Rattle.rap_grammar_table.proofs.Evaluate.{behind, is_kind, evaluate, of_truth}
use Rattle.rap_grammar_table.specs.Notation.{kept, those}
use Rattle.rap_grammar_table.proofs.Narrow.{answering, with_kinds, first_kinds, by_kind, with_words, first_words, by_word, unless_known, apart_from, by_apart, by_two, by_no_tokens, by_tokens, each, narrowed, Fact, left_by, AreSo}
use Rattle.rap_grammar_table.proofs.Known.{same_number, no_end, by_or, by_truth, agrees_truth, agrees_test, shows_drop, kind_after-is, sees_left, sees_right}

-- one that is among some is among those of which something holds, if it holds of it
kept_first : (f : ℕ → Bool) (k j : ℕ) (ks : List ℕ) → (k == j) ≡ true → f j ≡ true → among (kept (f k) k ks) j ≡ true
kept_first f k j ks e h =
    of_kept (f k) k j ks (subst (λ (n : ℕ). f n ≡ true) (sym (same_number k j e)) h) e
  where
    of_kept : (b : Bool) (k j : ℕ) (ks : List ℕ) → b ≡ true → (k == j) ≡ true → among (kept b k ks) j ≡ true
    of_kept true k j ks h e = rw e refl
    of_kept false k j ks h e = absurd cc

kept_later : (b : Bool) (k j : ℕ) (ks : List ℕ) → among ks j ≡ true → among (kept b k ks) j ≡ true
kept_later true k j ks h = or_true (k == j) (among ks j) h
  where
    or_true : (a b : Bool) → b ≡ true → (a || b) ≡ true
    or_true true b h = refl
    or_true false b h = h
kept_later false k j ks h = h

pub among_those : (f : ℕ → Bool) (ks : List ℕ) (j : ℕ) → among ks j ≡ true → f j ≡ true → among (those f ks) j ≡ true
among_those f [] j m h = absurd cc
among_those f (k ∷ ks) j m h =
    by_or (k == j) (among ks j) m (λ e. kept_first f k j (those f ks) e h)
    (λ i. kept_later (f k) k j (those f ks) (among_those f ks j i h))

-- one more place before them
fits_then : (p : Place) (g : List Place) (rs : List Record) (n : ℕ) →
    Fits p (kind_at rs 0) (contextual_at rs 0) (joint_at rs 0) → Shows g (drop 1 rs) →
    Fits (place_at n (p ∷ g)) (kind_at rs n) (contextual_at rs n) (joint_at rs n)
fits_then p g rs zero f s = f
fits_then p g [] (suc n) f s = s.fits n
fits_then p g (r ∷ rs) (suc n) f s = s.fits n

sees_then : (p : Place) (g : List (List Place)) (rs : List Record) →
    Fits p (kind_at rs 0) (contextual_at rs 0) (joint_at rs 0) → Sees g (drop 1 rs) → Sees (behind p g) rs
sees_then p [] rs f s = elim s [ ]
sees_then p (x ∷ g) rs f (this_way s) = this_way (record { fits = λ n. fits_then p x rs n f s })
sees_then p (x ∷ g) rs f (later_way s) = later_way (sees_then p g rs f s)

shows_rest : (p : Place) (ps : List Place) (rs : List Record) → Shows (p ∷ ps) rs → Shows ps (drop 1 rs)
shows_rest p ps rs s = shows_drop 1 (p ∷ ps) rs s

-- fewer kinds of the first token
with_kinds_sees : (ks : List ℕ) (p : Place) (ps : List Place) (rs : List Record) → Shows (p ∷ ps) rs →
    among ks (kind_at rs 0) ≡ true → Sees (with_kinds ks p ps) rs
with_kinds_sees [] p ps rs s m = absurd cc
with_kinds_sees (k ∷ ks) p ps rs s m =
    let f = s.fits 0 in
    this_way (record {
      fits =
          λ n. fits_then (record { kinds = Some (k ∷ ks); words = p.words; joint = p.joint }) ps rs n
          (record { kinds = m; words = f.words; joint = f.joint }) (shows_rest p ps rs s);
    })

first_kinds_sees : (f : ℕ → Bool) (o : Option (List ℕ)) (p : Place) (ps : List Place) (rs : List Record) →
    Shows (p ∷ ps) rs → within o (kind_at rs 0) ≡ true → f (kind_at rs 0) ≡ true → Sees (first_kinds f o p ps) rs
first_kinds_sees f None p ps rs s w h = this_way s
first_kinds_sees f (Some ks) p ps rs s w h =
    with_kinds_sees (those f ks) p ps rs s (among_those f ks (kind_at rs 0) w h)

next_at : (f : ℕ → Bool) (rs : List Record) (n : ℕ) → f (kind_at rs (suc n)) ≡ true → f (kind_at (drop 1 rs) n) ≡ true
next_at f [] n h = h
next_at f (r ∷ rs) n h = h

by_kind_sees : (n : ℕ) (f : ℕ → Bool) (p : List Place) (rs : List Record) → Shows p rs → f (kind_at rs n) ≡ true →
    Sees (by_kind n f p) rs
by_kind_sees n f [] rs s h = this_way s
by_kind_sees zero f (p ∷ ps) rs s h = first_kinds_sees f p.kinds p ps rs s (s.fits 0).kinds h
by_kind_sees (suc n) f (p ∷ ps) rs s h =
    sees_then p (by_kind n f ps) rs (s.fits 0)
    (by_kind_sees n f ps (drop 1 rs) (shows_rest p ps rs s) (next_at f rs n h))

-- the same for words
with_words_sees : (ks : List ℕ) (p : Place) (ps : List Place) (rs : List Record) → Shows (p ∷ ps) rs →
    among ks (contextual_at rs 0) ≡ true → Sees (with_words ks p ps) rs
with_words_sees [] p ps rs s m = absurd cc
with_words_sees (k ∷ ks) p ps rs s m =
    let f = s.fits 0 in
    this_way (record {
      fits =
          λ n. fits_then (record { kinds = p.kinds; words = Some (k ∷ ks); joint = p.joint }) ps rs n
          (record { kinds = f.kinds; words = m; joint = f.joint }) (shows_rest p ps rs s);
    })

first_words_sees : (f : ℕ → Bool) (o : Option (List ℕ)) (p : Place) (ps : List Place) (rs : List Record) →
    Shows (p ∷ ps) rs → within o (contextual_at rs 0) ≡ true → f (contextual_at rs 0) ≡ true →
    Sees (first_words f o p ps) rs
first_words_sees f None p ps rs s w h = this_way s
first_words_sees f (Some ks) p ps rs s w h =
    with_words_sees (those f ks) p ps rs s (among_those f ks (contextual_at rs 0) w h)

word_at : (f : ℕ → Bool) (rs : List Record) (n : ℕ) → f (contextual_at rs (suc n)) ≡ true →
    f (contextual_at (drop 1 rs) n) ≡ true
word_at f [] n h = h
word_at f (r ∷ rs) n h = h

by_word_sees : (n : ℕ) (f : ℕ → Bool) (p : List Place) (rs : List Record) → Shows p rs →
    f (contextual_at rs n) ≡ true → Sees (by_word n f p) rs
by_word_sees n f [] rs s h = this_way s
by_word_sees zero f (p ∷ ps) rs s h = first_words_sees f p.words p ps rs s (s.fits 0).words h
by_word_sees (suc n) f (p ∷ ps) rs s h =
    sees_then p (by_word n f ps) rs (s.fits 0)
    (by_word_sees n f ps (drop 1 rs) (shows_rest p ps rs s) (word_at f rs n h))

-- what is known answers as it is
answers_so : (b : Bool) (f : ℕ → Bool) (k : ℕ) → f k ≡ b → answering b f k ≡ true
answers_so true f k h = h
answers_so false f k h = rw h refl

unless_sees : (b : Bool) (a : Answer) (x : Bool) (p : List Place) (rs : List Record) → Shows p rs →
    agrees a x ≡ true → x ≡ b → Sees (unless_known b a p) rs
unless_sees true sure x p rs s h e = this_way s
unless_sees true never x p rs s h e = absurd (clash x h e)
  where
    clash : (x : Bool) → not x ≡ true → x ≡ true → ⊥
    clash true h e = cc
    clash false h e = cc
unless_sees true unclear x p rs s h e = this_way s
unless_sees false sure x p rs s h e = absurd (clash x h e)
  where
    clash : (x : Bool) → x ≡ true → x ≡ false → ⊥
    clash true h e = cc
    clash false h e = cc
unless_sees false never x p rs s h e = this_way s
unless_sees false unclear x p rs s h e = this_way s

next-at : (n : ℕ) (rs : List Record) → next_kind (drop n rs) ≡ kind_at rs n
next-at zero [] = refl
next-at zero (r ∷ rs) = refl
next-at (suc n) [] = refl
next-at (suc n) (r ∷ rs) = next-at n rs

-- the first token does not touch the next one
apart_sees : (a : Answer) (p : Place) (ps : List Place) (rs : List Record) → p.joint ≡ a → Shows (p ∷ ps) rs →
    joint_at rs 0 ≡ false → Sees (apart_from a p ps) rs
apart_sees sure p ps rs e s h = absurd (clash p.joint (joint_at rs 0) e h (s.fits 0).joint)
  where
    clash : (a : Answer) (x : Bool) → a ≡ sure → x ≡ false → agrees a x ≡ true → ⊥
    clash sure true e h w = cc
    clash sure false e h w = cc
    clash never x e h w = cc
    clash unclear x e h w = cc
apart_sees never p ps rs e s h = this_way s
apart_sees unclear p ps rs e s h =
    let f = s.fits 0 in
    this_way (record {
      fits =
          λ n. fits_then (record { kinds = p.kinds; words = p.words; joint = never }) ps rs n
          (record { kinds = f.kinds; words = f.words; joint = rw h refl }) (shows_rest p ps rs s);
    })

joint_later : (rs : List Record) (n : ℕ) → joint_at (drop 1 rs) n ≡ joint_at rs (suc n)
joint_later [] n = refl
joint_later (r ∷ rs) n = refl

by_apart_sees : (n : ℕ) (p : List Place) (rs : List Record) → Shows p rs → joint_at rs n ≡ false →
    Sees (by_apart n p) rs
by_apart_sees n [] rs s h = this_way s
by_apart_sees zero (p ∷ ps) rs s h = apart_sees p.joint p ps rs refl s h
by_apart_sees (suc n) (p ∷ ps) rs s h =
    sees_then p (by_apart n ps) rs (s.fits 0)
    (by_apart_sees n ps (drop 1 rs) (shows_rest p ps rs s) (joint_later rs n ∙ h))

-- which of two tokens is not there
two_apart : (j i : ℕ) (n : ℕ) (rs : List Record) → not (i == EOF) ≡ true → begins_with (j ∷ i ∷ []) (drop n rs) ≡ false →
    ((kind_at rs n == j) && (joint_at rs n && (kind_at rs (suc n) == i))) ≡ false
two_apart j i zero [] o h = and_false (EOF == j)
two_apart j i zero (r ∷ []) o h = rw (no_end i o, and_false r.joint) (and_false (r.kind == j))
two_apart j i zero (r ∷ s ∷ rs) o h = h
two_apart j i (suc n) [] o h = and_false (EOF == j)
two_apart j i (suc n) (r ∷ rs) o h = two_apart j i n rs o h

by_three : {A : Type 0} (x y z : Bool) → (x && (y && z)) ≡ false → (x ≡ false → A) → (y ≡ false → A) →
    (z ≡ false → A) → A
by_three false y z h f g k = f refl
by_three true false z h f g k = g refl
by_three true true false h f g k = k refl
by_three true true true h f g k = absurd cc

two_sees : (o : Bool) (j i n : ℕ) (a : Answer) (p : List Place) (rs : List Record) → not (i == EOF) ≡ o →
    Shows p rs → agrees a (begins_with (j ∷ i ∷ []) (drop n rs)) ≡ true →
    begins_with (j ∷ i ∷ []) (drop n rs) ≡ false → Sees (by_two o j i n a p) rs
two_sees true j i n unclear p rs o s h e =
    let first = by_kind n (answering false (is_kind j)) p in
    let second = by_kind (suc n) (answering false (is_kind i)) p in
    by_three (kind_at rs n == j) (joint_at rs n) (kind_at rs (suc n) == i) (two_apart j i n rs o e)
    (λ x. sees_left first (by_apart n p ++ second) rs
    (by_kind_sees n (answering false (is_kind j)) p rs s (answers_so false (is_kind j) (kind_at rs n) x)))
    (λ x. sees_right first (by_apart n p ++ second) rs (sees_left (by_apart n p) second rs (by_apart_sees n p rs s x)))
    (λ x. sees_right first (by_apart n p ++ second) rs (sees_right (by_apart n p) second rs
    (by_kind_sees (suc n) (answering false (is_kind i)) p rs s (answers_so false (is_kind i) (kind_at rs (suc n)) x))))
two_sees true j i n sure p rs o s h e = unless_sees false sure (begins_with (j ∷ i ∷ []) (drop n rs)) p rs s h e
two_sees true j i n never p rs o s h e = unless_sees false never (begins_with (j ∷ i ∷ []) (drop n rs)) p rs s h e
two_sees false j i n a p rs o s h e = unless_sees false a (begins_with (j ∷ i ∷ []) (drop n rs)) p rs s h e

no_tokens_sees : (j : ℕ) (js : List ℕ) (n : ℕ) (a : Answer) (p : List Place) (rs : List Record) → Shows p rs →
    agrees a (begins_with (j ∷ js) (drop n rs)) ≡ true → begins_with (j ∷ js) (drop n rs) ≡ false →
    Sees (by_no_tokens j js n a p) rs
no_tokens_sees j [] n a p rs s h e = unless_sees false a (begins_with (j ∷ []) (drop n rs)) p rs s h e
no_tokens_sees j (i ∷ []) n a p rs s h e = two_sees (not (i == EOF)) j i n a p rs refl s h e
no_tokens_sees j (i ∷ m ∷ ms) n a p rs s h e =
    unless_sees false a (begins_with (j ∷ i ∷ m ∷ ms) (drop n rs)) p rs s h e

tokens_sees : (js : List ℕ) (n k : ℕ) (b : Bool) (a : Answer) (p : List Place) (rs : List Record) → Shows p rs →
    agrees a (is_first js k (drop n rs)) ≡ true → is_first js k (drop n rs) ≡ b →
    Sees (by_tokens js n k b a p) rs
tokens_sees [] n k b a p rs s h e =
    by_kind_sees n (answering b (is_kind k)) p rs s
    (answers_so b (is_kind k) (kind_at rs n) (subst (λ (j : ℕ). (j == k) ≡ b) (next-at n rs) e))
tokens_sees (j ∷ js) n k true a p rs s h e = unless_sees true a (is_first (j ∷ js) k (drop n rs)) p rs s h e
tokens_sees (j ∷ js) n k false a p rs s h e = no_tokens_sees j js n a p rs s h e

-- the ways of each way
pub each_sees : (f : List Place → List (List Place)) (g : List (List Place)) (rs : List Record) → Sees g rs →
    ((p : List Place) → Shows p rs → Sees (f p) rs) → Sees (each f g) rs
each_sees f [] rs s h = elim s [ ]
each_sees f (p ∷ ps) rs (this_way s) h = sees_left (f p) (each f ps) rs (h p s)
each_sees f (p ∷ ps) rs (later_way s) h = sees_right (f p) (each f ps) rs (each_sees f ps rs s h)

not_of : (x b : Bool) → not x ≡ b → x ≡ not b
not_of true b h = rw (sym h) refl
not_of false b h = rw (sym h) refl

second_false : (x y : Bool) → x ≡ true → (x && y) ≡ false → y ≡ false
second_false true y h e = e
second_false false y h e = absurd cc

second_true : (x y : Bool) → x ≡ false → (x || y) ≡ true → y ≡ true
second_true true y h e = absurd cc
second_true false y h e = e

first_false : (x y : Bool) → (x || y) ≡ false → x ≡ false
first_false true y e = absurd cc
first_false false y e = refl

last_false : (x y : Bool) → (x || y) ≡ false → y ≡ false
last_false true y e = absurd cc
last_false false y e = e

pub narrowed_sees : (h : Test) (b : Bool) (p : List Place) (rs : List Record) → Shows p rs → holds h rs ≡ b →
    Sees (narrowed h b p) rs
narrowed_sees (kind_so n f) b p rs s e =
    by_kind_sees n (answering b f) p rs s
    (answers_so b f (kind_at rs n) (subst (λ (k : ℕ). f k ≡ b) (sym (kind_after-is n rs)) e))
narrowed_sees (word_so n f) b p rs s e =
    by_word_sees n (answering b f) p rs s (answers_so b f (contextual_at rs n) e)
narrowed_sees (edition_so n f) b p rs s e = this_way s
narrowed_sees (comes n k) b p rs s e =
    tokens_sees (parts k) n k b (evaluate (comes n k) p) p rs s (agrees_test (comes n k) p rs s) e
narrowed_sees (borne n k) b p rs s e =
    unless_sees b (evaluate (borne n k) p) (holds (borne n k) rs) p rs s (agrees_test (borne n k) p rs s) e
narrowed_sees (negated t) b p rs s e = narrowed_sees t (not b) p rs s (not_of (holds t rs) b e)
narrowed_sees (also t u) true p rs s e =
    each_sees (λ q. narrowed u true q) (narrowed t true p) rs
    (narrowed_sees t true p rs s (and_left (holds t rs) (holds u rs) e))
    (λ q r. narrowed_sees u true q rs r (and_right (holds t rs) (holds u rs) e))
narrowed_sees (also t u) false p rs s e =
    by_truth (holds t rs)
    (λ x. sees_right (narrowed t false p) (each (λ q. narrowed u false q) (narrowed t true p)) rs
    (each_sees (λ q. narrowed u false q) (narrowed t true p) rs (narrowed_sees t true p rs s x)
    (λ q r. narrowed_sees u false q rs r (second_false (holds t rs) (holds u rs) x e))))
    (λ x. sees_left (narrowed t false p) (each (λ q. narrowed u false q) (narrowed t true p)) rs
    (narrowed_sees t false p rs s x))
narrowed_sees (or_else t u) true p rs s e =
    by_truth (holds t rs)
    (λ x. sees_left (narrowed t true p) (each (λ q. narrowed u true q) (narrowed t false p)) rs
    (narrowed_sees t true p rs s x))
    (λ x. sees_right (narrowed t true p) (each (λ q. narrowed u true q) (narrowed t false p)) rs
    (each_sees (λ q. narrowed u true q) (narrowed t false p) rs (narrowed_sees t false p rs s x)
    (λ q r. narrowed_sees u true q rs r (second_true (holds t rs) (holds u rs) x e))))
narrowed_sees (or_else t u) false p rs s e =
    each_sees (λ q. narrowed u false q) (narrowed t false p) rs
    (narrowed_sees t false p rs s (first_false (holds t rs) (holds u rs) e))
    (λ q r. narrowed_sees u false q rs r (last_false (holds t rs) (holds u rs) e))
narrowed_sees (told c) b p rs s e = unless_sees b (of_truth c) c p rs s (agrees_truth c) e
narrowed_sees (operator_so f) b p rs s e =
    unless_sees b (evaluate (operator_so f) p) (holds (operator_so f) rs) p rs s (agrees_test (operator_so f) p rs s) e

-- so do some answers
pub left_sees : (fs : List Fact) (g : List (List Place)) (rs : List Record) → AreSo fs rs → Sees g rs →
    Sees (left_by fs g) rs
left_sees [] g rs a s = s
left_sees (x ∷ xs) g rs a s =
    each_sees (λ p. narrowed x.test x.answer p) (left_by xs g) rs (left_sees xs g rs a.1 s)
    (λ p q. narrowed_sees x.test x.answer p rs q a.0)
