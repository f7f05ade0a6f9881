-- The last token of a row is no `}`, where its pieces say so.
use Rattle.std.proofs.Common.{◌≡◌, ℕ, Bool, true, false, ◌&&◌, ◌==◌, List, [], ◌∷◌, refl, ap}
use Rattle.rap_base.specs.TokenKind.{R_CURLY}
use Rattle.rap_events.proofs.Truth.{and_left, and_right, and_both}
use Rattle.rap_events.specs.Forest.{Forest, none, node, leaf, message, split, ◌⧺◌}
use Rattle.rap_events.specs.LastToken.{last_after}
use Rattle.rap_events.specs.Record.{Record}
use Rattle.rap_grammar_table.proofs.Good.{Good, good_token, good_word, good_operator, good_category, IsUnbraced, Made, made_end, made_begin, made_close, made_piece, made_first, made_second, made_last, made_turn, made_repeat, made_group, made_folded_none, made_folded_more, made_folds, made_guarded}
use Rattle.rap_grammar_table.proofs.Lasts.{is_no_brace, piece_ends, ends_in, ends_plain}
use Rattle.rap_grammar_table.proofs.Hints.{Table}
use Rattle.rap_grammar_table.specs.Table.{Piece, Items, nil, begin, close, piece, choice, repeat, turns_of, group, folds, folding, way, unless, appended, HasWay, first_turn, other_turn}
use Rattle.rap_grammar_table.proofs.Known.{every_so, not_true}

-- the last token of one forest after another
pub last-⧺ : (k : ℕ) (f g : Forest) → last_after k (f ⧺ g) ≡ last_after (last_after k f) g
last-⧺ k f none = refl
last-⧺ k f (node before kind children) = ap (λ (n : ℕ). last_after n children) (last-⧺ k f before)
last-⧺ k f (leaf before kind width) = refl
last-⧺ k f (message before bytes) = last-⧺ k f before
last-⧺ k f (split before dot) = last-⧺ k f before

good_ends : (t : Table) {p : Piece} {ks l : List Record} {u : Forest} → Good t p ks u l → piece_ends t p ≡ true →
    IsUnbraced u
good_ends t (good_token {kinds = kinds} {r = r} m w) h =
    record { last = λ k. not_true (r.kind == R_CURLY) (every_so is_no_brace kinds r.kind h m) }
good_ends t (good_word {k = j} e i) h = record { last = λ k. not_true (j == R_CURLY) h }
good_ends t (good_operator {k = j} x) h = record { last = λ k. not_true (j == R_CURLY) h }
good_ends t (good_category s n p o y) h = p h

-- where more is told of what stands before
more_told : (t : Table) (a : Items) (b c : Bool) → (b ≡ true → c ≡ true) → ends_in t false b a ≡ true →
    ends_in t false c a ≡ true
more_told t nil b c f h = f h
more_told t (begin a) b c f h = more_told t a b c f h
more_told t (close k a) b c f h = more_told t a b c f h
more_told t (piece p a) b c f h = h
more_told t (choice x y a) b c f h =
    more_told t a (ends_in t false b x && ends_in t false b y) (ends_in t false c x && ends_in t false c y)
    (λ i. and_both _ _ (more_told t x b c f (and_left (ends_in t false b x) _ i))
    (more_told t y b c f (and_right (ends_in t false b x) _ i))) h
more_told t (group x a) b c f h = more_told t a (ends_in t false b x) (ends_in t false c x) (more_told t x b c f) h
more_told t (repeat x z a) b c f h =
    let e = ends_in t false false x in
    more_told t a (ends_in t false (b && e) z) (ends_in t false (c && e) z)
    (more_told t z (b && e) (c && e) (λ i. and_both c e (f (and_left b e i)) (and_right b e i))) h
more_told t (turns_of x z) b c f h =
    let e = ends_in t false false x in
    more_told t z (b && e) (c && e) (λ i. and_both c e (f (and_left b e i)) (and_right b e i)) h
more_told t (folds n ws a) b c f h =
    let e = ends_in t true true ws in
    more_told t a (b && e) (c && e) (λ i. and_both c e (f (and_left b e i)) (and_right b e i)) h
more_told t (folding n ws) b c f h =
    let e = ends_in t true true ws in
    and_both c e (f (and_left b e h)) (and_right b e h)
more_told t (way js x m ws) b c f h = more_told t ws b c f h
more_told t (unless g v a) b c f h = more_told t a b c f h

ends_appended : (t : Table) (a c : Items) (b : Bool) →
    ends_in t false b (appended a c) ≡ ends_in t false (ends_in t false b a) c
ends_appended t nil c b = refl
ends_appended t (begin a) c b = ends_appended t a c b
ends_appended t (close k a) c b = ends_appended t a c b
ends_appended t (piece p a) c b = ends_appended t a c (piece_ends t p)
ends_appended t (choice x y a) c b = ends_appended t a c (ends_in t false b x && ends_in t false b y)
ends_appended t (group x a) c b = ends_appended t a c (ends_in t false b x)
ends_appended t (repeat x z a) c b = ends_appended t a c (ends_in t false (b && ends_in t false false x) z)
ends_appended t (turns_of x z) c b = refl
ends_appended t (folds n ws a) c b = ends_appended t a c (b && ends_in t true true ws)
ends_appended t (folding n ws) c b = refl
ends_appended t (way js x m ws) c b = ends_appended t ws c b
ends_appended t (unless h v a) c b = ends_appended t a c b

way_ends : (t : Table) {ws a : Items} {js : List ℕ} {m : ℕ} → HasWay ws js a m → ends_in t true true ws ≡ true →
    ends_in t false false a ≡ true
way_ends t (first_turn {a = a}) h = and_left (ends_in t false false a) _ h
way_ends t (other_turn {b = b} w) h = way_ends t w (and_right (ends_in t false false b) _ h)

-- the last token under these nodes, the newest first, behind this one
abbrev under : ℕ → List Forest → ℕ
under d [] = d
under d (x ∷ xs) = last_after (under d xs) x

abbrev No : ℕ → Type 0
No k = (k == R_CURLY) ≡ false

after_piece : (d : ℕ) (x u : Forest) → No (last_after (last_after d x) u) → No (last_after d (x ⧺ u))
after_piece d x u h = rw (last-⧺ d x u) h

no_way : {A : Type 0} → false ≡ true → A
no_way h = absurd cc

ends_so : (t : Table) {l : List Record} {is : Items} {x y : Forest} {xs us : List Forest} {ks : List Record} (b : Bool)
    (d : ℕ) → Made t l is x xs us ks y → (b ≡ true → No (under d (x ∷ xs))) → ends_in t false b is ≡ true →
    No (last_after d y)
ends_so t b d made_end f h = f h
ends_so t b d (made_begin m) f h = ends_so t b d m f h
ends_so t b d (made_close m) f h = ends_so t b d m f h
ends_so t b d (made_piece {p = p} {x = x} {u = u} {xs = xs} g m) f h =
    ends_so t (piece_ends t p) d m
    (λ e. after_piece (under d xs) x u ((good_ends t g e).last (last_after (under d xs) x))) h
ends_so t b d (made_first {a = a} {b = c} {is = is} m) f h =
    ends_so t b d m f
    (rw (ends_appended t a is b)
    (more_told t is (ends_in t false b a && ends_in t false b c) (ends_in t false b a)
    (λ i. and_left (ends_in t false b a) _ i) h))
ends_so t b d (made_second {a = a} {b = c} {is = is} m) f h =
    ends_so t b d m f
    (rw (ends_appended t c is b)
    (more_told t is (ends_in t false b a && ends_in t false b c) (ends_in t false b c)
    (λ i. and_right (ends_in t false b a) _ i) h))
ends_so t b d (made_last {a = a} m) f h =
    ends_so t (b && ends_in t false false a) d m (λ i. f (and_left b _ i)) h
ends_so t b d (made_turn {a = a} {z = z} {x = x} {y = y} m n) f h =
    let e = ends_in t false false a in
    after_piece d x y
    (ends_so t (b && e) (last_after d x) n
    (λ i. ends_so t false d m (λ j. no_way j) (and_right b e i))
    (more_told t z (b && e) ((b && e) && e) (λ i. and_both (b && e) e i (and_right b e i)) h))
ends_so t b d (made_repeat {a = a} {z = z} {x = x} {u = u} {xs = xs} m n) f h =
    ends_so t (ends_in t false (b && ends_in t false false a) z) d n
    (λ i. after_piece (under d xs) x u (ends_so t b (last_after (under d xs) x) m f i)) h
ends_so t b d (made_group {a = a} {x = x} {u = u} {xs = xs} m n) f h =
    ends_so t (ends_in t false b a) d n
    (λ i. after_piece (under d xs) x u (ends_so t b (last_after (under d xs) x) m f i)) h
ends_so t b d (made_folded_none {ws = ws}) f h = f (and_left b (ends_in t true true ws) h)
ends_so t b d (made_folded_more {ws = ws} w i m n) f h =
    let e = ends_in t true true ws in
    ends_so t true d n (λ j. ends_so t false d m (λ k. no_way k) (way_ends t w (and_right b e h))) (and_right b e h)
ends_so t b d (made_folds {ws = ws} {x = x} {u = u} {xs = xs} m n) f h =
    ends_so t (b && ends_in t true true ws) d n
    (λ i. after_piece (under d xs) x u (ends_so t b (last_after (under d xs) x) m f i)) h
ends_so t b d (made_guarded e m) f h = ends_so t b d m f h

pub unbraced : {t : Table} {l : List Record} {is : Items} {y : Forest} {us : List Forest} {ks : List Record} →
    Made t l is none [] us ks y → ends_plain t is ≡ true → IsUnbraced y
unbraced {t = t} m h = record { last = λ k. ends_so t false k m (λ j. no_way j) h }
