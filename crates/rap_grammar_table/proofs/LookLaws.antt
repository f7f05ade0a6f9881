-- The tokens of the rest of a row begin as its look says.
use Rattle.std.proofs.Common.{◌≡◌, ℕ, zero, suc, Bool, true, false, ◌==◌, List, [], ◌∷◌, ◌++◌, Some, None, refl, subst, ap, append_assoc, arith}
use Rattle.std.proofs.lemmas.Bool.Decides.{nat_tests}
use Rattle.rap_base.specs.TokenKind.{IDENT}
use Rattle.rap_events.specs.Composite.{parts}
use Rattle.rap_events.specs.Forest.{Forest}
use Rattle.rap_events.specs.Record.{Record, kind_at, contextual_at, joint_at}
use Rattle.rap_grammar_table.specs.Known.{Place, place_at, among, Fits, Shows, Sees, this_way, later_way, unclear, sure, anything}
use Rattle.rap_grammar_table.proofs.Evaluate.{behind}
use Rattle.rap_grammar_table.proofs.Hints.{Table}
use Rattle.rap_grammar_table.specs.Table.{Piece, Items, nil, begin, close, piece, choice, repeat, turns_of, group, folds, folding, way, unless, appended, HasWay, first_turn, other_turn, Touching, last_part, next_part}
use Rattle.rap_grammar_table.proofs.Look.{token_place, look_parts, behind_parts, look_piece, look, look_from, where_there}
use Rattle.rap_grammar_table.proofs.Narrow.{each, narrowed}
use Rattle.rap_grammar_table.proofs.Good.{Good, good_token, good_word, good_operator, good_category, Made, made_end, made_begin, made_close, made_piece, made_first, made_second, made_last, made_turn, made_repeat, made_group, made_folded_none, made_folded_more, made_folds, made_guarded}
use Rattle.rap_grammar_table.proofs.Known.{nothing_known, sees_left, sees_right}
use Rattle.rap_grammar_table.proofs.NarrowLaws.{each_sees, narrowed_sees}

pub same_self : (k : ℕ) → (k == k) ≡ true
same_self k = grind (arith, nat_tests)

look_from_appended : (t : Table) (n : ℕ) (a b : Items) (g : List (List Place)) →
    look_from t n (appended a b) g ≡ look_from t n a (look_from t n b g)
look_from_appended t n nil b g = refl
look_from_appended t n (begin a) b g = look_from_appended t n a b g
look_from_appended t n (close k a) b g = look_from_appended t n a b g
look_from_appended t n (piece p a) b g =
    ap (λ (h : List (List Place)). look_piece t p h) (look_from_appended t n a b g)
look_from_appended t n (choice x y a) b g =
    ap (λ (h : List (List Place)). look_from t n x h ++ look_from t n y h) (look_from_appended t n a b g)
look_from_appended t n (repeat x y a) b g =
    ap (λ (h : List (List Place)). look_from t n x anything ++ look_from t n y h) (look_from_appended t n a b g)
look_from_appended t n (turns_of x y) b g = refl
look_from_appended t n (folds m x a) b g =
    ap (λ (h : List (List Place)). look_from t m x [] ++ h) (look_from_appended t n a b g)
look_from_appended t n (folding m x) b g = refl
look_from_appended t n (way j x m a) b g =
    ap (λ (h : List (List Place)). where_there (among j n) (λ u. look_from t 0 x anything) ++ h)
    (look_from_appended t n a b g)
look_from_appended t n (unless h w a) b g =
    ap (λ (p : List (List Place)). each (λ q. narrowed h false q) p) (look_from_appended t n a b g)
look_from_appended t n (group x a) b g =
    ap (λ (h : List (List Place)). look_from t n x h) (look_from_appended t n a b g)

pub look_appended : (t : Table) (a b : Items) (g : List (List Place)) → look t (appended a b) g ≡ look t a (look t b g)
look_appended t a b g = look_from_appended t 0 a b g

shows_fits : (p : Place) (g : List Place) (r : Record) (rs : List Record) (n : ℕ) →
    Fits p r.kind r.contextual r.joint → Shows g rs →
    Fits (place_at n (p ∷ g)) (kind_at (r ∷ rs) n) (contextual_at (r ∷ rs) n) (joint_at (r ∷ rs) n)
shows_fits p g r rs zero f s = f
shows_fits p g r rs (suc n) f s = s.fits n

shows_next : (p : Place) (g : List Place) (r : Record) (rs : List Record) → Fits p r.kind r.contextual r.joint →
    Shows g rs → Shows (p ∷ g) (r ∷ rs)
shows_next p g r rs f s = record { fits = λ n. shows_fits p g r rs n f s }

sees_behind : (p : Place) (g : List (List Place)) (r : Record) (rs : List Record) →
    Fits p r.kind r.contextual r.joint → Sees g rs → Sees (behind p g) (r ∷ rs)
sees_behind p [] r rs f s = elim s [ ]
sees_behind p (x ∷ g) r rs f (this_way s) = this_way (shows_next p x r rs f s)
sees_behind p (x ∷ g) r rs f (later_way s) = later_way (sees_behind p g r rs f s)

only_one : (j k : ℕ) → j ≡ k → among (k ∷ []) j ≡ true
only_one j k e = rw e (rw (same_self k) refl)

shows_parts : (g : List Place) (rs : List Record) {ks : List ℕ} {os : List Record} → Touching ks os → Shows g rs →
    Shows (look_parts ks g) (os ++ rs)
shows_parts g rs (last_part {k = k} {r = r} e) s =
    shows_next (record { kinds = Some (k ∷ []); words = None; joint = unclear }) g r rs
    (record { kinds = only_one r.kind k e; words = refl; joint = refl }) s
shows_parts g rs (next_part {k = k} {j = j} {ks = ks} {r = r} {rs = os} e i x) s =
    shows_next (record { kinds = Some (k ∷ []); words = None; joint = sure }) (look_parts (j ∷ ks) g) r (os ++ rs)
    (record { kinds = only_one r.kind k e; words = refl; joint = i }) (shows_parts g rs x s)

sees_parts : (ks : List ℕ) (os : List Record) (g : List (List Place)) (rs : List Record) → Touching ks os → Sees g rs →
    Sees (behind_parts ks g) (os ++ rs)
sees_parts ks os [] rs x s = elim s [ ]
sees_parts ks os (y ∷ g) rs x (this_way s) = this_way (shows_parts y rs x s)
sees_parts ks os (y ∷ g) rs x (later_way s) = later_way (sees_parts ks os g rs x s)

pub piece_seen : (t : Table) {p : Piece} {ks l : List Record} {u : Forest} (g : List (List Place)) → Good t p ks u l →
    Sees g l → Sees (look_piece t p g) (ks ++ l)
piece_seen t g (good_token {kinds = kinds} {words = words} {r = r} {l = l} m w) s =
    sees_behind (token_place kinds words) g r l (record { kinds = m; words = w; joint = refl }) s
piece_seen t g (good_word {k = k} {r = r} {l = l} e i) s =
    sees_behind (token_place (IDENT ∷ []) (Some (k ∷ []))) g r l
    (record { kinds = only_one r.kind IDENT e; words = only_one r.contextual k i; joint = refl }) s
piece_seen t g (good_operator {k = k} {rs = rs} {l = l} x) s = sees_parts (parts k) rs g l x s
piece_seen t g (good_category x n p o y) s = x

-- a turn that may come is seen among all that may
there_is : (b : Bool) (f : Unit {0} → List (List Place)) (rs : List Record) → b ≡ true → Sees (f tt) rs →
    Sees (where_there b f) rs
there_is true f rs h s = s
there_is false f rs h s = absurd cc

pub way_seen : (t : Table) (n : ℕ) (g : List (List Place)) (rs : List Record) {ws a : Items} {js : List ℕ} {m : ℕ} →
    HasWay ws js a m → among js n ≡ true → Sees (look t a anything) rs → Sees (look_from t n ws g) rs
way_seen t n g rs (first_turn {js = js} {m = m} {a = a} {ws = ws}) h s =
    sees_left (where_there (among js n) (λ u. look_from t 0 a anything)) (look_from t n ws g) rs
    (there_is (among js n) (λ u. look_from t 0 a anything) rs h s)
way_seen t n g rs (other_turn {is = is} {b = b} {ws = ws} w) h s =
    sees_right (where_there (among is n) (λ u. look_from t 0 b anything)) (look_from t n ws g) rs
    (way_seen t n g rs w h s)

-- so the tokens are seen
pub seen : (t : Table) {l : List Record} (g : List (List Place)) {is : Items} {x y : Forest} {xs us : List Forest}
    {ks : List Record} → Made t l is x xs us ks y → Sees g l → Sees (look t is g) (ks ++ l)
seen t g made_end s = s
seen t g (made_begin m) s = seen t g m s
seen t g (made_close m) s = seen t g m s
seen t {l = l} g (made_piece {p = p} {is = is} {ks = ks} {js = js} x m) s =
    rw (append_assoc ks js l) (piece_seen t (look t is g) x (seen t g m s))
seen t {l = l} g (made_first {a = a} {b = b} {is = is} {ks = ks} m) s =
    sees_left (look t a (look t is g)) (look t b (look t is g)) (ks ++ l)
    (subst (λ (h : List (List Place)). Sees h (ks ++ l)) (look_appended t a is g) (seen t g m s))
seen t {l = l} g (made_second {a = a} {b = b} {is = is} {ks = ks} m) s =
    sees_right (look t a (look t is g)) (look t b (look t is g)) (ks ++ l)
    (subst (λ (h : List (List Place)). Sees h (ks ++ l)) (look_appended t b is g) (seen t g m s))
seen t {l = l} g (made_last {a = a} {z = z} {ks = ks} m) s =
    sees_right (look t a anything) (look t z g) (ks ++ l) (seen t g m s)
seen t {l = l} g (made_turn {a = a} {z = z} {ks = ks} {js = js} m n) s =
    rw (append_assoc ks js l)
    (sees_left (look t a anything) (look t z g) (ks ++ (js ++ l))
    (seen t anything m (this_way (nothing_known (js ++ l)))))
seen t {l = l} g (made_repeat {is = is} {ks = ks} {js = js} m n) s =
    rw (append_assoc ks js l) (seen t (look t is g) m (seen t g n s))
seen t {l = l} g (made_group {is = is} {ks = ks} {js = js} m n) s =
    rw (append_assoc ks js l) (seen t (look t is g) m (seen t g n s))
seen t {l = l} g (made_folded_none {n = n} {ws = ws}) s = sees_right (look_from t n ws []) g l s
seen t {l = l} g (made_folded_more {n = n} {ws = ws} {ks = ks} {js = js} w i m o) s =
    rw (append_assoc ks js l)
    (sees_left (look_from t n ws []) g (ks ++ (js ++ l))
    (way_seen t n [] (ks ++ (js ++ l)) w i (seen t anything m (this_way (nothing_known (js ++ l))))))
seen t {l = l} g (made_folds {is = is} {ks = ks} {js = js} m n) s =
    rw (append_assoc ks js l) (seen t (look t is g) m (seen t g n s))
seen t {l = l} g (made_guarded {h = h} {is = is} {ks = ks} e m) s =
    each_sees (λ p. narrowed h false p) (look t is g) (ks ++ l) (seen t g m s)
    (λ p q. narrowed_sees h false p (ks ++ l) q e)
