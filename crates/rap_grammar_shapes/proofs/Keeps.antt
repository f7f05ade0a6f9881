-- What is computed of a script is so of where it ends.
use Rattle.std.proofs.Common.{append_assoc, append-nil, ◌≡◌, ℕ, zero, suc, Bool, true, false, List, [], ◌∷◌, ◌++◌, All, drop, if◌then◌else◌, refl, sym, ap, ◌∙◌, subst}
use Rattle.std.proofs.lemmas.List.Elements.{All-drop}
use Rattle.rap_events.specs.Composite.{width}
use Rattle.rap_events.specs.Forest.{Forest, none, ◌⧺◌}
use Rattle.rap_events.specs.Record.{Record, IsTokenRecord, next_kind}
use Rattle.rap_events.specs.State.{with_kind}
use Rattle.rap_grammar_scripts.specs.Knot.{script_of}
use Rattle.rap_grammar_scripts.specs.Script.{Script, Outcome, nothing as none_left, something, block, again, goes_on, loop, Spot, taken, reported, skipped_over, started, preceded, finished, extended, abandoned, split_apart, Runs, gives, passes, fails, ends_so, ends_else, takes, takes_any, bears, reports, reports_next, skips, starts, precedes, finishes, extends, abandons, splits_dotted, splits_whole, follows, obeys, turns, stops}
use Rattle.rap_grammar_scripts.specs.Tally.{same_flag, same_outcome}
use Rattle.rap_grammar_scripts.specs.declared.rule.Rule.{Rule}
use Rattle.rap_grammar_scripts.proofs.Forests.{⧺-assoc}
use Rattle.rap_grammar_scripts.proofs.Tally.{same_is}
use Rattle.rap_grammar_table.specs.Shapes.{Child}
use Rattle.rap_grammar_table.proofs.Known.{nothing_known}
use Rattle.rap_grammar_shapes.proofs.Ahead.{Ahead, Comes, equal_ahead, learned, by_ahead, next_leaf}
use Rattle.rap_grammar_shapes.proofs.AheadLaws.{equal_ahead_so, Goes, this_going, later_going, learned_so, comes_drop, next_leaf_so, ahead_same}
use Rattle.rap_grammar_shapes.proofs.Claims.{brings}
use Rattle.rap_grammar_shapes.proofs.Content.{Content, nothing, leaf_of, any_leaf, node_of, a_float, spoilt, owed, ◌⋅◌, ◌or◌, any_of, Holds, no_child, no_more, one_more, choose, equal, either_of, onto, many}
use Rattle.rap_grammar_shapes.proofs.ContentLaws.{by_choice, by_chosen, by_either, equal_so, holds_first, holds_second, holds_onto, holds_many}
use Rattle.rap_grammar_shapes.proofs.Ends.{Contents, astray, contents, by_kinds, by_content, by_newest, by_contents, equal_older, equal_contents, with_more, opened, closed, with_last, drawn, parted, given_up, either, Ends, same_end, put, pool, by_ends, gather, on_ways, behind, all_alone, behind_each, alone_or, rule_ends, again_by, agains, last_by, dones, Turn, Start, begin_at, equal_start, next_if, is_kept, next_at, turn_at, Row, any_one, reached, starts_in, is_seen, explored, is_reached, ordered, arriving, staying, leaving, row_of, solved, rows_from, has_content, goes_to, lands, end_lands, all_land, each_lands, are_all, lasts, row_lasts, equal_ends, turn_from, any_flags, rounds, by_rows, ends}
use Rattle.rap_grammar_shapes.proofs.Letters.{letters, letters-⧺, good-⧺}
use Rattle.rap_grammar_shapes.proofs.Trees.{Part, Is, is_leaf, is_any, is_reported, is_skipped, is_opened, is_closed, is_given_up, is_behind, is_preceded, is_drawn, is_parted, equal_older_so, is_left, is_right}

-- What is computed of contents that are computed first is the same.
kinds_same : {A : Type 0} (ks : List ℕ) (h : List ℕ → A) → by_kinds ks h ≡ h ks
kinds_same [] h = refl
kinds_same (k ∷ ks) h = refl

content_same : {A : Type 0} (a : Content) (h : Content → A) → by_content a h ≡ h a
content_same nothing h = refl
content_same (leaf_of ks) h = kinds_same ks (λ x. h (leaf_of x))
content_same any_leaf h = refl
content_same (node_of ks) h = kinds_same ks (λ x. h (node_of x))
content_same a_float h = refl
content_same spoilt h = refl
content_same owed h = refl
content_same (a ⋅ b) h =
    content_same a (λ x. by_content b (λ y. h (x ⋅ y))) ∙ content_same b (λ y. h (a ⋅ y))
content_same (a or b) h =
    content_same a (λ x. by_content b (λ y. h (x or y))) ∙ content_same b (λ y. h (a or y))
content_same (any_of a) h = content_same a (λ x. h (any_of x))

newest_same : {A : Type 0} (os : List Content) (h : List Content → A) → by_newest os h ≡ h os
newest_same [] h = refl
newest_same (a ∷ os) h = content_same a (λ x. h (x ∷ os))

contents_same : {A : Type 0} (x : Contents) (h : Contents → A) → by_contents x h ≡ h x
contents_same astray h = refl
contents_same (contents a os) h =
    content_same a (λ x. by_newest os (λ xs. h (contents x xs))) ∙ newest_same os (λ xs. h (contents a xs))

ends_same : {A : Type 0} (k : Ends) (h : Ends → A) → by_ends k h ≡ h k
ends_same [] h = refl
ends_same (e ∷ k) h =
    ahead_same e.1 (λ l. by_contents e.2 (λ x. by_ends k (λ j. h ((e.0, l, x) ∷ j)))) ∙
    (contents_same e.2 (λ x. by_ends k (λ j. h ((e.0, e.1, x) ∷ j))) ∙ ends_same k (λ j. h (e ∷ j)))

-- An outcome with what comes next and what stands there.
pub data Among (base : Forest) (stack : List Forest) : Ends → Outcome → Spot → Type 0 where
  this_one : {e : Outcome × Ahead × Contents} {k : Ends} {v : Outcome} {p : Spot} → v ≡ e.0 → Comes e.1 p.rest →
      Is base stack e.2 p → Among base stack (e ∷ k) v p
  later_one : {e : Outcome × Ahead × Contents} {k : Ends} {v : Outcome} {p : Spot} → Among base stack k v p →
      Among base stack (e ∷ k) v p

-- on from what is computed first
by_same : (base : Forest) (stack : List Forest) (x : Contents) (f : Contents → Ends) (v : Outcome) (p : Spot) →
    Among base stack (f x) v p → Among base stack (by_contents x f) v p
by_same base stack x f v p a =
    subst (λ (k : Ends). Among base stack k v p) (sym (contents_same x f)) a

by_both : (base : Forest) (stack : List Forest) (l : Ahead) (x : Contents) (f : Ahead → Contents → Ends) (v : Outcome)
    (p : Spot) → Among base stack (f l x) v p →
    Among base stack (by_ahead l (λ m. by_contents x (λ y. f m y))) v p
by_both base stack l x f v p a =
    subst (λ (k : Ends). Among base stack k v p) (sym (ahead_same l (λ m. by_contents x (λ y. f m y))))
    (by_same base stack x (λ y. f l y) v p a)

same_end_so : (v : Outcome) (l : Ahead) (e : Outcome × Ahead × Contents) → same_end v l e ≡ true →
    (v ≡ e.0) × (l ≡ e.1)
same_end_so v l e h =
    by_chosen (same_outcome v e.0) (equal_ahead l e.1) h (λ i j. (same_is v e.0 i, equal_ahead_so l e.1 j))

put_if : (base : Forest) (stack : List Forest) (b : Bool) (v : Outcome) (l : Ahead) (x : Contents)
    (e : Outcome × Ahead × Contents) (j k : Ends) (p : Spot) → (b ≡ true → (v ≡ e.0) × (l ≡ e.1)) → Comes l p.rest →
    Is base stack x p → (b ≡ false → Among base stack k v p) →
    Among base stack (if b then (e.0, e.1, either x e.2) ∷ j else e ∷ k) v p
put_if base stack true v l x e j k p i s c a =
    let h = i refl in
    this_one h.0 (subst (λ (m : Ahead). Comes m p.rest) h.1 s) (is_left base stack x e.2 p c)
put_if base stack false v l x e j k p i s c a = later_one (a refl)

put_new : (base : Forest) (stack : List Forest) (k : Ends) (v : Outcome) (l : Ahead) (x : Contents) (p : Spot) →
    Comes l p.rest → Is base stack x p → Among base stack (put v l x k) v p
put_new base stack [] v l x p s c = this_one refl s c
put_new base stack (e ∷ k) v l x p s c =
    put_if base stack (same_end v l e) v l x e k (put v l x k) p (same_end_so v l e) s c
    (λ b. put_new base stack k v l x p s c)

put_this : (base : Forest) (stack : List Forest) (b : Bool) (x : Contents) (w : Outcome)
    (e : Outcome × Ahead × Contents) (j k : Ends) (p : Spot) → w ≡ e.0 → Comes e.1 p.rest → Is base stack e.2 p →
    Among base stack (if b then (e.0, e.1, either x e.2) ∷ j else e ∷ k) w p
put_this base stack true x w e j k p i s c = this_one i s (is_right base stack x e.2 p c)
put_this base stack false x w e j k p i s c = this_one i s c

put_later : (base : Forest) (stack : List Forest) (b : Bool) (x : Contents) (w : Outcome)
    (e : Outcome × Ahead × Contents) (j k : Ends) (p : Spot) → Among base stack j w p → Among base stack k w p →
    Among base stack (if b then (e.0, e.1, either x e.2) ∷ j else e ∷ k) w p
put_later base stack true x w e j k p a c = later_one a
put_later base stack false x w e j k p a c = later_one c

put_old : (base : Forest) (stack : List Forest) (k : Ends) (v : Outcome) (l : Ahead) (x : Contents) (w : Outcome)
    (p : Spot) → Among base stack k w p → Among base stack (put v l x k) w p
put_old base stack [] v l x w p a = elim a [ ]
put_old base stack (e ∷ k) v l x w p (this_one i s c) =
    put_this base stack (same_end v l e) x w e k (put v l x k) p i s c
put_old base stack (e ∷ k) v l x w p (later_one a) =
    put_later base stack (same_end v l e) x w e k (put v l x k) p a (put_old base stack k v l x w p a)

pool_left : (base : Forest) (stack : List Forest) (j k : Ends) (w : Outcome) (p : Spot) → Among base stack j w p →
    Among base stack (pool j k) w p
pool_left base stack [] k w p a = elim a [ ]
pool_left base stack (e ∷ j) k w p (this_one i s c) =
    subst (λ (y : Outcome). Among base stack (pool (e ∷ j) k) y p) (sym i)
    (put_new base stack (pool j k) e.0 e.1 e.2 p s c)
pool_left base stack (e ∷ j) k w p (later_one a) =
    put_old base stack (pool j k) e.0 e.1 e.2 w p (pool_left base stack j k w p a)

pool_right : (base : Forest) (stack : List Forest) (j k : Ends) (w : Outcome) (p : Spot) → Among base stack k w p →
    Among base stack (pool j k) w p
pool_right base stack [] k w p a = a
pool_right base stack (e ∷ j) k w p a =
    put_old base stack (pool j k) e.0 e.1 e.2 w p (pool_right base stack j k w p a)

gathered : (base : Forest) (stack : List Forest) (k : Ends) (f : Outcome → Ahead → Contents → Ends) (w v : Outcome)
    (r q : Spot) →
    ((l : Ahead) (x : Contents) → Comes l r.rest → Is base stack x r → Among base stack (f w l x) v q) →
    Among base stack k w r → Among base stack (gather f k) v q
gathered base stack [] f w v r q h a = elim a [ ]
gathered base stack (e ∷ k) f w v r q h (this_one i s c) =
    pool_left base stack (by_ahead e.1 (λ l. by_contents e.2 (λ y. f e.0 l y))) (gather f k) v q
    (by_both base stack e.1 e.2 (λ l y. f e.0 l y) v q
    (subst (λ (y : Outcome). Among base stack (f y e.1 e.2) v q) i (h e.1 e.2 s c)))
gathered base stack (e ∷ k) f w v r q h (later_one a) =
    pool_right base stack (by_ahead e.1 (λ l. by_contents e.2 (λ y. f e.0 l y))) (gather f k) v q
    (gathered base stack k f w v r q h a)

-- in each way in which the tokens may go on
ways_go : (base : Forest) (stack : List Forest) (f : Ahead → Ends) (ls : List Ahead) (v : Outcome) (p q : Spot) →
    ((l : Ahead) → Comes l p.rest → Among base stack (f l) v q) → Goes ls p.rest → Among base stack (on_ways f ls) v q
ways_go base stack f [] v p q h g = elim g [ ]
ways_go base stack f (l ∷ ls) v p q h (this_going s) =
    pool_left base stack (by_ahead l f) (on_ways f ls) v q
    (subst (λ (k : Ends). Among base stack k v q) (sym (ahead_same l f)) (h l s))
ways_go base stack f (l ∷ ls) v p q h (later_going g) =
    pool_right base stack (by_ahead l f) (on_ways f ls) v q (ways_go base stack f ls v p q h g)

-- What a rule brings.
pub data Brought : List (Outcome × Content) → Outcome → Spot → Spot → Type 0 where
  this_way : {e : Outcome × Content} {l : List (Outcome × Content)} {v : Outcome} {p q : Spot} → v ≡ e.0 →
      Part p.forest p.below e.1 q.forest q.below → Brought (e ∷ l) v p q
  other_way : {e : Outcome × Content} {l : List (Outcome × Content)} {v : Outcome} {p q : Spot} → Brought l v p q →
      Brought (e ∷ l) v p q

rule_so : (base : Forest) (stack : List Forest) (l : List (Outcome × Content)) (x : Contents) (v : Outcome)
    (p q : Spot) →
    Is base stack x p → Brought l v p q → Among base stack (rule_ends x l) v q
rule_so base stack [] x v p q c a = elim a [ ]
rule_so base stack (e ∷ l) x v p q c (this_way i a) =
    this_one i (nothing_known q.rest) (is_behind base stack e.1 x p q c a)
rule_so base stack (e ∷ l) x v p q c (other_way a) = later_one (rule_so base stack l x v p q c a)

-- turns of a loop
one_again : (a : Content) (cs ds : List Child) → Holds (any_of a) cs → Holds a ds → Holds (any_of a) (cs ++ ds)
one_again a cs ds no_more t = subst (λ (es : List Child). Holds (any_of a) es) (append-nil ds) (one_more t no_more)
one_again a cs ds (one_more {cs = xs} {ds = ys} s u) t =
    rw (append_assoc xs ys ds) (one_more s (one_again a ys ds u t))

part_wider : (a b : Content) (r q : Spot) → ((cs : List Child) → Holds a cs → Holds b cs) →
    Part r.forest r.below a q.forest q.below → Part r.forest r.below b q.forest q.below
part_wider a b r q w h = record {
  new = h.new;
  forest = h.forest;
  below = h.below;
  holds = w (letters h.new) h.holds;
  so = h.so;
}

-- one after another
parts : (a b c : Content) (o p q : Spot) →
    ((cs ds : List Child) → Holds a cs → Holds b ds → Holds c (cs ++ ds)) → Part o.forest o.below a p.forest p.below →
    Part p.forest p.below b q.forest q.below → Part o.forest o.below c q.forest q.below
parts a b c o p q f h i = record {
  new = h.new ⧺ i.new;
  forest = i.forest ∙ ap (λ (x : Forest). x ⧺ i.new) h.forest ∙ ⧺-assoc o.forest h.new i.new;
  below = i.below ∙ h.below;
  holds =
      subst (λ (cs : List Child). Holds c cs) (sym (letters-⧺ h.new i.new))
      (f (letters h.new) (letters i.new) h.holds i.holds);
  so = good-⧺ h.new i.new h.so i.so;
}

no_part : (a : Content) (p : Spot) → Holds a [] → Part p.forest p.below a p.forest p.below
no_part a p h = record { new = none; forest = refl; below = refl; holds = h; so = record { nodes = tt; plain = refl } }

-- one of some contents
one_of_so : (a : Content) (bs : List Content) (cs : List Child) → has_content a bs ≡ true → Holds a cs →
    Holds (any_one bs) cs
one_of_so a [] cs h s = absurd cc
one_of_so a (b ∷ []) cs h s =
    by_either (equal a b) false h (λ e. subst (λ (x : Content). Holds x cs) (equal_so a b e) s) (λ e. absurd cc)
one_of_so a (b ∷ c ∷ bs) cs h s =
    by_either (equal a b) (has_content a (c ∷ bs)) h
    (λ e.
    holds_first b (any_one (c ∷ bs)) cs (subst (λ (x : Content). Holds x cs) (equal_so a b e) s))
    (λ e. holds_second b (any_one (c ∷ bs)) cs (one_of_so a (c ∷ bs) cs e s))

-- The last turn behind others.
is_last : (base : Forest) (stack : List Forest) (x y : Contents) (r q : Spot) → Is base stack x r →
    Is r.forest r.below y q → Is base stack (behind x y) q
is_last base stack x astray r q h i = tt
is_last base stack x (contents a []) r q h i = is_behind base stack a x r q h i
is_last base stack x (contents a (b ∷ os)) r q h i = tt

-- What was computed from nothing on is so behind what stands there.
each_behind : (base : Forest) (stack : List Forest) (k : Ends) (v : Outcome) (x : Contents) (r q : Spot) →
    Is base stack x r → Among r.forest r.below k v q → Among base stack (behind_each x k) v q
each_behind base stack [] v x r q h a = elim a [ ]
each_behind base stack (e ∷ k) v x r q h (this_one i s c) = this_one i s (is_last base stack x e.2 r q h c)
each_behind base stack (e ∷ k) v x r q h (later_one a) = later_one (each_behind base stack k v x r q h a)

alone_so : (base : Forest) (stack : List Forest) (k last : Ends) (v : Outcome) (x : Contents) (r q : Spot) →
    Is base stack x r → Among r.forest r.below k v q → Among base stack last v q →
    Among base stack (alone_or x k last) v q
alone_so base stack k last v x r q h a b =
    by_choice (λ (j : Ends). Among base stack j v q) (all_alone k) (behind_each x k) last
    (λ e. each_behind base stack k v x r q h a) (λ e. b)

last_new : (base : Forest) (stack : List Forest) (w v : Outcome) (l : Ahead) (y : Contents) (k : Ends) (q : Spot) →
    v ≡ w → goes_on v ≡ false → Comes l q.rest → Is base stack y q → Among base stack (last_by w l y k) v q
last_new base stack none_left v l y k q e g s c = this_one e s c
last_new base stack something v l y k q e g s c = this_one e s c
last_new base stack block v l y k q e g s c = this_one e s c
last_new base stack (again a b) v l y k q e g s c = absurd (let z : true ≡ false = sym (ap goes_on e) ∙ g in cc)

last_old : (base : Forest) (stack : List Forest) (w v : Outcome) (l : Ahead) (y : Contents) (k : Ends) (q : Spot) →
    Among base stack k v q → Among base stack (last_by w l y k) v q
last_old base stack none_left v l y k q a = later_one a
last_old base stack something v l y k q a = later_one a
last_old base stack block v l y k q a = later_one a
last_old base stack (again c d) v l y k q a = a

last_among : (base : Forest) (stack : List Forest) (k : Ends) (v : Outcome) (x : Contents) (r q : Spot) →
    goes_on v ≡ false → Is base stack x r → Among r.forest r.below k v q → Among base stack (lasts x k) v q
last_among base stack [] v x r q g h a = elim a [ ]
last_among base stack (e ∷ k) v x r q g h (this_one i s c) =
    last_new base stack e.0 v e.1 (behind x e.2) (lasts x k) q i g s (is_last base stack x e.2 r q h c)
last_among base stack (e ∷ k) v x r q g h (later_one a) =
    last_old base stack e.0 v e.1 (behind x e.2) (lasts x k) q (last_among base stack k v x r q g h a)

-- the turns that end
done_so : (base : Forest) (stack : List Forest) (k : Ends) (v : Outcome) (q : Spot) → goes_on v ≡ false →
    Among base stack k v q → Among base stack (dones k) v q
done_so base stack [] v q g a = elim a [ ]
done_so base stack (e ∷ k) v q g (this_one i s c) = last_new base stack e.0 v e.1 e.2 (dones k) q i g s c
done_so base stack (e ∷ k) v q g (later_one a) =
    last_old base stack e.0 v e.1 e.2 (dones k) q (done_so base stack k v q g a)

-- and those that go on
again_new : (base : Forest) (stack : List Forest) (w : Outcome) (c d : Bool) (l : Ahead) (y : Contents) (k : Ends)
    (q : Spot) → again c d ≡ w → Comes l q.rest → Is base stack y q → Among base stack (again_by w l y k) (again c d) q
again_new base stack none_left c d l y k q e s i = absurd cc
again_new base stack something c d l y k q e s i = absurd cc
again_new base stack block c d l y k q e s i = absurd cc
again_new base stack (again a b) c d l y k q e s i = this_one e s i

again_old : (base : Forest) (stack : List Forest) (w v : Outcome) (l : Ahead) (y : Contents) (k : Ends) (q : Spot) →
    Among base stack k v q → Among base stack (again_by w l y k) v q
again_old base stack none_left v l y k q a = a
again_old base stack something v l y k q a = a
again_old base stack block v l y k q a = a
again_old base stack (again c d) v l y k q a = later_one a

again_so : (base : Forest) (stack : List Forest) (k : Ends) (c d : Bool) (q : Spot) →
    Among base stack k (again c d) q → Among base stack (agains k) (again c d) q
again_so base stack [] c d q a = elim a [ ]
again_so base stack (e ∷ k) c d q (this_one i s h) = again_new base stack e.0 c d e.1 e.2 (agains k) q i s h
again_so base stack (e ∷ k) c d q (later_one a) =
    again_old base stack e.0 (again c d) e.1 e.2 (agains k) q (again_so base stack k c d q a)

of_flags : (base : Forest) (stack : List Forest) (f : Bool → Bool → Ends) (a b : Bool) (v : Outcome) (q : Spot) →
    Among base stack (f a b) v q → Among base stack (any_flags f) v q
of_flags base stack f true true v q a =
    pool_left base stack (pool (f true true) (f true false)) (pool (f false true) (f false false)) v q
    (pool_left base stack (f true true) (f true false) v q a)
of_flags base stack f true false v q a =
    pool_left base stack (pool (f true true) (f true false)) (pool (f false true) (f false false)) v q
    (pool_right base stack (f true true) (f true false) v q a)
of_flags base stack f false true v q a =
    pool_right base stack (pool (f true true) (f true false)) (pool (f false true) (f false false)) v q
    (pool_left base stack (f false true) (f false false) v q a)
of_flags base stack f false false v q a =
    pool_right base stack (pool (f true true) (f true false)) (pool (f false true) (f false false)) v q
    (pool_right base stack (f false true) (f false false) v q a)

-- what stands there at the beginning
pub nothing_yet : (p : Spot) → Is p.forest p.below (contents nothing []) p
nothing_yet p = record { new = none; forest = refl; below = refl; holds = no_child; so = record { nodes = tt; plain = refl } }

-- What is computed of a script is so of its run between two spots, whatever comes next and stands at the first.
abbrev pub RunSo : Script Rule → Spot → Spot → Outcome → Type 0
RunSo s p q v =
    (l : Ahead) (x : Contents) → Comes l p.rest → (base : Forest) (stack : List Forest) → Is base stack x p →
    Among base stack (ends s l x) v q

-- This is so of each turn of a loop.
pub data TurnsSo (h : Bool → Bool → Script Rule) : Bool → Bool → Spot → Spot → Outcome → Type 0 where
  one_turn : {a b c d : Bool} {p r q : Spot} {v : Outcome} → RunSo (h a b) p r (again c d) → TurnsSo h c d r q v →
      TurnsSo h a b p q v
  last_turn : {a b : Bool} {p q : Spot} {v : Outcome} → RunSo (h a b) p q v → goes_on v ≡ false → TurnsSo h a b p q v

abbrev pub turn_of : (Bool → Bool → Script Rule) → Turn
turn_of h a b l x = ends (h a b) l x

-- each element of a list
abbrev Each : {A : Type 0} → (A → Type 0) → List A → Type 0
Each P [] = Unit {0}
Each P (x ∷ xs) = P x × Each P xs

data Member {A : Type 0} (x : A) : List A → Type 0 where
  this_member : {y : A} {ys : List A} → x ≡ y → Member x (y ∷ ys)
  later_member : {y : A} {ys : List A} → Member x ys → Member x (y ∷ ys)

each_at : {A : Type 0} (P : A → Type 0) (x : A) (xs : List A) → Each P xs → Member x xs → P x
each_at P x [] h m = elim m [ ]
each_at P x (y ∷ ys) h (this_member e) = subst P (sym e) h.0
each_at P x (y ∷ ys) h (later_member m) = each_at P x ys h.1 m

each-++ : {A : Type 0} (P : A → Type 0) (xs ys : List A) → Each P xs → Each P ys → Each P (xs ++ ys)
each-++ P [] ys h i = i
each-++ P (x ∷ xs) ys h i = (h.0, each-++ P xs ys h.1 i)

-- Rows have what is computed of their turns.
explored_so : (n : ℕ) (f : Bool) (g : Start → Ends) (seen : List (Start × Ends)) (todo : List Start) →
    Each (λ w. w.1 ≡ g w.0) seen → Each (λ w. w.1 ≡ g w.0) (explored n f g seen todo)
explored_so zero f g seen todo h = h
explored_so (suc n) f g seen [] h = h
explored_so (suc n) f g seen (s ∷ todo) h =
    let on : Ends → List (Start × Ends) = λ k. explored n f g (seen ++ (s, k) ∷ []) (todo ++ starts_in f k) in
    by_choice (λ (ws : List (Start × Ends)). Each (λ w. w.1 ≡ g w.0) ws) (is_seen s seen) (explored n f g seen todo)
    (by_ends (g s) on) (λ e. explored_so n f g seen todo h)
    (λ e.
    subst (λ (ws : List (Start × Ends)). Each (λ w. w.1 ≡ g w.0) ws) (sym (ends_same (g s) on))
    (explored_so n f g (seen ++ (s, g s) ∷ []) (todo ++ starts_in f (g s))
    (each-++ (λ w. w.1 ≡ g w.0) seen ((s, g s) ∷ []) h (refl, tt))))

ordered_so : (n : ℕ) (f : Bool) (g : Start → Ends) (ws : List (Start × Ends)) → Each (λ w. w.1 ≡ g w.0) ws →
    Each (λ w. w.1 ≡ g w.0) (ordered n f ws)
ordered_so zero f g ws h = h
ordered_so (suc n) f g [] h = h
ordered_so (suc n) f g (w ∷ ws) h =
    by_choice (λ (us : List (Start × Ends)). Each (λ w. w.1 ≡ g w.0) us) (is_reached f w.0 ws)
    (ordered n f (ws ++ w ∷ [])) (w ∷ ordered n f ws)
    (λ e. ordered_so n f g (ws ++ w ∷ []) (each-++ (λ w. w.1 ≡ g w.0) ws (w ∷ []) h.1 (h.0, tt)))
    (λ e. (h.0, ordered_so n f g ws h.1))

solved_so : (f : Bool) (g : Start → Ends) (ts : List (Start × Ends)) (ws : List (Start × Content)) →
    Each (λ w. w.1 ≡ g w.0) ts → Each (λ r. r.turn ≡ g r.start) (solved f ts ws)
solved_so f g [] ws h = tt
solved_so f g (t ∷ ts) ws h =
    let arrive = arriving t.0 ws in
    let stay = staying f t.0 t.1 in
    let on : List Content → List Content → List Row =
    λ xs ys. row_of t xs ys ∷ solved f ts (leaving f t.0 (reached (row_of t xs ys)) t.1 ++ ws) in
    subst (λ (rs : List Row). Each (λ r. r.turn ≡ g r.start) rs)
    (sym (newest_same arrive (λ xs. by_newest stay (λ ys. on xs ys)) ∙ newest_same stay (λ ys. on arrive ys)))
    (h.0, solved_so f g ts (leaving f t.0 (reached (row_of t arrive stay)) t.1 ++ ws) h.1)

rows_so : (f : Bool) (g : Start → Ends) (s : Start) → Each (λ r. r.turn ≡ g r.start) (rows_from f g s)
rows_so f g s =
    let ws = explored 24 f g [] (s ∷ []) in
    solved_so f g (ordered 40 f ws) ((s, nothing) ∷ []) (ordered_so 40 f g ws (explored_so 24 f g [] (s ∷ []) tt))

lands_each : (f : Bool) (rows rs : List Row) → each_lands f rows rs ≡ true →
    Each (λ r. all_land f rows r r.turn ≡ true) rs
lands_each f rows [] h = tt
lands_each f rows (r ∷ rs) h =
    by_chosen (all_land f rows r r.turn) (each_lands f rows rs) h (λ e i. (e, lands_each f rows rs i))

-- a row for a start, where this may have been appended
record Landing (rows : List Row) (a : Content) (t : Start) : Type 0 where
  row : Row
  is : Member row rows
  start : t ≡ row.start
  arrives : has_content a row.arrives ≡ true

same_flag_so : (a b : Bool) → same_flag a b ≡ true → a ≡ b
same_flag_so true true h = refl
same_flag_so true false h = absurd cc
same_flag_so false true h = absurd cc
same_flag_so false false h = refl

equal_start_so : (s t : Start) → equal_start s t ≡ true → s ≡ t
equal_start_so s t h =
    by_chosen (same_flag s.first t.first) _ h
    (λ e i.
    by_chosen (same_flag s.second t.second) _ i
    (λ f j.
    same_start s.first t.first s.second t.second s.next t.next (same_flag_so s.first t.first e)
    (same_flag_so s.second t.second f) (equal_ahead_so s.next t.next j)))
  where
    same_start : (a c b d : Bool) (l m : Ahead) → a ≡ c → b ≡ d → l ≡ m →
        begin_at a b l ≡ begin_at c d m
    same_start a c b d l m e f i = rw (e, f, i) refl

goes_to_so : (a : Content) (t : Start) (rows : List Row) → goes_to a t rows ≡ true → Landing rows a t
goes_to_so a t [] h = absurd cc
goes_to_so a t (q ∷ qs) h =
    by_either (choose (equal_start t q.start) (has_content a q.arrives) false) (goes_to a t qs) h
    (λ e.
    by_chosen (equal_start t q.start) (has_content a q.arrives) e
    (λ i j. record { row = q; is = this_member refl; start = equal_start_so t q.start i; arrives = j }))
    (λ e.
    let x = goes_to_so a t qs e in
    record { row = x.row; is = later_member x.is; start = x.start; arrives = x.arrives })

-- What a loop has appended up to a turn, by a row.
record At (rows : List Row) (o p : Spot) (c d : Bool) : Type 0 where
  row : Row
  is : Member row rows
  first : row.start.first ≡ c
  second : row.start.second ≡ d
  comes : Comes row.start.next p.rest
  middle : Spot
  before : Part o.forest o.below (any_one row.arrives) middle.forest middle.below
  since : Part middle.forest middle.below (any_of (any_one row.stays)) p.forest p.below

at_reached : (rows : List Row) (o p : Spot) (c d : Bool) (m : At rows o p c d) →
    Part o.forest o.below (reached m.row) p.forest p.below
at_reached rows o p c d m =
    parts (any_one m.row.arrives) (any_of (any_one m.row.stays)) (reached m.row) o m.middle p
    (λ cs ds s t.
    holds_onto (any_one m.row.arrives) (many (any_one m.row.stays)) cs ds s (holds_many (any_one m.row.stays) ds t))
    m.before m.since

-- at a row that begins here
at_row : (rows : List Row) (o p : Spot) (a : Content) (t : Start) → Landing rows a t → Comes t.next p.rest →
    Part o.forest o.below a p.forest p.below → At rows o p t.first t.second
at_row rows o p a t x s h = record {
  row = x.row;
  is = x.is;
  first = sym (ap (λ (y : Start). y.first) x.start);
  second = sym (ap (λ (y : Start). y.second) x.start);
  comes = subst (λ (y : Start). Comes y.next p.rest) x.start s;
  middle = p;
  before = part_wider a (any_one x.row.arrives) o p (λ cs u. one_of_so a x.row.arrives cs x.arrives u) h;
  since = no_part (any_of (any_one x.row.stays)) p no_more;
}

by_way : {A : Type 0} (t a b : Bool) → choose t a b ≡ true → (t ≡ true → a ≡ true → A) → (b ≡ true → A) → A
by_way true a b h f g = f refl h
by_way false a b h f g = g h

-- A turn that appends leads to a row.
turn_lands : (rows : List Row) (o p q : Spot) (c d : Bool) (m : At rows o p c d) (a : Content) (t : Start) →
    lands rows m.row a t ≡ true → Comes t.next q.rest → Part p.forest p.below a q.forest q.below →
    At rows o q t.first t.second
turn_lands rows o p q c d m a t h s x =
    by_way (equal_start t m.row.start) (has_content a m.row.stays) (goes_to (onto (reached m.row) a) t rows) h
    (λ e i.
    let f = equal_start_so t m.row.start e in
    record {
      row = m.row;
      is = m.is;
      first = sym (ap (λ (y : Start). y.first) f);
      second = sym (ap (λ (y : Start). y.second) f);
      comes = subst (λ (y : Start). Comes y.next q.rest) f s;
      middle = m.middle;
      before = m.before;
      since =
          parts (any_of (any_one m.row.stays)) a (any_of (any_one m.row.stays)) m.middle p q
          (λ cs ds u w. one_again (any_one m.row.stays) cs ds u (one_of_so a m.row.stays ds i w)) m.since x;
    })
    (λ e.
    at_row rows o q (onto (reached m.row) a) t (goes_to_so (onto (reached m.row) a) t rows e) s
    (parts (reached m.row) a (onto (reached m.row) a) o p q (λ cs ds u w. holds_onto (reached m.row) a cs ds u w)
    (at_reached rows o p c d m) x))

-- the same by an outcome
abbrev AtEnd : List Row → Spot → Spot → Outcome → Type 0
AtEnd rows o q (again c d) = At rows o q c d
AtEnd rows o q w = Unit {0}

next_comes : (f c d : Bool) (l : Ahead) (rs : List Record) → Comes l rs → Comes (next_if f c d l).next rs
next_comes true c d l rs s = s
next_comes false c d l rs s = nothing_known rs

at_next : (f : Bool) (rows : List Row) (o q : Spot) (c d : Bool) (l : Ahead) →
    At rows o q (next_if f c d l).first (next_if f c d l).second → At rows o q c d
at_next true rows o q c d l m = m
at_next false rows o q c d l m = m

end_at : (f : Bool) (rows : List Row) (o p q : Spot) (a b c d : Bool) (m : At rows o p a b) (w : Outcome) (l : Ahead)
    (y : Contents) → end_lands f rows m.row w l y ≡ true → again c d ≡ w → Comes l q.rest →
    Is p.forest p.below y q → At rows o q c d
end_at f rows o p q a b c d m w l astray h e s i = absurd cc
end_at f rows o p q a b c d m w l (contents x (z ∷ os)) h e s i = absurd cc
end_at f rows o p q a b c d m none_left l (contents x []) h e s i = absurd cc
end_at f rows o p q a b c d m something l (contents x []) h e s i = absurd cc
end_at f rows o p q a b c d m block l (contents x []) h e s i = absurd cc
end_at f rows o p q a b c d m (again u v) l (contents x []) h e s i =
    subst (λ (w : Outcome). AtEnd rows o q w) (sym e)
    (at_next (is_kept f x) rows o q u v l
    (turn_lands rows o p q a b m x (next_at f u v l x) h (next_comes (is_kept f x) u v l q.rest s) i))

ends_at : (f : Bool) (rows : List Row) (o p q : Spot) (a b c d : Bool) (m : At rows o p a b) (k : Ends) →
    all_land f rows m.row k ≡ true → Among p.forest p.below k (again c d) q → At rows o q c d
ends_at f rows o p q a b c d m [] h x = elim x [ ]
ends_at f rows o p q a b c d m (e ∷ k) h (this_one i s y) =
    by_chosen (end_lands f rows m.row e.0 e.1 e.2) (all_land f rows m.row k) h
    (λ j g. end_at f rows o p q a b c d m e.0 e.1 e.2 j i s y)
ends_at f rows o p q a b c d m (e ∷ k) h (later_one x) =
    by_chosen (end_lands f rows m.row e.0 e.1 e.2) (all_land f rows m.row k) h
    (λ j g. ends_at f rows o p q a b c d m k g x)

row_lasts_so : (base : Forest) (stack : List Forest) (x : Contents) (r : Row) (rows : List Row) (v : Outcome)
    (q : Spot) → Member r rows → Among base stack (lasts (with_more (reached r) x) r.turn) v q →
    Among base stack (row_lasts x rows) v q
row_lasts_so base stack x r [] v q m a = elim m [ ]
row_lasts_so base stack x r (y ∷ rows) v q (this_member e) a =
    pool_left base stack (by_contents (with_more (reached y) x) (λ z. lasts z y.turn)) (row_lasts x rows) v q
    (by_same base stack (with_more (reached y) x) (λ z. lasts z y.turn) v q
    (subst (λ (z : Row). Among base stack (lasts (with_more (reached z) x) z.turn) v q) e a))
row_lasts_so base stack x r (y ∷ rows) v q (later_member m) a =
    pool_right base stack (by_contents (with_more (reached y) x) (λ z. lasts z y.turn)) (row_lasts x rows) v q
    (row_lasts_so base stack x r rows v q m a)

-- what is computed of the turn from a row
at_turn : (h : Bool → Bool → Script Rule) (rows : List Row) (o p q : Spot) (a b : Bool) (v : Outcome)
    (m : At rows o p a b) → m.row.turn ≡ turn_at (turn_of h) m.row.start → RunSo (h a b) p q v →
    Among p.forest p.below m.row.turn v q
at_turn h rows o p q a b v m e t =
    subst (λ (k : Ends). Among p.forest p.below k v q) (sym e)
    (flags m.row.start.first m.row.start.second m.first m.second
    (t m.row.start.next (contents nothing []) m.comes p.forest p.below (nothing_yet p)))
  where
    flags : (c d : Bool) → c ≡ a → d ≡ b →
        Among p.forest p.below (ends (h a b) m.row.start.next (contents nothing [])) v q →
        Among p.forest p.below (ends (h c d) m.row.start.next (contents nothing [])) v q
    flags c d e f x = rw (e, f) x

turns_keep : (f : Bool) (h : Bool → Bool → Script Rule) (rows : List Row) →
    Each (λ r. r.turn ≡ turn_at (turn_of h) r.start) rows → Each (λ r. all_land f rows r r.turn ≡ true) rows →
    (base : Forest) (stack : List Forest) (x : Contents) {a b : Bool} (o p q : Spot) (v : Outcome) →
    TurnsSo h a b p q v → Is base stack x o → At rows o p a b → Among base stack (row_lasts x rows) v q
turns_keep f h rows e j base stack x o p q v (one_turn {a = a} {b = b} {c = c} {d = d} {r = r} t u) i m =
    turns_keep f h rows e j base stack x o r q v u i
    (ends_at f rows o p r a b c d m m.row.turn (each_at (λ r. all_land f rows r r.turn ≡ true) m.row rows j m.is)
    (at_turn h rows o p r a b (again c d) m
    (each_at (λ r. r.turn ≡ turn_at (turn_of h) r.start) m.row rows e m.is) t))
turns_keep f h rows e j base stack x o p q v (last_turn {a = a} {b = b} t g) i m =
    row_lasts_so base stack x m.row rows v q m.is
    (last_among base stack m.row.turn v (with_more (reached m.row) x) p q g
    (is_behind base stack (reached m.row) x o p i (at_reached rows o p a b m))
    (at_turn h rows o p q a b v m (each_at (λ r. r.turn ≡ turn_at (turn_of h) r.start) m.row rows e m.is) t))

by_rows_so : (f : Bool) (h : Bool → Bool → Script Rule) (base : Forest) (stack : List Forest) (x : Contents)
    {a b : Bool} (l : Ahead) (p q : Spot) (v : Outcome) (k : Ends) → TurnsSo h a b p q v → Comes l p.rest →
    Is base stack x p → Among base stack k v q →
    Among base stack (by_rows f (turn_of h) (begin_at a b l) x k) v q
by_rows_so f h base stack x {a = a} {b = b} l p q v k t s i last =
    let start = begin_at a b l in
    let rows = rows_from f (turn_at (turn_of h)) start in
    by_choice (λ (j : Ends). Among base stack j v q) (are_all f start rows) (row_lasts x rows) k
    (λ e.
    by_chosen (goes_to nothing start rows) (each_lands f rows rows) e
    (λ g j.
    turns_keep f h rows (rows_so f (turn_at (turn_of h)) start) (lands_each f rows rows j) base stack x p p q v t i
    (at_row rows p p nothing start (goes_to_so nothing start rows g) s (no_part nothing p no_child))))
    (λ e. last)

-- turns that go on from what stands there
equal_contents_so : (x y : Contents) → equal_contents x y ≡ true → x ≡ y
equal_contents_so astray astray h = refl
equal_contents_so astray (contents b bs) h = absurd cc
equal_contents_so (contents a os) astray h = absurd cc
equal_contents_so (contents a os) (contents b bs) h =
    by_chosen (equal a b) (equal_older os bs) h (λ e i. rw (equal_so a b e, equal_older_so os bs i) refl)

equal_ends_so : (base : Forest) (stack : List Forest) (j k : Ends) (v : Outcome) (p : Spot) → equal_ends j k ≡ true →
    Among base stack j v p → Among base stack k v p
equal_ends_so base stack [] k v p h a = elim a [ ]
equal_ends_so base stack (e ∷ j) [] v p h a = absurd cc
equal_ends_so base stack (e ∷ j) (f ∷ k) v p h (this_one u s c) =
    by_chosen (same_end e.0 e.1 f) _ h
    (λ i n.
    by_chosen (equal_contents e.2 f.2) _ n
    (λ m o.
    let w = same_end_so e.0 e.1 f i in
    this_one (u ∙ w.0) (subst (λ (l : Ahead). Comes l p.rest) w.1 s)
    (subst (λ (x : Contents). Is base stack x p) (equal_contents_so e.2 f.2 m) c)))
equal_ends_so base stack (e ∷ j) (f ∷ k) v p h (later_one c) =
    by_chosen (same_end e.0 e.1 f) _ h
    (λ i n.
    by_chosen (equal_contents e.2 f.2) _ n (λ m o. later_one (equal_ends_so base stack j k v p o c)))

turn_goes : (h : Bool → Bool → Script Rule) (base : Forest) (stack : List Forest) (k : Ends) (a b : Bool) (p q : Spot)
    (v : Outcome) → RunSo (h a b) p q v → Among base stack k (again a b) p →
    Among base stack (gather (turn_from (turn_of h)) k) v q
turn_goes h base stack k a b p q v t i =
    gathered base stack k (turn_from (turn_of h)) (again a b) v p q (λ l x s c. t l x s base stack c) i

rounds_keep : (h : Bool → Bool → Script Rule) (k : Ends) →
    ((base : Forest) (stack : List Forest) (c d : Bool) (q : Spot) →
    Among base stack (gather (turn_from (turn_of h)) k) (again c d) q → Among base stack k (again c d) q) →
    (base : Forest) (stack : List Forest) {a b : Bool} (p q : Spot) (v : Outcome) → TurnsSo h a b p q v →
    Among base stack k (again a b) p → Among base stack (dones (gather (turn_from (turn_of h)) k)) v q
rounds_keep h k s base stack p q v (one_turn {a = a} {b = b} {c = c} {d = d} {r = r} t u) i =
    rounds_keep h k s base stack r q v u (s base stack c d r (turn_goes h base stack k a b p r (again c d) t i))
rounds_keep h k s base stack p q v (last_turn {a = a} {b = b} t g) i =
    done_so base stack (gather (turn_from (turn_of h)) k) v q g (turn_goes h base stack k a b p q v t i)

flags_keep : (h : Bool → Bool → Script Rule) (base : Forest) (stack : List Forest) {a b : Bool} (p q : Spot)
    (v : Outcome) → TurnsSo h a b p q v →
    Among base stack (dones (any_flags (λ c d. turn_of h c d [] astray))) v q
flags_keep h base stack p q v (one_turn {r = r} t u) = flags_keep h base stack r q v u
flags_keep h base stack p q v (last_turn {a = a} {b = b} t g) =
    done_so base stack (any_flags (λ c d. turn_of h c d [] astray)) v q g
    (of_flags base stack (λ c d. turn_of h c d [] astray) a b v q
    (t [] astray (nothing_known p.rest) base stack tt))

rounds_so : (n : ℕ) (h : Bool → Bool → Script Rule) (base : Forest) (stack : List Forest) (k : Ends) {a b : Bool}
    (p q : Spot) (v : Outcome) → TurnsSo h a b p q v → Among base stack k (again a b) p →
    Among base stack (rounds n (turn_of h) k) v q
rounds_so zero h base stack k p q v t i = flags_keep h base stack p q v t
rounds_so (suc n) h base stack k {a = a} {b = b} p q v t i =
    let g = gather (turn_from (turn_of h)) k in
    let j = pool (agains g) k in
    subst (λ (l : Ends). Among base stack l v q)
    (sym (ends_same j (λ m. choose (equal_ends m k) (dones g) (rounds n (turn_of h) m))))
    (by_choice (λ (l : Ends). Among base stack l v q) (equal_ends j k) (dones g) (rounds n (turn_of h) j)
    (λ e.
    rounds_keep h k
    (λ u s c d r f.
    equal_ends_so u s j k (again c d) r e
    (pool_left u s (agains g) k (again c d) r (again_so u s g c d r f)))
    base stack p q v t i)
    (λ e. rounds_so n h base stack j p q v t (pool_right base stack (agains g) k (again a b) p i)))

loop_so : (h : Bool → Bool → Script Rule) {a b : Bool} (p q : Spot) (v : Outcome) → TurnsSo h a b p q v →
    RunSo (loop h a b) p q v
loop_so h {a = a} {b = b} p q v u l x s base stack i =
    let g = turn_of h in
    let last = rounds 4 g ((again a b, l, x) ∷ []) in
    by_rows_so true h base stack x l p q v (by_rows false g (begin_at a b []) x last) u s i
    (by_rows_so false h base stack x [] p q v last u (nothing_known p.rest) i
    (rounds_so 4 h base stack ((again a b, l, x) ∷ []) p q v u (this_one refl s i)))

-- What is shown of a run: of a loop, that it is so of each turn.
abbrev pub RunKept : Script Rule → Spot → Spot → Outcome → Type 0
RunKept (loop h a b) p q v = TurnsSo h a b p q v
RunKept s p q v = RunSo s p q v

run_so : (s : Script Rule) (p q : Spot) (v : Outcome) → RunKept s p q v → RunSo s p q v
run_so (loop h a b) p q v k = loop_so h p q v k
run_so s p q v k = k

-- Each rule brings what is claimed of it, where its script ends as is computed.
abbrev pub BringsSo : Type 0
BringsSo =
    (c : Rule) (p q : Spot) (v : Outcome) → Among p.forest p.below (ends (script_of c) [] (contents nothing [])) v q →
    Brought (brings c) v p q

-- tokens that are left are of the input
left : (n : ℕ) (rs : List Record) → All IsTokenRecord rs → All IsTokenRecord (drop n rs)
left n rs t = All-drop IsTokenRecord n rs t

pub tokens_left : {s : Script Rule} (p q : Spot) (v : Outcome) → Runs script_of s p q v → All IsTokenRecord p.rest →
    All IsTokenRecord q.rest
tokens_left p q v gives t = t
tokens_left p q v (passes e r) t = tokens_left p q v r t
tokens_left p q v (fails e r) t = tokens_left p q v r t
tokens_left p q v (ends_so e r) t = tokens_left p q v r t
tokens_left p q v (ends_else e r) t = tokens_left p q v r t
tokens_left p q v (takes {k = c} e r) t = tokens_left (taken c (width c) p) q v r (left (width c) p.rest t)
tokens_left p q v (takes_any e r) t = tokens_left (taken (next_kind p.rest) 1 p) q v r (left 1 p.rest t)
tokens_left p q v (bears {k = c} e r) t = tokens_left (taken c 1 p) q v r (left 1 p.rest t)
tokens_left p q v (reports {bytes = m} r) t = tokens_left (reported m p) q v r t
tokens_left p q v (reports_next {bytes = m} r) t =
    tokens_left (reported (with_kind m (next_kind p.rest)) p) q v r t
tokens_left p q v (skips {bytes = m} r) t = tokens_left (skipped_over m p) q v r (left 1 p.rest t)
tokens_left p q v (starts r) t = tokens_left (started p) q v r t
tokens_left p q v (precedes r) t = tokens_left (preceded p) q v r t
tokens_left p q v (finishes {k = c} r) t = tokens_left (finished c p) q v r t
tokens_left p q v (extends r) t = tokens_left (extended p) q v r t
tokens_left p q v (abandons r) t = tokens_left (abandoned p) q v r t
tokens_left p q v (splits_dotted e f r) t = tokens_left (split_apart true p) q v r (left 1 p.rest t)
tokens_left p q v (splits_whole e f r) t = tokens_left (split_apart false p) q v r (left 1 p.rest t)
tokens_left p q v (follows {r = r} {w = w} i j) t = tokens_left r q v j (tokens_left p r w i t)
tokens_left p q v (obeys {r = r} {w = w} i j) t = tokens_left r q v j (tokens_left p r w i t)
tokens_left p q v (turns {c = c} {d = d} {r = r} i j) t = tokens_left r q v j (tokens_left p r (again c d) i t)
tokens_left p q v (stops i g) t = tokens_left p q v i t

kept : BringsSo → {s : Script Rule} (p q : Spot) (v : Outcome) → All IsTokenRecord p.rest → Runs script_of s p q v →
    RunKept s p q v
kept o p q v t (gives {v = w}) = λ l x s base stack k. this_one refl s k
kept o p q v t (passes {h = h} {s = a} {t = b} e r) =
    λ l x s base stack k.
    pool_left base stack (on_ways (λ m. ends a m x) (learned h true l)) (on_ways (λ m. ends b m x) (learned h false l))
    v q
    (ways_go base stack (λ m. ends a m x) (learned h true l) v p q
    (λ m u. run_so a p q v (kept o p q v t r) m x u base stack k) (learned_so h true l p.rest t s e))
kept o p q v t (fails {h = h} {s = a} {t = b} e r) =
    λ l x s base stack k.
    pool_right base stack (on_ways (λ m. ends a m x) (learned h true l))
    (on_ways (λ m. ends b m x) (learned h false l)) v q
    (ways_go base stack (λ m. ends b m x) (learned h false l) v p q
    (λ m u. run_so b p q v (kept o p q v t r) m x u base stack k) (learned_so h false l p.rest t s e))
kept o p q v t (ends_so {s = a} {t = b} e r) =
    λ l x s base stack k.
    pool_left base stack (ends a l x) (ends b l x) v q (run_so a p q v (kept o p q v t r) l x s base stack k)
kept o p q v t (ends_else {s = a} {t = b} e r) =
    λ l x s base stack k.
    pool_right base stack (ends a l x) (ends b l x) v q (run_so b p q v (kept o p q v t r) l x s base stack k)
kept o p q v t (takes {k = c} {s = a} e r) =
    λ l x s base stack k.
    by_both base stack (drop (width c) l) (with_more (leaf_of (c ∷ [])) x) (λ m y. ends a m y) v q
    (run_so a (taken c (width c) p) q v (kept o (taken c (width c) p) q v (left (width c) p.rest t) r)
    (drop (width c) l) (with_more (leaf_of (c ∷ [])) x) (comes_drop (width c) l p.rest s) base stack
    (is_leaf base stack c (width c) x p (taken c (width c) p) refl refl k))
kept o p q v t (takes_any {s = a} e r) =
    let n = next_kind p.rest in
    λ l x s base stack k.
    by_both base stack (drop 1 l) (with_more (next_leaf l) x) (λ m y. ends a m y) v q
    (run_so a (taken n 1 p) q v (kept o (taken n 1 p) q v (left 1 p.rest t) r) (drop 1 l) (with_more (next_leaf l) x)
    (comes_drop 1 l p.rest s) base stack
    (is_any base stack (next_leaf l) n 1 x p (taken n 1 p) refl refl (next_leaf_so l p.rest s) k))
kept o p q v t (bears {k = c} {s = a} e r) =
    λ l x s base stack k.
    by_both base stack (drop 1 l) (with_more (leaf_of (c ∷ [])) x) (λ m y. ends a m y) v q
    (run_so a (taken c 1 p) q v (kept o (taken c 1 p) q v (left 1 p.rest t) r) (drop 1 l)
    (with_more (leaf_of (c ∷ [])) x) (comes_drop 1 l p.rest s) base stack
    (is_leaf base stack c 1 x p (taken c 1 p) refl refl k))
kept o p q v t (reports {bytes = m} {s = a} r) =
    λ l x s base stack k.
    by_same base stack (with_more spoilt x) (λ y. ends a l y) v q
    (run_so a (reported m p) q v (kept o (reported m p) q v t r) l (with_more spoilt x) s base stack
    (is_reported base stack m x p k))
kept o p q v t (reports_next {bytes = m} {s = a} r) =
    let bytes = with_kind m (next_kind p.rest) in
    λ l x s base stack k.
    by_same base stack (with_more spoilt x) (λ y. ends a l y) v q
    (run_so a (reported bytes p) q v (kept o (reported bytes p) q v t r) l (with_more spoilt x) s base stack
    (is_reported base stack bytes x p k))
kept o p q v t (skips {bytes = m} {s = a} r) =
    λ l x s base stack k.
    by_both base stack (drop 1 l) (with_more spoilt x) (λ n y. ends a n y) v q
    (run_so a (skipped_over m p) q v (kept o (skipped_over m p) q v (left 1 p.rest t) r) (drop 1 l)
    (with_more spoilt x) (comes_drop 1 l p.rest s) base stack (is_skipped base stack m x p k))
kept o p q v t (starts {s = a} r) =
    λ l x s base stack k.
    by_same base stack (opened x) (λ y. ends a l y) v q
    (run_so a (started p) q v (kept o (started p) q v t r) l (opened x) s base stack (is_opened base stack x p k))
kept o p q v t (precedes {s = a} r) =
    λ l x s base stack k.
    by_same base stack (with_last x) (λ y. ends a l y) v q
    (run_so a (preceded p) q v (kept o (preceded p) q v t r) l (with_last x) s base stack
    (is_preceded base stack x p k))
kept o p q v t (finishes {k = c} {s = a} r) =
    λ l x s base stack k.
    by_same base stack (closed c x) (λ y. ends a l y) v q
    (run_so a (finished c p) q v (kept o (finished c p) q v t r) l (closed c x) s base stack
    (is_closed base stack c x p k))
kept o p q v t (extends {s = a} r) =
    λ l x s base stack k.
    by_same base stack (drawn x) (λ y. ends a l y) v q
    (run_so a (extended p) q v (kept o (extended p) q v t r) l (drawn x) s base stack (is_drawn base stack x p k))
kept o p q v t (abandons {s = a} r) =
    λ l x s base stack k.
    by_same base stack (given_up x) (λ y. ends a l y) v q
    (run_so a (abandoned p) q v (kept o (abandoned p) q v t r) l (given_up x) s base stack
    (is_given_up base stack x p k))
kept o p q v t (splits_dotted {s = a} {t = b} e f r) =
    λ l x s base stack k.
    by_both base stack (drop 1 l) (parted x) (λ m y. pool (ends a m y) (ends b m y)) v q
    (pool_left base stack (ends a (drop 1 l) (parted x)) (ends b (drop 1 l) (parted x)) v q
    (run_so a (split_apart true p) q v (kept o (split_apart true p) q v (left 1 p.rest t) r) (drop 1 l) (parted x)
    (comes_drop 1 l p.rest s) base stack (is_parted base stack true x p k)))
kept o p q v t (splits_whole {s = a} {t = b} e f r) =
    λ l x s base stack k.
    by_both base stack (drop 1 l) (parted x) (λ m y. pool (ends a m y) (ends b m y)) v q
    (pool_right base stack (ends a (drop 1 l) (parted x)) (ends b (drop 1 l) (parted x)) v q
    (run_so b (split_apart false p) q v (kept o (split_apart false p) q v (left 1 p.rest t) r) (drop 1 l) (parted x)
    (comes_drop 1 l p.rest s) base stack (is_parted base stack false x p k)))
kept o p q v t (follows {s = a} {n = h} {r = r} {w = w} i j) =
    λ l x s base stack k.
    let run = run_so a p r w (kept o p r w t i) in
    let alone = ends a l (contents nothing []) in
    gathered base stack (alone_or x alone (ends a l x)) (λ w m y. ends (h w) m y) w v r q
    (λ m y u c. run_so (h w) r q v (kept o r q v (tokens_left p r w i t) j) m y u base stack c)
    (alone_so base stack alone (ends a l x) w x p r k
    (run l (contents nothing []) s p.forest p.below (nothing_yet p)) (run l x s base stack k))
kept o p q v t (obeys {c = c} {n = h} {r = r} {w = w} i j) =
    λ l x s base stack k.
    gathered base stack (rule_ends x (brings c)) (λ w m y. ends (h w) m y) w v r q
    (λ m y u d. run_so (h w) r q v (kept o r q v (tokens_left p r w i t) j) m y u base stack d)
    (rule_so base stack (brings c) x w p r k
    (o c p r w
    (run_so (script_of c) p r w (kept o p r w t i) [] (contents nothing []) (nothing_known p.rest) p.forest p.below
    (nothing_yet p))))
kept o p q v t (turns {h = h} {a = a} {b = b} {c = c} {d = d} {r = r} i j) =
    one_turn (run_so (h a b) p r (again c d) (kept o p r (again c d) t i))
    (kept o r q v (tokens_left p r (again c d) i t) j)
kept o p q v t (stops {h = h} {a = a} {b = b} i g) = last_turn (run_so (h a b) p q v (kept o p q v t i)) g

-- What is computed of a script is so of each of its runs over tokens.
pub keeps : BringsSo → {s : Script Rule} (p q : Spot) (v : Outcome) → All IsTokenRecord p.rest →
    Runs script_of s p q v → RunSo s p q v
keeps o {s = s} p q v t r = run_so s p q v (kept o p q v t r)
