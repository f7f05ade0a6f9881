-- What a table derives is what the scripts make of it, if its rows are checked.
use Rattle.std.proofs.Common.{◌≡◌, ℕ, true, List, [], ◌++◌, Some, refl, ◌∷◌, subst, suc, zero}
use Rattle.rap_events.proofs.Truth.{and_left, and_right, and_both}
use Rattle.rap_events.specs.Forest.{Forest, none}
use Rattle.rap_events.specs.Record.{Record}
use Rattle.rap_grammar_scripts.specs.Knot.{script_of}
use Rattle.rap_grammar_scripts.specs.Script.{Script, Outcome}
use Rattle.rap_grammar_scripts.specs.declared.rule.Rule.{Rule}
use Rattle.rap_grammar_table.specs.Category.{Category}
use Rattle.rap_grammar_table.proofs.Built.{at_start}
use Rattle.rap_grammar_table.proofs.Good.{Good, good_token, good_word, good_operator, good_category, Made, made_end, made_begin, made_close, made_piece, made_first, made_second, made_last, made_turn, made_repeat, made_group, made_folded_none, made_folded_more, made_folds, made_guarded, ReadsBy}
use Rattle.rap_grammar_table.specs.Known.{Place, Sees, anything}
use Rattle.rap_grammar_table.proofs.Evaluate.{says}
use Rattle.rap_grammar_table.proofs.Lasts.{ends_plain}
use Rattle.rap_grammar_table.proofs.Look.{look, after_way, no_ways, followed, followed_in, followed_piece, is_one_node, depth}
use Rattle.rap_grammar_table.proofs.Refusal.{ends_as, check, in_part, Verdict, accepted}
use Rattle.rap_grammar_table.proofs.Hints.{Table}
use Rattle.rap_grammar_table.specs.Table.{Piece, tok, word, comp, cat, Items, nil, begin, close, piece, choice, repeat, turns_of, group, folds, folding, way, unless, appended, HasWay, first_turn, other_turn, Goal, one, rest_of, row_at, Derives, by_row, a_token, a_word, an_operator, ended, begun, closed, put, first_way, second_way, last_turn, one_turn, repeated, grouped, folded_none, folded_more, folded, guarded}
use Rattle.rap_grammar_table.proofs.Walk.{walk, reads_row, reads_row_by, reads_rows, nesting, part_so, all_accepted}
use Rattle.rap_grammar_table.proofs.Ways.{has_outcome, some_outcome, ends_so}
use Rattle.rap_grammar_table.proofs.Known.{weaker}
use Rattle.rap_grammar_table.proofs.LastsLaws.{unbraced}
use Rattle.rap_grammar_table.proofs.LookLaws.{seen, look_appended}
use Rattle.rap_grammar_table.proofs.Nodes.{one_node}
use Rattle.rap_grammar_table.proofs.Verdict.{check_so, told_so, both_left, both_right}
use Rattle.rap_grammar_table.proofs.WalkLaws.{walks}
use Rattle.rap_grammar_table.proofs.Wholes.{whole}

-- a script reads a row
pub row_read : (t : Table) (d : ℕ) (g : List (List Place)) (a : Script Rule) (vs : List Outcome) (is : Items)
    (l : List Record) (ks : List Record) (us : List Forest) (y f : Forest) (b : List Forest) → Sees g l →
    Made t l is none [] us ks y → reads_row_by (reads_rows d t) t g a vs is ≡ accepted → ReadsBy a vs ks y l f b
row_read t d g a vs is l ks us y f b s m w =
    let x =
    whole t g l us y f b (λ v. check (has_outcome vs v) (ends_as v)) a ks s
    (walks t d g l us y f b s a (at_start is) (ends_so t g vs) ks
    (record { left = us; left_is = refl; made = m; nodes = (tt, tt); facts = tt }) w)
    in
    record { outcome = x.outcome; among_them = check_so (has_outcome vs x.outcome) (ends_as x.outcome) x.so; run = x.run }

-- one of some rows
pub of_accepted : (f : Items → Verdict) (rs : List Items) (n : ℕ) (row : Items) → all_accepted f rs ≡ accepted →
    row_at n rs ≡ Some row → f row ≡ accepted
of_accepted f [] n row h e = absurd cc
of_accepted f (r ∷ rs) zero row h e =
    subst (λ (x : Items). f x ≡ accepted) (same_some r row e) (both_left (f r) (all_accepted f rs) h)
  where
    same_some : (r row : Items) → Some r ≡ Some row → r ≡ row
    same_some r row e = cc
of_accepted f (r ∷ rs) (suc n) row h e = of_accepted f rs n row (both_right (f r) (all_accepted f rs) h) e

-- a script reads all rows of a category
rows_read : (t : Table) (d : ℕ) (c : Category) (n : ℕ) (row : Items) → row_at n (t.rows c) ≡ Some row → (a : Script Rule)
    (vs : List Outcome) (l : List Record) (ks : List Record) (us : List Forest) (y f : Forest) (b : List Forest) →
    Sees (t.follows c) l → Made t l row none [] us ks y → reads_rows d t c a vs ≡ accepted → ReadsBy a vs ks y l f b
rows_read t zero c n row e a vs l ks us y f b s m w = absurd cc
rows_read t (suc d) c n row e a vs l ks us y f b s m w =
    row_read t d (t.follows c) a vs row l ks us y f b s m
    (told_so in_part (reads_row_by (reads_rows d t) t (t.follows c) a vs row)
    (of_accepted (part_so (λ g r m. walk (reads_rows d t) t g a r m) t (t.follows c) vs) (t.rows c) n row w e))

-- a table whose rows are checked
pub record Checked (t : Table) : Type 0 where
  pub reads : (c : Category) (n : ℕ) (row : Items) → row_at n (t.rows c) ≡ Some row → (r : Rule) →
      some_outcome (t.reads r c) ≡ true → reads_row t (t.follows c) (script_of r) (t.reads r c) row ≡ accepted
  pub begins : (c : Category) (n : ℕ) (row : Items) → row_at n (t.rows c) ≡ Some row →
      says (look t row (t.follows c)) (t.firsts c) ≡ true
  pub followed : (c : Category) (n : ℕ) (row : Items) → row_at n (t.rows c) ≡ Some row → followed t row (t.follows c) (t.follows c) ≡ true
  pub is_node : (c : Category) (n : ℕ) (row : Items) → row_at n (t.rows c) ≡ Some row → t.is_node c ≡ true →
      is_one_node t depth row ≡ true
  pub unbraced : (c : Category) (n : ℕ) (row : Items) → row_at n (t.rows c) ≡ Some row → t.unbraced c ≡ true → ends_plain t row ≡ true

-- what follows a piece is what may follow it
abbrev pub MayFollow : Table → Piece → List Record → Type 0
MayFollow t (tok kinds words) l = Unit {0}
MayFollow t (word k) l = Unit {0}
MayFollow t (comp k) l = Unit {0}
MayFollow t (cat c) l = Sees (t.follows c) l

-- the rest of a row, of some pieces
pub record MadeOf (t : Table) (l : List Record) (is : Items) (x : Forest) (xs : List Forest) (ks : List Record)
    (y : Forest) : Type 0 where
  pub pieces : List Forest
  pub made : Made t l is x xs pieces ks y

abbrev pub Claim : Table → Goal → List Record → Forest → Type 0
Claim t (one p) ks y = (l : List Record) → MayFollow t p l → Good t p ks y l
Claim t (rest_of is x xs) ks y = (g : List (List Place)) (l : List Record) → Sees g l → followed t is g g ≡ true →
    MadeOf t l is x xs ks y

abbrev AfterTurn : Type 0
AfterTurn = ℕ → List (List Place)

followed_appended : (t : Table) (r : AfterTurn) (a b : Items) (g e : List (List Place)) →
    followed_in t r a (look t b g) e ≡ true → followed_in t r b g e ≡ true → followed_in t r (appended a b) g e ≡ true
followed_appended t r nil b g e h i = i
followed_appended t r (begin a) b g e h i = followed_appended t r a b g e h i
followed_appended t r (close k a) b g e h i = followed_appended t r a b g e h i
followed_appended t r (piece p a) b g e h i =
    and_both _ _ (rw (look_appended t a b g) (and_left (followed_piece t p (look t a (look t b g))) _ h))
    (followed_appended t r a b g e (and_right (followed_piece t p (look t a (look t b g))) _ h) i)
followed_appended t r (repeat x y a) b g e h i =
    let n = look t a (look t b g) in
    let z = look t x anything ++ look t y n in
    let h2 = and_right (followed t x z z) _ h in
    and_both _ _ (rw (look_appended t a b g) (and_left (followed t x z z) _ h))
    (and_both _ _ (rw (look_appended t a b g) (and_left (followed t y n n) _ h2))
    (followed_appended t r a b g e (and_right (followed t y n n) _ h2) i))
followed_appended t r (turns_of x y) b g e h i =
    let n = look t b g in
    let z = look t x anything ++ look t y n in
    and_both _ _ (and_left (followed t x z z) _ h) (and_both _ _ (and_right (followed t x z z) _ h) i)
followed_appended t r (group x a) b g e h i =
    let n = look t a (look t b g) in
    and_both _ _ (rw (look_appended t a b g) (and_left (followed t x n n) _ h))
    (followed_appended t r a b g e (and_right (followed t x n n) _ h) i)
followed_appended t r (folds n ws a) b g e h i =
    let z = followed_in t (after_way t ws (look t a (look t b g))) ws [] [] in
    and_both _ _ (rw (look_appended t a b g) (and_left z _ h)) (followed_appended t r a b g e (and_right z _ h) i)
followed_appended t r (folding n ws) b g e h i = and_both _ _ h i
followed_appended t r (way j x m a) b g e h i =
    and_both _ _ (and_left (followed t x (r m) (r m)) _ h)
    (followed_appended t r a b g e (and_right (followed t x (r m) (r m)) _ h) i)
followed_appended t r (unless x w a) b g e h i =
    and_both _ _ (and_left (says e w) _ h) (followed_appended t r a b g e (and_right (says e w) _ h) i)
followed_appended t r (choice x y a) b g e h i =
    let n = look t a (look t b g) in
    let h2 = and_right (followed_in t r x n e) _ h in
    and_both _ _ (rw (look_appended t a b g) (and_left (followed_in t r x n e) _ h))
    (and_both _ _ (rw (look_appended t a b g) (and_left (followed_in t r y n e) _ h2))
    (followed_appended t r a b g e (and_right (followed_in t r y n e) _ h2) i))

-- a turn is followed by what may follow it
way_followed : (t : Table) (r : AfterTurn) (g e : List (List Place)) {ws a : Items} {js : List ℕ} {m : ℕ} → HasWay ws js a m →
    followed_in t r ws g e ≡ true → followed t a (r m) (r m) ≡ true
way_followed t r g e (first_turn {m = m} {a = a}) h = and_left (followed t a (r m) (r m)) _ h
way_followed t r g e (other_turn {n = n} {b = b} w) h =
    way_followed t r g e w (and_right (followed t b (r n) (r n)) _ h)

may_follow : (t : Table) (p : Piece) (g : List (List Place)) (l : List Record) → followed_piece t p g ≡ true →
    Sees g l → MayFollow t p l
may_follow t (tok kinds words) g l h s = tt
may_follow t (word k) g l h s = tt
may_follow t (comp k) g l h s = tt
may_follow t (cat c) g l h s = weaker g (t.follows c) l h s

-- turns have no pieces of their own, nor have nodes around the last one
turns_made : {t : Table} {l : List Record} {a z : Items} {us : List Forest} {ks : List Record} {y : Forest} →
    Made t l (turns_of a z) none [] us ks y → Made t l (turns_of a z) none [] [] ks y
turns_made (made_last m) = made_last m
turns_made (made_turn m n) = made_turn m n

folding_made : {t : Table} {l : List Record} {n : ℕ} {ws : Items} {x : Forest} {us : List Forest} {ks : List Record}
    {y : Forest} → Made t l (folding n ws) x [] us ks y → Made t l (folding n ws) x [] [] ks y
folding_made made_folded_none = made_folded_none
folding_made (made_folded_more w i m n) = made_folded_more w i m n

pub claim : {t : Table} → Checked t → {g : Goal} {ks : List Record} {y : Forest} → Derives t.rows g ks y → Claim t g ks y
claim {t = t} o (by_row {c = c} {row = row} {ks = ks} {x = y} n e d) = λ l s.
    let q = claim o d (t.follows c) l s (o.followed c n row e) in
    let m = q.made in
    good_category
    (weaker (look t row (t.follows c)) (t.firsts c) (ks ++ l) (o.begins c n row e) (seen t (t.follows c) m s))
    (λ h. one_node depth m (o.is_node c n row e h))
    (λ h. unbraced m (o.unbraced c n row e h))
    (λ h i a vs f b w. rows_read t i c n row e a vs l ks q.pieces y f b s m w)
    (λ r f b h.
    let x = row_read t nesting (t.follows c) (script_of r) (t.reads r c) row l ks q.pieces y f b s m (o.reads c n row e r h) in
    record { outcome = x.outcome; among_them = x.among_them; run = x.run })
claim o (a_token m w) = λ l s. good_token m w
claim o (a_word e i) = λ l s. good_word e i
claim o (an_operator x) = λ l s. good_operator x
claim o ended = λ g l s h. record { pieces = []; made = made_end }
claim o (begun d) = λ g l s h. let m = claim o d g l s h in record { pieces = m.pieces; made = made_begin m.made }
claim o (closed d) = λ g l s h. let m = claim o d g l s h in record { pieces = m.pieces; made = made_close m.made }
claim {t = t} o (put {p = p} {is = is} {u = u} {js = js} d e) = λ g l s h.
    let m = claim o e g l s (and_right (followed_piece t p (look t is g)) _ h) in
    let q = claim o d (js ++ l)
    (may_follow t p (look t is g) (js ++ l) (and_left (followed_piece t p (look t is g)) _ h) (seen t g m.made s)) in
    record { pieces = u ∷ m.pieces; made = made_piece q m.made }
claim {t = t} o (first_way {a = a} {b = b} {is = is} d) = λ g l s h.
    let m = claim o d g l s (followed_appended t no_ways a is g g (and_left (followed t a (look t is g) g) _ h)
    (and_right (followed t b (look t is g) g) _ (and_right (followed t a (look t is g) g) _ h))) in
    record { pieces = m.pieces; made = made_first m.made }
claim {t = t} o (second_way {a = a} {b = b} {is = is} d) = λ g l s h.
    let i = and_right (followed t a (look t is g) g) _ h in
    let m = claim o d g l s (followed_appended t no_ways b is g g (and_left (followed t b (look t is g) g) _ i)
    (and_right (followed t b (look t is g) g) _ i)) in
    record { pieces = m.pieces; made = made_second m.made }
claim {t = t} o (last_turn {a = a} {z = z} d) = λ g l s h.
    let r = look t a anything ++ look t z g in
    let m = claim o d g l s (and_right (followed t a r r) _ h) in
    record { pieces = []; made = made_last m.made }
claim {t = t} o (one_turn {a = a} {z = z} {js = js} d e) = λ g l s h.
    let n = turns_made (claim o e g l s h).made in
    let r = look t a anything ++ look t z g in
    let m = claim o d r (js ++ l) (seen t g n s) (and_left (followed t a r r) _ h) in
    record { pieces = []; made = made_turn m.made n }
claim {t = t} o (repeated {a = a} {z = z} {is = is} {u = u} {js = js} d e) = λ g l s h.
    let n = look t is g in
    let r = look t a anything ++ look t z n in
    let h2 = and_right (followed t a r r) _ h in
    let m = claim o e g l s (and_right (followed t z n n) _ h2) in
    let q = claim o d n (js ++ l) (seen t g m.made s)
    (and_both (followed t a r r) (followed t z n n) (and_left (followed t a r r) _ h) (and_left (followed t z n n) _ h2)) in
    record { pieces = u ∷ m.pieces; made = made_repeat (turns_made q.made) m.made }
claim {t = t} o (grouped {a = a} {is = is} {u = u} {js = js} d e) = λ g l s h.
    let n = look t is g in
    let m = claim o e g l s (and_right (followed t a n n) _ h) in
    let q = claim o d n (js ++ l) (seen t g m.made s) (and_left (followed t a n n) _ h) in
    record { pieces = u ∷ m.pieces; made = made_group q.made m.made }
claim o folded_none = λ g l s h. record { pieces = []; made = made_folded_none }
claim {t = t} o (folded_more {m = m} {ws = ws} {js = js} w i d e) = λ g l s h.
    let n = folding_made (claim o e g l s h).made in
    let q = claim o d (after_way t ws g m) (js ++ l) (seen t g n s) (way_followed t (after_way t ws g) [] [] w h) in
    record { pieces = []; made = made_folded_more w i q.made n }
claim {t = t} o (folded {ws = ws} {is = is} {u = u} {js = js} d e) = λ g l s h.
    let n = look t is g in
    let z = followed_in t (after_way t ws n) ws [] [] in
    let m = claim o e g l s (and_right z _ h) in
    let q = claim o d n (js ++ l) (seen t g m.made s) (and_left z _ h) in
    record { pieces = u ∷ m.pieces; made = made_folds (folding_made q.made) m.made }
claim o (guarded {w = w} h d) = λ g l s i.
    let m = claim o d g l s (and_right (says g w) _ i) in
    record { pieces = m.pieces; made = made_guarded (h l (weaker g w l (and_left (says g w) _ i) s)) m.made }
