-- A node of a tree that the table derives is made by its own tokens, if it begins with a brace and is parsed again.
use Rattle.std.proofs.Common.{◌≡◌, ◌==◌, ◌&&◌, ◌||◌, ℕ, zero, suc, Bool, true, false, not, List, [], ◌∷◌, ◌++◌, append_assoc, append-nil, length, Option, Some, None, refl, sym, subst, ap, ◌∙◌}
use Rattle.rap_base.specs.TokenKind.{L_CURLY}
use Rattle.rap_events.proofs.Truth.{and_left, and_right}
use Rattle.rap_events.specs.Composite.{width_of}
use Rattle.rap_events.specs.Forest.{Forest, none, node, ◌⧺◌, used}
use Rattle.rap_events.specs.Record.{Record, next_kind}
use Rattle.rap_grammar_ends.proofs.Standing.{Stands, empty, with_leaf, with_node, both, of_node, used-stands}
use Rattle.rap_grammar_scripts.specs.Test.{Test, kind_so}
use Rattle.rap_grammar_table.proofs.Places.{each_so, every, same_category_so}
use Rattle.rap_grammar_table.specs.Numbers.{categories}
use Rattle.rap_grammar_table.specs.Rows.{grammar}
use Rattle.rap_grammar_table.specs.Again.{IsMade, IsTableTree, MakesIn, MakesItsNodes, a_file, category_in, of_category, parsed_again, some_items, some_stmts}
use Rattle.rap_grammar_table.specs.Category.{AssocItems, Attr, Block, ExternItems, ItemList, MatchArms, RecordFields, RecordValues, TokenTree, UseTrees, Variants, Category}
use Rattle.rap_grammar_table.proofs.Good.{Good, good_category}
use Rattle.rap_grammar_table.specs.Known.{Place, among}
use Rattle.rap_grammar_table.proofs.Look.{depth}
use Rattle.rap_grammar_table.proofs.Table.{table}
use Rattle.rap_grammar_table.specs.Table.{Piece, tok, word, comp, cat, Items, nil, begin, close, piece, choice, repeat, turns_of, group, folds, folding, unless, appended, HasWay, first_turn, other_turn, Touching, last_part, next_part, Goal, one, rest_of, row_at, Derives, by_row, a_token, a_word, an_operator, ended, begun, closed, put, first_way, second_way, last_turn, one_turn, repeated, grouped, folded_none, folded_more, folded, guarded}
use Rattle.rap_grammar_table.specs.Tops.{Makes, MakesRow}
use Rattle.rap_grammar_table.proofs.Entries.{all_rows, of_all}
use Rattle.rap_grammar_table.proofs.Fronts.{sees_anything}
use Rattle.rap_grammar_table.proofs.Known.{by_or, never_so, same_number}
use Rattle.rap_grammar_table.proofs.PartRows.{Followed, all_followed, ends_one, ends_some, every_way, if_same, is_category, is_none, no_brace_first, parts_so, past_piece, past_turns, same_items, same_items_so, same_piece, same_piece_so, step_piece, step_turns, told_first}
use Rattle.rap_grammar_table.proofs.Rows.{checked}
use Rattle.rap_grammar_table.proofs.Sound.{claim}

abbrev Makings : Goal → List Record → Forest → Type 0
Makings g ks y = Derives grammar g ks y

-- what a row that is followed so far, with this forest of these tokens, derives of what is left of it
abbrev Leads : Forest → List Record → Followed → Type 0
Leads x js q =
    (ks : List Record) (y : Forest) → Makings (rest_of q.left x (none ∷ [])) ks y →
    Makes q.category (js ++ ks) y

abbrev LeadAll : Forest → List Record → List Followed → Type 0
LeadAll x js [] = Unit {0}
LeadAll x js (q ∷ qs) = Leads x js q × LeadAll x js qs

abbrev StartsNew : Bool → List Record → Type 0
StartsNew true js = js ≡ []
StartsNew false js = Unit {0}

-- The open nodes: whether each begins with no brace, the forests before them, the tokens from the newest one's first to
-- the row's end, and all tokens of the row.
data Opened : List Bool → List Forest → List Record → List Record → Type 0 where
  none_open : {own : List Record} → Opened [] [] own own
  one_open : {b : Bool} {bs : List Bool} {z : Forest} {zs : List Forest} {is own all : List Record} →
      Stands IsMade is z → (b ≡ true → next_kind own ≡ L_CURLY → ⊥) → Opened bs zs (is ++ own) all →
      Opened (b ∷ bs) (z ∷ zs) own all

-- where a row is, with all that is known there
data At (is : Items) (x : Forest) (xs : List Forest) (ks all : List Record) : Type 0 where
  at : (d : ℕ) (qs : List Followed) (new : Bool) (fs : List Bool) (js : List Record) →
      parts_so d qs new fs is ≡ true → Stands IsMade js x → LeadAll x js qs → StartsNew new js →
      Opened fs xs (js ++ ks) all → At is x xs ks all

abbrev Claim : Goal → List Record → Forest → Type 0
Claim (one p) ks y = Stands IsMade ks y
Claim (rest_of is x xs) ks y = (all : List Record) → At is x xs ks all → Stands IsMade all y

-- an attribute begins with no brace, nor does what begins with such a piece
attr_apart : {ks : List Record} {u : Forest} (js : List Record) → Makes Attr ks u → next_kind (ks ++ js) ≡ L_CURLY → ⊥
attr_apart {ks = ks} {u = u} js d h = of_good (claim checked d js (sees_anything js))
  where
    of_good : Good table (cat Attr) ks u js → ⊥
    of_good (good_category s n p o z) =
        let e = never_so (kind_so 0 (λ k. k == L_CURLY)) (table.firsts Attr) (ks ++ js) refl s in
        let i : (L_CURLY == L_CURLY) ≡ false = subst (λ (k : ℕ). (k == L_CURLY) ≡ false) h e in absurd cc

not_both : {b : Bool} → not b ≡ true → b ≡ true → ⊥
not_both {b = true} h i = cc
not_both {b = false} h i = cc

piece_apart : (p : Piece) (is : Items) {ks : List Record} {u : Forest} (js : List Record) → Makings (one p) ks u →
    no_brace_first (piece p is) ≡ true → next_kind (ks ++ js) ≡ L_CURLY → ⊥
piece_apart (tok kinds words) is js (a_token m w) h i = not_both h (subst (λ (k : ℕ). among kinds k ≡ true) i m)
piece_apart (word k) is js d h i = absurd cc
piece_apart (comp k) is js d h i = absurd cc
piece_apart (cat c) is {ks = ks} {u = u} js d h i =
    attr_apart js (subst (λ (n : Category). Makes n ks u) (same_category_so c Attr h) d) i

apart : {is : Items} {x : Forest} {xs : List Forest} {ks : List Record} {y : Forest} →
    Makings (rest_of is x xs) ks y → no_brace_first is ≡ true → next_kind ks ≡ L_CURLY → ⊥
apart (begun d) h i = apart d h i
apart (put {p = p} {is = is} {js = js} d e) h i = piece_apart p is js d h i
apart d h i = absurd cc

starts_apart : (new : Bool) (js ks : List Record) {is : Items} {x : Forest} {xs : List Forest} {y : Forest} →
    StartsNew new js → Makings (rest_of is x xs) ks y → new ≡ true → no_brace_first is ≡ true →
    next_kind (js ++ ks) ≡ L_CURLY → ⊥
starts_apart true js ks s d n h i = apart d h (subst (λ (is : List Record). next_kind (is ++ ks) ≡ L_CURLY) s i)
starts_apart false js ks s d n h i = absurd cc

told : (new : Bool) (is : Items) {fs : List Bool} {xs : List Forest} {own all : List Record} →
    (new ≡ true → no_brace_first is ≡ true → next_kind own ≡ L_CURLY → ⊥) → Opened fs xs own all →
    Opened (told_first new is fs) xs own all
told true is n none_open = none_open
told true is n (one_open s m o) = one_open s (n refl) o
told false is n o = o

-- the rows of categories, followed from their first pieces
from_start : (c : Category) (n : ℕ) (is : Items) → row_at n (grammar c) ≡ Some (begin is) →
    Leads none [] (record { category = c; left = is })
from_start c n is e = λ ks y d. by_row n e (begun d)

all_lead : LeadAll none [] all_followed
all_lead = (
  from_start Block 0 _ refl,
  (
    from_start RecordFields 0 _ refl,
    (
      from_start RecordValues 0 _ refl,
      (
        from_start Variants 0 _ refl,
        (
          from_start MatchArms 0 _ refl,
          (
            from_start UseTrees 0 _ refl,
            (
              from_start ExternItems 0 _ refl,
              (
                from_start TokenTree 2 _ refl,
                (
                  from_start AssocItems 0 _ refl,
                  (from_start ItemList 0 _ refl, tt),
                ),
              ),
            ),
          ),
        ),
      ),
    ),
  ),
)

lead_same : (x : Forest) (js : List Record) (b : Bool) (q : Followed) (qs : List Followed) →
    (b ≡ true → Leads x js q) → LeadAll x js qs → LeadAll x js (if_same b q qs)
lead_same x js true q qs l m = (l refl, m)
lead_same x js false q qs l m = m

-- on past a piece
past_one : (x u : Forest) (js ks : List Record) {p : Piece} → Makings (one p) ks u → (c : Category) (left : Items)
    (qs : List Followed) → Leads x js (record { category = c; left = left }) → LeadAll (x ⧺ u) (js ++ ks) qs →
    LeadAll (x ⧺ u) (js ++ ks) (past_piece p c left qs)
past_one x u js ks {p = p} d c (piece q is) qs l m =
    lead_same (x ⧺ u) (js ++ ks) (same_piece q p) (record { category = c; left = is }) qs
    (λ h ls y e. rw (append_assoc js ks ls) (l (ks ++ ls) y
    (put (subst (λ (r : Piece). Makings (one r) ks u) (sym (same_piece_so q p h)) d) e))) m
past_one x u js ks d c left qs l m = m

lead_piece : (x u : Forest) (js ks : List Record) {p : Piece} → Makings (one p) ks u → (qs : List Followed) →
    LeadAll x js qs → LeadAll (x ⧺ u) (js ++ ks) (step_piece p qs)
lead_piece x u js ks d [] l = tt
lead_piece x u js ks {p = p} d (q ∷ qs) l =
    past_one x u js ks d q.category q.left (step_piece p qs) l.0 (lead_piece x u js ks d qs l.1)

-- on past turns
past_some : (x u : Forest) (js ks : List Record) {a z : Items} → Makings (rest_of (turns_of a z) none []) ks u →
    (c : Category) (left : Items) (qs : List Followed) → Leads x js (record { category = c; left = left }) →
    LeadAll (x ⧺ u) (js ++ ks) qs → LeadAll (x ⧺ u) (js ++ ks) (past_turns a z c left qs)
past_some x u js ks {a = a} {z = z} d c (repeat b y is) qs l m =
    lead_same (x ⧺ u) (js ++ ks) (same_items b a && same_items y z) (record { category = c; left = is }) qs
    (λ h ls t e. rw (append_assoc js ks ls) (l (ks ++ ls) t
    (repeated {u = u}
    (rw (same_items_so b a (and_left (same_items b a) _ h), same_items_so y z (and_right (same_items b a) _ h)) d) e)))
    m
past_some x u js ks d c left qs l m = m

lead_turns : (x u : Forest) (js ks : List Record) {a z : Items} → Makings (rest_of (turns_of a z) none []) ks u →
    (qs : List Followed) → LeadAll x js qs → LeadAll (x ⧺ u) (js ++ ks) (step_turns a z qs)
lead_turns x u js ks d [] l = tt
lead_turns x u js ks {a = a} {z = z} d (q ∷ qs) l =
    past_some x u js ks d q.category q.left (step_turns a z qs) l.0 (lead_turns x u js ks d qs l.1)

-- a node that ends
of_none : (o : Option Category) (own : List Record) (t : Forest) → is_none o ≡ true → MakesIn o own t
of_none None own t h = tt
of_none (Some c) own t h = absurd cc

of_same : (o : Option Category) (c : Category) (own : List Record) (t : Forest) → is_category o c ≡ true → Makes c own t →
    MakesIn o own t
of_same None c own t h m = absurd cc
of_same (Some d) c own t h m = subst (λ (n : Category). Makes n own t) (sym (same_category_so d c h)) m

of_followed : (k : ℕ) (c : Category) (left : Items) (x : Forest) (js : List Record) → ends_one k c left ≡ true →
    Leads x js (record { category = c; left = left }) → IsMade k js x
of_followed k c (close j nil) x js h l = λ i.
    let e = same_number j k (and_left (j == k) _ h) in
    of_same (category_in parsed_again k) c js (node none k x) (and_right (j == k) _ h)
    (subst (λ (n : ℕ). Makes c js (node none n x)) e (rw append-nil at (l [] (node none j x) (closed ended))))
of_followed k c left x js h l = absurd cc

of_some : (k : ℕ) (qs : List Followed) (x : Forest) (js : List Record) → ends_some k qs ≡ true → LeadAll x js qs →
    IsMade k js x
of_some k [] x js h l = absurd cc
of_some k (q ∷ qs) x js h l =
    by_or (ends_one k q.category q.left) (ends_some k qs) h (λ i. of_followed k q.category q.left x js i l.0)
    (λ i. of_some k qs x js i l.1)

next_before : (js ks : List Record) → next_kind js ≡ L_CURLY → next_kind (js ++ ks) ≡ L_CURLY
next_before [] ks h = absurd cc
next_before (r ∷ js) ks h = h

made : (k : ℕ) (f : Bool) (qs : List Followed) (x : Forest) (js ks : List Record) →
    (is_none (category_in parsed_again k) || (f || ends_some k qs)) ≡ true → LeadAll x js qs →
    (f ≡ true → next_kind (js ++ ks) ≡ L_CURLY → ⊥) → IsMade k js x
made k f qs x js ks h l n =
    by_or (is_none (category_in parsed_again k)) (f || ends_some k qs) h
    (λ i e. of_none (category_in parsed_again k) js (node none k x) i)
    (λ i. by_or f (ends_some k qs) i (λ j e. absurd (n j (next_before js ks e))) (λ j. of_some k qs x js j l))

-- the steps along a row
all_own : {own all : List Record} {fs : List Bool} → Opened fs [] own all → own ≡ all
all_own none_open = refl

at_end : {x : Forest} {all : List Record} {is : Items} → At is x [] [] all → Stands IsMade all x
at_end {x = x} (at d qs new fs js h s l n o) =
    subst (λ (ks : List Record). Stands IsMade ks x) (rw append-nil at (all_own o)) s

at_begin : {is : Items} {x y : Forest} {xs : List Forest} {ks all : List Record} →
    Makings (rest_of (begin is) x xs) ks y → At (begin is) x xs ks all → At is none (x ∷ xs) ks all
at_begin e (at zero qs new fs js h s l n o) = absurd cc
at_begin {is = is} e (at (suc d) qs new fs js h s l n o) =
    at d all_followed true (false ∷ told_first new (begin is) fs) [] h empty all_lead refl
    (one_open s (λ i. absurd cc) (told new (begin is) (starts_apart new js _ n e) o))

at_close : {k : ℕ} {is : Items} {x z : Forest} {xs : List Forest} {ks all : List Record} →
    At (close k is) x (z ∷ xs) ks all → At is (node z k x) xs ks all
at_close (at zero qs new fs js h s l n o) = absurd cc
at_close {k = k} {is = is} {z = z} {xs = xs} {ks = ks} {all = all} (at (suc d) qs new [] js h s l n o) = elim o [ ]
at_close {k = k} {x = x} {ks = ks} (at (suc d) qs new (f ∷ fs) js h s l n (one_open {is = os} t m o)) =
    let c = is_none (category_in parsed_again k) || (f || ends_some k qs) in
    at d [] false fs (os ++ js) (and_right c _ h) (with_node t s (made k f qs x js ks (and_left c _ h) l m)) tt tt
    (rw (append_assoc os js ks) o)

at_piece : {p : Piece} {is : Items} {x y u : Forest} {xs : List Forest} {ks js all : List Record} →
    Makings (one p) ks u → Makings (rest_of (piece p is) x xs) (ks ++ js) y → Stands IsMade ks u →
    At (piece p is) x xs (ks ++ js) all → At is (x ⧺ u) xs js all
at_piece e g t (at zero qs new fs is h s l n o) = absurd cc
at_piece {p = p} {is = is} {x = x} {u = u} {ks = ks} {js = js} e g t (at (suc d) qs new fs os h s l n o) =
    at d (step_piece p qs) false (told_first new (piece p is) fs) (os ++ ks) h
    (both s t) (lead_piece x u os ks e qs l) tt
    (rw (append_assoc os ks js) (told new (piece p is) (starts_apart new os _ n g) o))

at_first : {a b is : Items} {x : Forest} {xs : List Forest} {ks all : List Record} → At (choice a b is) x xs ks all →
    At (appended a is) x xs ks all
at_first (at zero qs new fs js h s l n o) = absurd cc
at_first {a = a} {is = is} (at (suc d) qs new fs js h s l n o) =
    at d qs new fs js (and_left (parts_so d qs new fs (appended a is)) _ h) s l n o

at_second : {a b is : Items} {x : Forest} {xs : List Forest} {ks all : List Record} → At (choice a b is) x xs ks all →
    At (appended b is) x xs ks all
at_second (at zero qs new fs js h s l n o) = absurd cc
at_second {a = a} {is = is} (at (suc d) qs new fs js h s l n o) =
    at d qs new fs js (and_right (parts_so d qs new fs (appended a is)) _ h) s l n o

at_guard : {h : Test} {w : List (List Place)} {is : Items} {x : Forest} {xs : List Forest} {ks all : List Record} →
    At (unless h w is) x xs ks all → At is x xs ks all
at_guard (at zero qs new fs js h s l n o) = absurd cc
at_guard (at (suc d) qs new fs js h s l n o) = at d qs new fs js h s l n o

-- turns, from nothing on, and what is left behind them
none_of : {js : List Record} → Stands IsMade js none → js ≡ []
none_of empty = refl

turned : {is : Items} {ks all : List Record} {y : Forest} → At is none [] ks all → Stands IsMade ks y →
    Stands IsMade all y
turned {ks = ks} {y = y} (at d qs new fs js h s l n o) t =
    subst (λ (rs : List Record). Stands IsMade rs y)
    (ap (λ (rs : List Record). rs ++ ks) (sym (none_of s)) ∙ all_own o) t

alone : {is : Items} (d : ℕ) (ks : List Record) → parts_so d [] false [] is ≡ true → At is none [] ks ks
alone d ks h = at d [] false [] [] h empty tt tt none_open

at_last : {a z : Items} {ks all : List Record} (js : List Record) → At (turns_of a z) none [] ks all →
    At z none [] js js
at_last js (at zero qs new fs is h s l n o) = absurd cc
at_last {a = a} {z = z} js (at (suc d) qs new fs is h s l n o) =
    alone d js (and_right (parts_so d [] false [] a) _ h)

at_turn : {a z : Items} {ks all : List Record} (js : List Record) → At (turns_of a z) none [] ks all →
    At a none [] js js
at_turn js (at zero qs new fs is h s l n o) = absurd cc
at_turn {a = a} {z = z} js (at (suc d) qs new fs is h s l n o) = alone d js (and_left (parts_so d [] false [] a) _ h)

at_others : {a z : Items} {ks all : List Record} (js : List Record) → At (turns_of a z) none [] ks all →
    At (turns_of a z) none [] js js
at_others js (at zero qs new fs is h s l n o) = absurd cc
at_others js (at (suc d) qs new fs is h s l n o) = alone (suc d) js h

at_turns : {a z is : Items} {x : Forest} {xs : List Forest} {ks all : List Record} (js : List Record) →
    At (repeat a z is) x xs ks all → At (turns_of a z) none [] js js
at_turns js (at zero qs new fs os h s l n o) = absurd cc
at_turns {a = a} {z = z} js (at (suc d) qs new fs os h s l n o) =
    alone (suc d) js (and_left (parts_so d [] false [] a && parts_so d [] false [] z) _ h)

at_repeated : {a z is : Items} {x u : Forest} {xs : List Forest} {ks js all : List Record} →
    Makings (rest_of (turns_of a z) none []) ks u → Stands IsMade ks u → At (repeat a z is) x xs (ks ++ js) all →
    At is (x ⧺ u) xs js all
at_repeated e t (at zero qs new fs os h s l n o) = absurd cc
at_repeated {a = a} {z = z} {x = x} {u = u} {ks = ks} {js = js} e t (at (suc d) qs new fs os h s l n o) =
    at d (step_turns a z qs) false fs (os ++ ks) (and_right (parts_so d [] false [] a && parts_so d [] false [] z) _ h)
    (both s t) (lead_turns x u os ks e qs l) tt (rw (append_assoc os ks js) o)

-- a part that is read alone
at_part : {a is : Items} {x : Forest} {xs : List Forest} {ks all : List Record} (js : List Record) →
    At (group a is) x xs ks all → At a none [] js js
at_part js (at zero qs new fs os h s l n o) = absurd cc
at_part {a = a} js (at (suc d) qs new fs os h s l n o) = alone d js (and_left (parts_so d [] false [] a) _ h)

at_grouped : {a is : Items} {x u : Forest} {xs : List Forest} {ks js all : List Record} → Stands IsMade ks u →
    At (group a is) x xs (ks ++ js) all → At is (x ⧺ u) xs js all
at_grouped t (at zero qs new fs os h s l n o) = absurd cc
at_grouped {a = a} {ks = ks} {js = js} t (at (suc d) qs new fs os h s l n o) =
    at d [] false fs (os ++ ks) (and_right (parts_so d [] false [] a) _ h) (both s t) tt tt
    (rw (append_assoc os ks js) o)

-- nodes around the last one
way_so : (f : Items → Bool) {ws a : Items} {js : List ℕ} {m : ℕ} → HasWay ws js a m → every_way f ws ≡ true →
    f a ≡ true
way_so f (first_turn {a = a}) h = and_left (f a) _ h
way_so f (other_turn {b = b} w) h = way_so f w (and_right (f b) _ h)

tokens_so_far : {is : Items} {x : Forest} {xs : List Forest} {ks all : List Record} → At is x xs ks all → List Record
tokens_so_far (at d qs new fs js h s l n o) = js

at_way : (ks is : List Record) {n m : ℕ} {ws a : Items} {js : List ℕ} {x : Forest} {all : List Record} →
    HasWay ws js a m → (w : At (folding n ws) x [] (ks ++ is) all) → At a x (none ∷ []) ks (tokens_so_far w ++ ks)
unfolding tokens_so_far
at_way ks is w (at zero qs new fs os h s l n o) = absurd cc
at_way ks is w (at (suc d) qs new fs os h s l n o) =
    at d [] false (false ∷ []) os (way_so (λ a. parts_so d [] false (false ∷ []) a) w h) s tt tt
    (one_open empty (λ i. absurd cc) none_open)

at_next : (ks is : List Record) {n m : ℕ} {ws : Items} {x u : Forest} {all : List Record}
    (w : At (folding n ws) x [] (ks ++ is) all) → Stands IsMade (tokens_so_far w ++ ks) u →
    At (folding m ws) u [] is all
unfolding tokens_so_far
at_next ks is (at zero qs new fs os h s l n o) t = absurd cc
at_next ks is (at (suc d) qs new fs os h s l n o) t =
    at (suc d) [] false fs (os ++ ks) h t tt tt (rw (append_assoc os ks is) o)

-- nodes around the last one, and what comes then
record Apart (x : Forest) (j : ℕ) (c : Forest) (is : List Record) : Type 0 where
  first : List Record
  second : List Record
  before : Stands IsMade first x
  inside : Stands IsMade second c
  is_made : IsMade j second c
  tokens_are : is ≡ first ++ second

apart_of : {x : Forest} {j : ℕ} {c : Forest} {is : List Record} → Stands IsMade is (node x j c) → Apart x j c is
apart_of (with_node {ks = a} {js = b} s t m) =
    record { first = a; second = b; before = s; inside = t; is_made = m; tokens_are = refl }

over_last : {n : ℕ} {ws is : Items} {x : Forest} {j : ℕ} {c : Forest} {xs : List Forest} {ks all : List Record} →
    At (folds n ws is) (node x j c) xs ks all → List Record
over_last (at d qs new fs js h s l n o) = (apart_of s).second

at_folds : (ks js : List Record) {n j : ℕ} {ws is : Items} {x c : Forest} {xs : List Forest} {all : List Record}
    (w : At (folds n ws is) (node x j c) xs (ks ++ js) all) →
    At (folding n ws) (node none j c) [] ks (over_last w ++ ks)
unfolding over_last
at_folds ks js (at zero qs new fs os h s l n o) = absurd cc
at_folds ks js {ws = ws} (at (suc d) qs new fs os h s l n o) =
    let t = apart_of s in
    at (suc d) [] false [] t.second (and_left (every_way (λ a. parts_so d [] false (false ∷ []) a) ws) _ h)
    (with_node empty t.inside t.is_made) tt tt none_open

at_folded : (ks js : List Record) {n j : ℕ} {ws is : Items} {x c u : Forest} {xs : List Forest} {all : List Record}
    (w : At (folds n ws is) (node x j c) xs (ks ++ js) all) → Stands IsMade (over_last w ++ ks) u →
    At is (x ⧺ u) xs js all
unfolding over_last
at_folded ks js (at zero qs new fs os h s l n o) v = absurd cc
at_folded ks js {ws = ws} {xs = xs} {all = all} (at (suc d) qs new fs os h s l n o) v =
    let t = apart_of s in
    at d [] false fs (t.first ++ (t.second ++ ks))
    (and_right (every_way (λ a. parts_so d [] false (false ∷ []) a) ws) _ h) (both t.before v) tt tt
    (subst (λ (rs : List Record). Opened fs xs rs all)
    (ap (λ (rs : List Record). rs ++ (ks ++ js)) t.tokens_are ∙ regrouped t.first t.second ks js) o)
  where
    regrouped : (a b c d : List Record) → (a ++ b) ++ (c ++ d) ≡ (a ++ (b ++ c)) ++ d
    regrouped a b c d = simp append_assoc refl

-- an operator's leaf stands for all of its tokens
as_many : {ks : List ℕ} {rs : List Record} → Touching ks rs → length ks ≡ length rs
as_many (last_part e) = refl
as_many (next_part e j t) = ap suc (as_many t)

width_is : {ks : List ℕ} {rs : List Record} → Touching ks rs → width_of ks ≡ length rs
width_is (last_part e) = refl
width_is (next_part e j t) = ap suc (as_many t)

-- each row of the table is such a row
all_hold : every (λ c. all_rows (parts_so depth [] false []) (grammar c)) categories ≡ true
all_hold = refl

row_holds : (c : Category) (n : ℕ) (row : Items) → row_at n (grammar c) ≡ Some row →
    parts_so depth [] false [] row ≡ true
row_holds c n row e =
    of_all (parts_so depth [] false []) (grammar c) n row
    (each_so (λ (d : Category). all_rows (parts_so depth [] false []) (grammar d)) c all_hold) e

stands : {g : Goal} {ks : List Record} {y : Forest} → Makings g ks y → Claim g ks y
stands (by_row {c = c} {row = row} {ks = ks} n e d) = stands d ks (alone depth ks (row_holds c n row e))
stands (a_token {r = r} m w) = with_leaf (r ∷ []) empty refl
stands (a_word {r = r} e i) = with_leaf (r ∷ []) empty refl
stands (an_operator {rs = rs} x) = with_leaf rs empty (sym (width_is x))
stands ended = λ all w. at_end w
stands (begun d) = λ all w. stands d all (at_begin (begun d) w)
stands (closed d) = λ all w. stands d all (at_close w)
stands (put d e) = λ all w. stands e all (at_piece d (put d e) (stands d) w)
stands (first_way d) = λ all w. stands d all (at_first w)
stands (second_way d) = λ all w. stands d all (at_second w)
stands (last_turn {ks = ks} d) = λ all w. turned w (stands d ks (at_last ks w))
stands (one_turn {ks = ks} {js = js} d e) = λ all w.
    turned w (both (stands d ks (at_turn ks w)) (stands e js (at_others js w)))
stands (repeated {ks = ks} d e) = λ all w.
    stands e all (at_repeated d (stands d ks (at_turns ks w)) w)
stands (grouped {ks = ks} d e) = λ all w. stands e all (at_grouped (stands d ks (at_part ks w)) w)
stands folded_none = λ all w. at_end w
stands (folded_more {ks = ks} {js = js} v i d e) = λ all w.
    stands e all (at_next ks js w (stands d (tokens_so_far w ++ ks) (at_way ks js v w)))
stands (folded {ks = ks} {js = js} d e) = λ all w.
    stands e all (at_folded ks js w (stands d (over_last w ++ ks) (at_folds ks js w)))
stands (guarded g d) = λ all w. stands d all (at_guard w)

-- so its leaves stand for its tokens
pub category_used : {c : Category} {ks : List Record} {y : Forest} → Makes c ks y → used y ≡ length ks
category_used d = used-stands (stands d)

-- what stands under the node of an entry
row_stands : {is : Items} {ks : List Record} {y : Forest} → parts_so depth [] false [] is ≡ true → MakesRow is ks y →
    Stands IsMade ks y
row_stands {ks = ks} h d = stands d ks (alone depth ks h)

under : {kind : ℕ} {ks : List Record} {y : Forest} → is_none (category_in parsed_again kind) ≡ true →
    Stands IsMade ks y → Stands IsMade ks (node none kind y)
under {kind = kind} h s = with_node empty s (λ i. of_none (category_in parsed_again kind) _ _ h)

tree_stands : {ks : List Record} {t : Forest} → IsTableTree ks t → Stands IsMade ks t
tree_stands (of_category d) = stands d
tree_stands (a_file d) = under refl (row_stands refl d)
tree_stands (some_items d) = under refl (row_stands refl d)
tree_stands (some_stmts d) = under refl (row_stands refl d)

pub made_again : MakesItsNodes
made_again tokens own tree children kind d s = of_node (tree_stands d) s
