-- The children of a node of a tree that the table derives are of one of the shapes of its kind.
use Rattle.std.proofs.Common.{◌≡◌, ◌==◌, ℕ, true, false, List, [], ◌∷◌, Some}
use Rattle.rap_events.proofs.Truth.{or_left}
use Rattle.rap_events.specs.Forest.{Forest, none, node, leaf, message, split, ◌⧺◌}
use Rattle.rap_events.specs.Record.{Record}
use Rattle.rap_grammar_ends.specs.StandsIn.{NodeAt, last_node, in_last_node, before_node, before_leaf, before_message, before_split}
use Rattle.rap_grammar_scripts.specs.Test.{Test}
use Rattle.rap_grammar_table.specs.Category.{Category}
use Rattle.rap_grammar_table.specs.Rows.{grammar}
use Rattle.rap_grammar_table.specs.Known.{Place}
use Rattle.rap_grammar_table.specs.Shapes.{Child, node_child, children_of, Shape, Spells, a_leaf, turns, piece_shape}
use Rattle.rap_grammar_table.specs.Table.{Piece, Items, nil, begin, close, piece, choice, repeat, turns_of, group, folds, folding, unless, appended, HasWay, Goal, one, rest_of, row_at, Derives, by_row, a_token, a_word, an_operator, ended, begun, closed, put, first_way, second_way, last_turn, one_turn, repeated, grouped, folded_none, folded_more, folded, guarded}
use Rattle.rap_grammar_table.proofs.LookLaws.{same_self}
use Rattle.rap_grammar_table.proofs.Spells.{children-⧺, spells_last, spells_turn, within, within_so}

-- what is known of the children of a node of a kind
abbrev pub OfChildren : Type 1
OfChildren = ℕ → List Child → Type 0

-- it is so of each node of a forest, and of forests
abbrev pub AllSo : OfChildren → Forest → Type 0
AllSo H none = Unit {0}
AllSo H (node f k x) = AllSo H f × AllSo H x × H k (children_of x)
AllSo H (leaf f k w) = AllSo H f
AllSo H (message f m) = AllSo H f
AllSo H (split f d) = AllSo H f

abbrev pub EachSo : OfChildren → List Forest → Type 0
EachSo H [] = Unit {0}
EachSo H (x ∷ xs) = AllSo H x × EachSo H xs

pub all_so-⧺ : (H : OfChildren) (x u : Forest) → AllSo H x → AllSo H u → AllSo H (x ⧺ u)
all_so-⧺ H x none a b = a
all_so-⧺ H x (node u k c) a b = (all_so-⧺ H x u a b.0, b.1, b.2)
all_so-⧺ H x (leaf u k w) a b = all_so-⧺ H x u a b
all_so-⧺ H x (message u m) a b = all_so-⧺ H x u a b
all_so-⧺ H x (split u d) a b = all_so-⧺ H x u a b

pub found : (H : OfChildren) {t children : Forest} {place kind : ℕ} → NodeAt t place kind children → AllSo H t →
    H kind (children_of children)
found H last_node a = a.2
found H (in_last_node p) a = found H p a.1
found H (before_node p) a = found H p a.0
found H (before_leaf p) a = found H p a
found H (before_message p) a = found H p a
found H (before_split p) a = found H p a

-- The rest of a row fits what stands in the newest open node and in the older ones: whatever its pieces are, each node
-- that it ends is as is known of its kind, and the whole is of this shape.
pub data Fits (f : Category → Shape) (H : OfChildren) : Items → Forest → List Forest → Shape → Type 0 where
  fits_nil : {x : Forest} {y : Shape} → Spells y (children_of x) → Fits f H nil x [] y
  fits_begin : {is : Items} {x : Forest} {xs : List Forest} {y : Shape} → Fits f H is none (x ∷ xs) y →
      Fits f H (begin is) x xs y
  fits_close : {k : ℕ} {is : Items} {x z : Forest} {xs : List Forest} {y : Shape} → H k (children_of x) →
      Fits f H is (node z k x) xs y → Fits f H (close k is) x (z ∷ xs) y
  fits_piece : {p : Piece} {is : Items} {x : Forest} {xs : List Forest} {y : Shape} →
      ((u : Forest) → Spells (piece_shape f p) (children_of u) → Fits f H is (x ⧺ u) xs y) →
      Fits f H (piece p is) x xs y
  fits_choice : {a b is : Items} {x : Forest} {xs : List Forest} {y : Shape} → Fits f H (appended a is) x xs y →
      Fits f H (appended b is) x xs y → Fits f H (choice a b is) x xs y
  fits_repeat : {a z is : Items} {x : Forest} {xs : List Forest} {v y : Shape} →
      Fits f H (turns_of a z) none [] v →
      ((u : Forest) → Spells v (children_of u) → Fits f H is (x ⧺ u) xs y) → Fits f H (repeat a z is) x xs y
  fits_turns : {a z : Items} {v w : Shape} → Fits f H a none [] v → Fits f H z none [] w →
      Fits f H (turns_of a z) none [] (turns v w)
  fits_group : {a is : Items} {x : Forest} {xs : List Forest} {v y : Shape} → Fits f H a none [] v →
      ((u : Forest) → Spells v (children_of u) → Fits f H is (x ⧺ u) xs y) → Fits f H (group a is) x xs y
  fits_folding : {n : ℕ} {ws : Items} {x : Forest} {l : Shape} →
      ((js : List ℕ) (a : Items) (m : ℕ) → HasWay ws js a m → (u : Forest) → Spells l (children_of u) →
      Fits f H a u (none ∷ []) l) →
      Spells l (children_of x) → Fits f H (folding n ws) x [] l
  fits_folds : {n k : ℕ} {ws is : Items} {x c : Forest} {xs : List Forest} {l y : Shape} →
      ((js : List ℕ) (a : Items) (m : ℕ) → HasWay ws js a m → (u : Forest) → Spells l (children_of u) →
      Fits f H a u (none ∷ []) l) →
      Spells l (node_child k ∷ []) →
      ((u : Forest) → Spells l (children_of u) → Fits f H is (x ⧺ u) xs y) → Fits f H (folds n ws is) (node x k c) xs y
  fits_unless : {h : Test} {w : List (List Place)} {is : Items} {x : Forest} {xs : List Forest} {y : Shape} →
      Fits f H is x xs y → Fits f H (unless h w is) x xs y

-- what comes of it
abbrev Comes : OfChildren → Shape → Forest → Type 0
Comes H y x = AllSo H x × Spells y (children_of x)

abbrev Claim : (Category → Shape) → OfChildren → Goal → Forest → Type 0
Claim f H (one p) y = Comes H (piece_shape f p) y
Claim f H (rest_of is x xs) y =
    (w : Shape) → Fits f H is x xs w → AllSo H x → EachSo H xs → Comes H w y

at_end : {f : Category → Shape} {H : OfChildren} {x : Forest} {w : Shape} → Fits f H nil x [] w → AllSo H x → Comes H w x
at_end (fits_nil s) a = (a, s)

at_begin : {f : Category → Shape} {H : OfChildren} {is : Items} {x : Forest} {xs : List Forest} {w : Shape} →
    Fits f H (begin is) x xs w → Fits f H is none (x ∷ xs) w
at_begin (fits_begin g) = g

at_close : {f : Category → Shape} {H : OfChildren} {k : ℕ} {is : Items} {x z : Forest} {xs : List Forest} {w : Shape} →
    Fits f H (close k is) x (z ∷ xs) w → H k (children_of x) × Fits f H is (node z k x) xs w
at_close (fits_close h g) = (h, g)

at_piece : {f : Category → Shape} {H : OfChildren} {p : Piece} {is : Items} {x : Forest} {xs : List Forest} {w : Shape} →
    Fits f H (piece p is) x xs w → (u : Forest) → Spells (piece_shape f p) (children_of u) →
    Fits f H is (x ⧺ u) xs w
at_piece (fits_piece g) = g

at_choice : {f : Category → Shape} {H : OfChildren} {a b is : Items} {x : Forest} {xs : List Forest} {w : Shape} →
    Fits f H (choice a b is) x xs w → Fits f H (appended a is) x xs w × Fits f H (appended b is) x xs w
at_choice (fits_choice g h) = (g, h)

at_guard : {f : Category → Shape} {H : OfChildren} {h : Test} {v : List (List Place)} {is : Items} {x : Forest}
    {xs : List Forest} {w : Shape} → Fits f H (unless h v is) x xs w → Fits f H is x xs w
at_guard (fits_unless g) = g

at_repeat : {f : Category → Shape} {H : OfChildren} {a z is : Items} {x : Forest} {xs : List Forest} {w : Shape}
    (u y : Forest) → Fits f H (repeat a z is) x xs w →
    ((v : Shape) → Fits f H (turns_of a z) none [] v → Comes H v u) →
    (Fits f H is (x ⧺ u) xs w → AllSo H u → Comes H w y) → Comes H w y
at_repeat u y (fits_repeat {v = v} g h) t r = let q = t v g in r (h u q.1) q.0

at_group : {f : Category → Shape} {H : OfChildren} {a is : Items} {x : Forest} {xs : List Forest} {w : Shape}
    (u y : Forest) → Fits f H (group a is) x xs w → ((v : Shape) → Fits f H a none [] v → Comes H v u) →
    (Fits f H is (x ⧺ u) xs w → AllSo H u → Comes H w y) → Comes H w y
at_group u y (fits_group {v = v} g h) t r = let q = t v g in r (h u q.1) q.0

at_last : {f : Category → Shape} {H : OfChildren} {a z : Items} {w : Shape} (y : Forest) →
    Fits f H (turns_of a z) none [] w → ((v : Shape) → Fits f H z none [] v → Comes H v y) → Comes H w y
at_last y (fits_turns {v = v} {w = w} g h) r = let q = r w h in (q.0, spells_last v w q.1)

at_turn : {f : Category → Shape} {H : OfChildren} {a z : Items} {w : Shape} (x y : Forest) →
    Fits f H (turns_of a z) none [] w → ((v : Shape) → Fits f H a none [] v → Comes H v x) → Comes H w y →
    Comes H w (x ⧺ y)
at_turn {H = H} x y (fits_turns {v = v} {w = w} g h) r s =
    let q = r v g in (all_so-⧺ H x y q.0 s.0, rw (children-⧺ x y) (spells_turn v w q.1 s.1))

at_folded : {f : Category → Shape} {H : OfChildren} {n : ℕ} {ws : Items} {x : Forest} {w : Shape} →
    Fits f H (folding n ws) x [] w → AllSo H x → Comes H w x
at_folded (fits_folding g s) a = (a, s)

at_more : {f : Category → Shape} {H : OfChildren} {n m : ℕ} {is : List ℕ} {ws a : Items} {x : Forest} {w : Shape}
    (c u : Forest) → Fits f H (folding n ws) x [] w → HasWay ws is a m →
    (Fits f H a x (none ∷ []) w → Comes H w c) → (Fits f H (folding m ws) c [] w → AllSo H c → Comes H w u) →
    Comes H w u
at_more {x = x} c u (fits_folding g s) v d e = let q = d (g _ _ _ v x s) in e (fits_folding g q.1) q.0

at_folds : {f : Category → Shape} {H : OfChildren} {n j : ℕ} {ws is : Items} {x c : Forest} {xs : List Forest} {w : Shape}
    (u y : Forest) → Fits f H (folds n ws is) (node x j c) xs w →
    ((l : Shape) → Fits f H (folding n ws) (node none j c) [] l → Comes H l u) →
    (Fits f H is (x ⧺ u) xs w → AllSo H u → Comes H w y) → Comes H w y
at_folds u y (fits_folds {l = l} g s h) d e = let q = d l (fits_folding g s) in e (h u q.1) q.0

-- each row of a category fits, and the whole is of the category's shape
pub record RowFits (f : Category → Shape) (H : OfChildren) (category : Category) (row : Items) : Type 0 where
  pub whole : Shape
  pub fits : Fits f H row none [] whole
  pub is_within : within whole (f category) ≡ true

abbrev pub RowsFit : (Category → Shape) → OfChildren → Type 0
RowsFit f H = (category : Category) (n : ℕ) (row : Items) → row_at n (grammar category) ≡ Some row → RowFits f H category row

pub shaped : {f : Category → Shape} {H : OfChildren} {g : Goal} {ks : List Record} {y : Forest} → RowsFit f H →
    Derives grammar g ks y → Claim f H g y
shaped {f = f} o (by_row {c = c} {row = row} n e d) =
    let r = o c n row e in let q = shaped o d r.whole r.fits tt tt in
    (q.0, within_so r.whole (f c) r.is_within q.1)
shaped o (a_token m w) = (tt, a_leaf m)
shaped o (a_word {k = k} e i) = (tt, a_leaf (or_left (k == k) false (same_self k)))
shaped o (an_operator {k = k} x) = (tt, a_leaf (or_left (k == k) false (same_self k)))
shaped o ended = λ w g a b. at_end g a
shaped o (begun d) = λ w g a b. shaped o d w (at_begin g) tt (a, b)
shaped o (closed d) = λ w g a b. let q = at_close g in shaped o d w q.1 (b.0, a, q.0) b.1
shaped {H = H} o (put {x = x} {u = u} d e) = λ w g a b.
    let q = shaped o d in shaped o e w (at_piece g u q.1) (all_so-⧺ H x u a q.0) b
shaped o (first_way d) = λ w g a b. shaped o d w (at_choice g).0 a b
shaped o (second_way d) = λ w g a b. shaped o d w (at_choice g).1 a b
shaped o (last_turn {x = x} d) = λ w g a b. at_last x g (λ v h. shaped o d v h tt tt)
shaped o (one_turn {x = x} {y = y} d e) = λ w g a b.
    at_turn x y g (λ v h. shaped o d v h tt tt) (shaped o e w g tt tt)
shaped {H = H} o (repeated {x = x} {y = y} {u = u} d e) = λ w g a b.
    at_repeat u y g (λ v h. shaped o d v h tt tt) (λ h c. shaped o e w h (all_so-⧺ H x u a c) b)
shaped {H = H} o (grouped {x = x} {y = y} {u = u} d e) = λ w g a b.
    at_group u y g (λ v h. shaped o d v h tt tt) (λ h c. shaped o e w h (all_so-⧺ H x u a c) b)
shaped o folded_none = λ w g a b. at_folded g a
shaped o (folded_more {k = k} {c = c} {u = u} v i d e) = λ w g a b.
    at_more (node none k c) u g v (λ h. shaped o d w h a (tt, tt)) (λ h q. shaped o e w h q tt)
shaped {H = H} o (folded {j = j} {c = c} {x = x} {y = y} {u = u} d e) = λ w g a b.
    at_folds u y g (λ l h. shaped o d l h (tt, a.1, a.2) tt) (λ h q. shaped o e w h (all_so-⧺ H x u a.0 q) b)
shaped o (guarded h d) = λ w g a b. shaped o d w (at_guard g) a b
