-- A grammar as a table, and what it derives.
use Rattle.std.specs.Prelude.{◌≡◌, ℕ, zero, suc, true, false, List, [], ◌∷◌, ◌++◌, Option, Some, None}
use Rattle.rap_base.specs.TokenKind.{IDENT}
use Rattle.rap_events.specs.Composite.{parts, width}
use Rattle.rap_events.specs.Forest.{Forest, none, node, leaf, ◌⧺◌}
use Rattle.rap_events.specs.Record.{Record}
use Rattle.rap_grammar_scripts.specs.Test.{Test, holds}
use Rattle.rap_grammar_table.specs.Category.{Category}
use Rattle.rap_grammar_table.specs.Known.{Place, among, within, Sees}

-- A token of one of these kinds that is read as one of these words, or as any where there are none; an identifier that
-- is taken as this word; the tokens of an operator; or a category.
pub data Piece : Type 0 where
  tok : List ℕ → Option (List ℕ) → Piece
  word : ℕ → Piece
  comp : ℕ → Piece
  cat : Category → Piece

-- A row: a node begins, it ends under a kind, a piece, one of two ways, or any number of turns and then what stands
-- last; and on. Or turns alone. A part may be marked as one that a script reads alone. Around the last node any number
-- of nodes may be put, each by a turn that begins behind the node that it is put around and ends the new one. Which
-- turns may come is told by a number: a turn is there for some numbers, and tells the next one. Or
-- such turns alone, and each of them. Or of the tokens that come next a test does not hold, where the row is followed
-- in one of these ways.
pub data Items : Type 0 where
  nil : Items
  begin : Items → Items
  close : ℕ → Items → Items
  piece : Piece → Items → Items
  choice : Items → Items → Items → Items
  repeat : Items → Items → Items → Items
  turns_of : Items → Items → Items
  group : Items → Items → Items
  folds : ℕ → Items → Items → Items
  folding : ℕ → Items → Items
  way : List ℕ → Items → ℕ → Items → Items
  unless : Test → List (List Place) → Items → Items

abbrev pub appended : Items → Items → Items
appended nil b = b
appended (begin a) b = begin (appended a b)
appended (close k a) b = close k (appended a b)
appended (piece p a) b = piece p (appended a b)
appended (choice x y a) b = choice x y (appended a b)
appended (repeat x y a) b = repeat x y (appended a b)
appended (turns_of x y) b = repeat x y b
appended (group x a) b = group x (appended a b)
appended (folds n x a) b = folds n x (appended a b)
appended (folding n x) b = folds n x b
appended (way j x m a) b = way j x m (appended a b)
appended (unless h w a) b = unless h w (appended a b)

abbrev pub row_at : ℕ → List Items → Option Items
row_at n [] = None
row_at zero (r ∷ rs) = Some r
row_at (suc n) (r ∷ rs) = row_at n rs

-- a turn of these, the numbers for which it is there, and the next number
pub data HasWay : Items → List ℕ → Items → ℕ → Type 0 where
  first_turn : {js : List ℕ} {m : ℕ} {a ws : Items} → HasWay (way js a m ws) js a m
  other_turn : {is js : List ℕ} {m n : ℕ} {a b ws : Items} → HasWay ws js a m → HasWay (way is b n ws) js a m

-- What is derived: a piece; or the rest of a row, after this forest in the newest open node and these in the older
-- ones.
pub data Goal : Type 0 where
  one : Piece → Goal
  rest_of : Items → Forest → List Forest → Goal

-- tokens of these kinds, each but the last touching the next one
pub data Touching : List ℕ → List Record → Type 0 where
  last_part : {k : ℕ} {r : Record} → r.kind ≡ k → Touching (k ∷ []) (r ∷ [])
  next_part : {k j : ℕ} {ks : List ℕ} {r : Record} {rs : List Record} → r.kind ≡ k → r.joint ≡ true →
      Touching (j ∷ ks) rs → Touching (k ∷ j ∷ ks) (r ∷ rs)

-- a grammar: the rows of each category
abbrev pub Grammar : Type 0
Grammar = Category → List Items

-- the tokens of a piece, or of the rest of a row, and its tree
pub data Derives (g : Grammar) : Goal → List Record → Forest → Type 0 where
  by_row : {c : Category} {row : Items} {ks : List Record} {x : Forest} (n : ℕ) →
      row_at n (g c) ≡ Some row → Derives g (rest_of row none []) ks x → Derives g (one (cat c)) ks x
  a_token : {kinds : List ℕ} {words : Option (List ℕ)} {r : Record} → among kinds r.kind ≡ true →
      within words r.contextual ≡ true → Derives g (one (tok kinds words)) (r ∷ []) (leaf none r.kind 1)
  a_word : {k : ℕ} {r : Record} → r.kind ≡ IDENT → r.contextual ≡ k →
      Derives g (one (word k)) (r ∷ []) (leaf none k 1)
  an_operator : {k : ℕ} {rs : List Record} → Touching (parts k) rs →
      Derives g (one (comp k)) rs (leaf none k (width k))
  ended : {x : Forest} → Derives g (rest_of nil x []) [] x
  begun : {is : Items} {x y : Forest} {xs : List Forest} {ks : List Record} →
      Derives g (rest_of is none (x ∷ xs)) ks y → Derives g (rest_of (begin is) x xs) ks y
  closed : {k : ℕ} {is : Items} {x y z : Forest} {xs : List Forest} {ks : List Record} →
      Derives g (rest_of is (node z k x) xs) ks y → Derives g (rest_of (close k is) x (z ∷ xs)) ks y
  put : {p : Piece} {is : Items} {x y u : Forest} {xs : List Forest} {ks js : List Record} →
      Derives g (one p) ks u → Derives g (rest_of is (x ⧺ u) xs) js y →
      Derives g (rest_of (piece p is) x xs) (ks ++ js) y
  first_way : {a b is : Items} {x y : Forest} {xs : List Forest} {ks : List Record} →
      Derives g (rest_of (appended a is) x xs) ks y → Derives g (rest_of (choice a b is) x xs) ks y
  second_way : {a b is : Items} {x y : Forest} {xs : List Forest} {ks : List Record} →
      Derives g (rest_of (appended b is) x xs) ks y → Derives g (rest_of (choice a b is) x xs) ks y
  last_turn : {a z : Items} {x : Forest} {ks : List Record} →
      Derives g (rest_of z none []) ks x → Derives g (rest_of (turns_of a z) none []) ks x
  one_turn : {a z : Items} {x y : Forest} {ks js : List Record} →
      Derives g (rest_of a none []) ks x → Derives g (rest_of (turns_of a z) none []) js y →
      Derives g (rest_of (turns_of a z) none []) (ks ++ js) (x ⧺ y)
  repeated : {a z is : Items} {x y u : Forest} {xs : List Forest} {ks js : List Record} →
      Derives g (rest_of (turns_of a z) none []) ks u → Derives g (rest_of is (x ⧺ u) xs) js y →
      Derives g (rest_of (repeat a z is) x xs) (ks ++ js) y
  grouped : {a is : Items} {x y u : Forest} {xs : List Forest} {ks js : List Record} →
      Derives g (rest_of a none []) ks u → Derives g (rest_of is (x ⧺ u) xs) js y →
      Derives g (rest_of (group a is) x xs) (ks ++ js) y
  folded_none : {n : ℕ} {ws : Items} {x : Forest} → Derives g (rest_of (folding n ws) x []) [] x
  folded_more : {is : List ℕ} {n m k : ℕ} {ws a : Items} {x c u : Forest} {ks js : List Record} →
      HasWay ws is a m → among is n ≡ true → Derives g (rest_of a x (none ∷ [])) ks (node none k c) →
      Derives g (rest_of (folding m ws) (node none k c) []) js u →
      Derives g (rest_of (folding n ws) x []) (ks ++ js) u
  folded : {n j : ℕ} {ws is : Items} {c x y u : Forest} {xs : List Forest} {ks js : List Record} →
      Derives g (rest_of (folding n ws) (node none j c) []) ks u →
      Derives g (rest_of is (x ⧺ u) xs) js y →
      Derives g (rest_of (folds n ws is) (node x j c) xs) (ks ++ js) y
  guarded : {h : Test} {w : List (List Place)} {is : Items} {ks : List Record} {x y : Forest} {xs : List Forest} →
      ((l : List Record) → Sees w l → holds h (ks ++ l) ≡ false) → Derives g (rest_of is x xs) ks y →
      Derives g (rest_of (unless h w is) x xs) ks y
