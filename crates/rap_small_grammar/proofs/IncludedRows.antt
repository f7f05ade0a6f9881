-- Rows of the table by what stands in them: the words in which the inclusion of the core grammar is proved.
use Rattle.std.proofs.Common.{◌≡◌, ℕ, true, false, List, [], ◌∷◌, ◌++◌, Some, None, refl, sym, ap, ◌∙◌, subst, append_assoc, append-nil}
use Rattle.std.proofs.lemmas.Bool.{eq-eqb}
use Rattle.rap_base.specs.TokenKind.{IDENT}
use Rattle.rap_events.specs.Composite.{parts, width}
use Rattle.rap_events.specs.Forest.{Forest, none, node, leaf, ◌⧺◌}
use Rattle.rap_events.specs.Record.{Record}
use Rattle.rap_grammar_scripts.specs.Test.{Test, holds}
use Rattle.rap_small_grammar.specs.Derives.{Is, IsName, Writes, tokens_of}
use Rattle.rap_small_grammar.specs.Derives as old
use Rattle.rap_grammar_ends.proofs.Ways.{none-⧺}
use Rattle.rap_grammar_table.specs.Category.{Category}
use Rattle.rap_grammar_table.specs.Rows.{grammar}
use Rattle.rap_grammar_table.specs.Known.{Place, among}
use Rattle.rap_grammar_table.specs.Notation.{name_words}
use Rattle.rap_grammar_table.specs.Table.{Piece, tok, comp, cat, Items, nil, begin, close, piece, choice, repeat, turns_of, group, folds, folding, unless, appended, HasWay, row_at, one, rest_of, Touching, Derives, last_part, next_part, by_row, a_token, an_operator, ended, begun, closed, put, first_way, second_way, last_turn, one_turn, repeated, grouped, folded_none, folded_more, folded, guarded}
use Rattle.rap_grammar_table.specs.Tops.{Makes}

-- a piece of a row, and the rest of one, after this forest and with these in the older nodes
abbrev pub Has : Piece → List Record → Forest → Type 0
Has p ks t = Derives grammar (one p) ks t

abbrev pub Row : Items → Forest → List Forest → List Record → Forest → Type 0
Row is x xs ks y = Derives grammar (rest_of is x xs) ks y

pub done : {x : Forest} → Row nil x [] [] x
done = ended

pub opens : {is : Items} {x y : Forest} {xs : List Forest} {ks : List Record} → Row is none (x ∷ xs) ks y →
    Row (begin is) x xs ks y
opens r = begun r

pub closes : {k : ℕ} {is : Items} {x y z : Forest} {xs : List Forest} {ks : List Record} → Row is (node z k x) xs ks y →
    Row (close k is) x (z ∷ xs) ks y
closes r = closed r

pub puts : {p : Piece} {is : Items} {x y u : Forest} {xs : List Forest} {ks js : List Record} → Has p ks u →
    Row is (x ⧺ u) xs js y → Row (piece p is) x xs (ks ++ js) y
puts {u = u} d r = put d r

pub one_way : {a b is : Items} {x y : Forest} {xs : List Forest} {ks : List Record} → Row (appended a is) x xs ks y →
    Row (choice a b is) x xs ks y
one_way r = first_way r

pub other_way : {a b is : Items} {x y : Forest} {xs : List Forest} {ks : List Record} → Row (appended b is) x xs ks y →
    Row (choice a b is) x xs ks y
other_way r = second_way r

-- turns, and nodes around the last one from a number on
abbrev pub Turns : Items → Items → List Record → Forest → Type 0
Turns a z ks t = Derives grammar (rest_of (turns_of a z) none []) ks t

abbrev pub Folds : ℕ → Items → Forest → List Record → Forest → Type 0
Folds n ws x ks t = Derives grammar (rest_of (folding n ws) x []) ks t

pub ends_with : {a z : Items} {x : Forest} {ks : List Record} → Row z none [] ks x → Turns a z ks x
ends_with r = last_turn r

pub turns : {a z : Items} {x y : Forest} {ks js : List Record} → Row a none [] ks x → Turns a z js y →
    Turns a z (ks ++ js) (x ⧺ y)
turns r d = one_turn r d

pub repeats : {a z is : Items} {x y u : Forest} {xs : List Forest} {ks js : List Record} → Turns a z ks u →
    Row is (x ⧺ u) xs js y → Row (repeat a z is) x xs (ks ++ js) y
repeats {u = u} d r = repeated d r

-- no turn at all
pub none_comes : {a is : Items} {x y : Forest} {xs : List Forest} {ks : List Record} → Row is x xs ks y →
    Row (repeat a nil is) x xs ks y
none_comes r = repeats (ends_with done) r

pub groups : {a is : Items} {x y u : Forest} {xs : List Forest} {ks js : List Record} → Row a none [] ks u →
    Row is (x ⧺ u) xs js y → Row (group a is) x xs (ks ++ js) y
groups {u = u} d r = grouped d r

pub groups_last : {a is : Items} {x y u : Forest} {xs : List Forest} {ks : List Record} → Row a none [] ks u →
    Row is (x ⧺ u) xs [] y → Row (group a is) x xs ks y
groups_last {a = a} {is = is} {x = x} {y = y} {xs = xs} {ks = ks} d r =
    let g : Row (group a is) x xs (ks ++ []) y = groups d r in rw append-nil at g

-- a part that is read alone and is missing
pub no_group : {a is : Items} {x y : Forest} {xs : List Forest} {ks : List Record} → Row is x xs ks y →
    Row (group (choice a nil nil) is) x xs ks y
no_group r = groups (other_way done) r

pub guards : {h : Test} {w : List (List Place)} {is : Items} {ks : List Record} {x y : Forest} {xs : List Forest} →
    ((l : List Record) → holds h (ks ++ l) ≡ false) → Row is x xs ks y → Row (unless h w is) x xs ks y
guards n r = guarded (λ l s. n l) r

pub folds_up : {n j : ℕ} {ws is : Items} {c x y u : Forest} {xs : List Forest} {ks js : List Record} →
    Folds n ws (node none j c) ks u → Row is (x ⧺ u) xs js y → Row (folds n ws is) (node x j c) xs (ks ++ js) y
folds_up {u = u} d r = folded d r

-- a row of a category
pub makes : {c : Category} {is : Items} {ks : List Record} {t : Forest} (n : ℕ) → row_at n (grammar c) ≡ Some is →
    Row is none [] ks t → Makes c ks t
makes n e r = by_row n e r

-- a piece that stands first in its node, last in the row, or alone
pub puts_first : {p : Piece} {is : Items} {y u : Forest} {xs : List Forest} {ks js : List Record} → Has p ks u →
    Row is u xs js y → Row (piece p is) none xs (ks ++ js) y
puts_first {u = u} d r = puts d (rw none-⧺ r)

pub puts_last : {p : Piece} {is : Items} {x y u : Forest} {xs : List Forest} {ks : List Record} → Has p ks u →
    Row is (x ⧺ u) xs [] y → Row (piece p is) x xs ks y
puts_last d r = rw append-nil at (puts d r)

pub puts_alone : {p : Piece} {is : Items} {y u : Forest} {xs : List Forest} {ks : List Record} → Has p ks u →
    Row is u xs [] y → Row (piece p is) none xs ks y
puts_alone d r = puts_last d (rw none-⧺ r)

-- a token of this kind, and a name
the_kind : (k : ℕ) (r : Record) → r.kind ≡ k → Has (tok (k ∷ []) None) (r ∷ []) (leaf none k 1)
the_kind k r e =
    subst (λ (j : ℕ). Has (tok (k ∷ []) None) (r ∷ []) (leaf none j 1)) e
    (a_token (rw (e, eq-eqb k k refl) refl) refl)

pub puts_token : {k : ℕ} {a : Record} {is : Items} {x y : Forest} {xs : List Forest} {js : List Record} → Is a k →
    Row is (leaf x k 1) xs js y → Row (piece (tok (k ∷ []) None) is) x xs (a ∷ js) y
puts_token {k = k} {a = a} o r = puts (the_kind k a o.kind_is) r

a_name : (kinds : List ℕ) (r : Record) → IsName r → among kinds IDENT ≡ true →
    Has (tok kinds name_words) (r ∷ []) (leaf none IDENT 1)
a_name kinds r n h =
    subst (λ (j : ℕ). Has (tok kinds name_words) (r ∷ []) (leaf none j 1)) n.kind
    (a_token (rw n.kind h) (rw n.contextual refl))

pub puts_name : {kinds : List ℕ} {a : Record} {is : Items} {x y : Forest} {xs : List Forest} {js : List Record} →
    IsName a → among kinds IDENT ≡ true → Row is (leaf x IDENT 1) xs js y →
    Row (piece (tok kinds name_words) is) x xs (a ∷ js) y
puts_name {kinds = kinds} {a = a} n h r = puts (a_name kinds a n h) r

-- the tokens of an operator of more than one
touching : (ks : List ℕ) (rs : List Record) → old.Touching ks rs → Touching ks rs
touching [] rs h = absurd h
touching (k ∷ ks) [] h = absurd h
touching (k ∷ []) (r ∷ []) h = last_part h
touching (k ∷ []) (r ∷ s ∷ rs) h = absurd h
touching (k ∷ j ∷ ks) (r ∷ rs) h = next_part h.0 h.1 (touching (j ∷ ks) rs h.2)

pub puts_operator : {k : ℕ} {os : List Record} {is : Items} {x y : Forest} {xs : List Forest} {js : List Record} →
    tokens_of (parts k) k ≡ parts k → Writes os k → Row is (leaf x k (width k)) xs js y →
    Row (piece (comp k) is) x xs (os ++ js) y
puts_operator {k = k} {os = os} e w r = puts (an_operator (touching (parts k) os (rw e at w.touching))) r

-- nodes around the one that a row ends with
pub folds_alone : {n j : ℕ} {ws : Items} {c u : Forest} {ks : List Record} → Folds n ws (node none j c) ks u →
    Row (folds n ws nil) (node none j c) [] ks u
folds_alone {n = n} {j = j} {ws = ws} {c = c} {u = u} {ks = ks} d =
    let r : Row (folds n ws nil) (node none j c) [] (ks ++ []) (none ⧺ u) = folds_up d done in
    rw (append-nil, none-⧺) at r

-- Nodes around one, the last of them first: from this number and node on, to these.
pub data Folded (ws : Items) (n : ℕ) (x : Forest) : List Record → Forest → ℕ → Type 0 where
  none_yet : Folded ws n x [] x n
  one_more : {is : List ℕ} {m l k : ℕ} {a : Items} {y c : Forest} {ks js : List Record} → Folded ws n x ks y m →
      HasWay ws is a l → among is m ≡ true → Row a y (none ∷ []) js (node none k c) →
      Folded ws n x (ks ++ js) (node none k c) l

pub unrolled : {ws : Items} {n : ℕ} {x y z : Forest} {m : ℕ} {ks js : List Record} → Folded ws n x ks y m →
    Folds m ws y js z → Folds n ws x (ks ++ js) z
unrolled none_yet d = d
unrolled (one_more f w i r) d = rw append_assoc (unrolled f (folded_more w i r d))

pub rolled : {ws : Items} {n m : ℕ} {x y : Forest} {ks : List Record} → Folded ws n x ks y m → Folds n ws x ks y
rolled f = rw append-nil at (unrolled f folded_none)

-- An operand of this category first, and then what is said of its tree and of the tokens behind it.
pub record Headed (category : Category) (more : Forest → List Record → Type 0) (ks : List Record) : Type 0 where
  pub own : List Record
  pub behind : List Record
  pub is : own ++ behind ≡ ks
  pub kind : ℕ
  pub children : Forest
  pub head : Makes category own (node none kind children)
  pub rest : more (node none kind children) behind

pub nothing_behind : {category : Category} {kind : ℕ} {more : Forest → List Record → Type 0} {ks : List Record} {children : Forest} →
    Makes category ks (node none kind children) → more (node none kind children) [] → Headed category more ks
nothing_behind {kind = kind} {ks = ks} {children = children} d m =
    record { own = ks; behind = []; is = append-nil ks; kind = kind; children = children; head = d; rest = m }

pub behind_it : {category : Category} {more next : Forest → List Record → Type 0} {ks : List Record} (js : List Record) →
    ((x : Forest) (ms : List Record) → more x ms → next x (ms ++ js)) → Headed category more ks →
    Headed category next (ks ++ js)
behind_it js f h =
    record {
      own = h.own;
      behind = h.behind ++ js;
      is = sym (append_assoc h.own h.behind js) ∙ ap (λ (ms : List Record). ms ++ js) h.is;
      kind = h.kind;
      children = h.children;
      head = h.head;
      rest = f (node none h.kind h.children) h.behind h.rest;
    }

pub said_so : {category : Category} {more next : Forest → List Record → Type 0} {ks : List Record} →
    ((x : Forest) (ms : List Record) → more x ms → next x ms) → Headed category more ks → Headed category next ks
said_so f h =
    record {
      own = h.own;
      behind = h.behind;
      is = h.is;
      kind = h.kind;
      children = h.children;
      head = h.head;
      rest = f (node none h.kind h.children) h.behind h.rest;
    }

-- nodes around the operand, and the row of both
abbrev pub FoldsTo : ℕ → Items → Forest → Forest → List Record → Type 0
FoldsTo n ws t x ks = Folds n ws x ks t

pub whole : {category : Category} {n : ℕ} {ws : Items} {ks : List Record} {t : Forest} → Headed category (FoldsTo n ws t) ks →
    Row (piece (cat category) (folds n ws nil)) none [] ks t
whole h = rw (← h.is) (puts h.head (folds_alone h.rest))
