-- What is known of the parts of a row when its script is walked: that the scripts of the rules read them.
use Rattle.std.specs.Prelude.{◌≡◌, ℕ, true, false, ◌==◌, Option, List, [], ◌∷◌, ◌++◌}
use Rattle.rap_base.specs.TokenKind.{IDENT, R_CURLY}
use Rattle.rap_events.specs.Composite.{parts, width}
use Rattle.rap_events.specs.Forest.{Forest, none, node, leaf, ◌⧺◌}
use Rattle.rap_events.specs.LastToken.{last_after}
use Rattle.rap_events.specs.Record.{Record}
use Rattle.rap_grammar_scripts.specs.Knot.{script_of}
use Rattle.rap_grammar_scripts.specs.Script.{Outcome, Runs, Script}
use Rattle.rap_grammar_scripts.specs.Test.{Test, holds}
use Rattle.rap_grammar_scripts.specs.declared.rule.Rule.{Rule}
use Rattle.rap_grammar_table.specs.Category.{Category}
use Rattle.rap_grammar_table.proofs.Hints.{Table}
use Rattle.rap_grammar_table.proofs.Refusal.{accepted}
use Rattle.rap_grammar_table.proofs.Walk.{reads_rows}
use Rattle.rap_grammar_table.proofs.Ways.{some_outcome, has_outcome}
use Rattle.rap_grammar_table.specs.Known.{Place, among, within, Sees}
use Rattle.rap_grammar_table.specs.Table.{Piece, tok, word, comp, cat, Items, nil, begin, close, piece, choice, repeat, turns_of, group, folds, folding, unless, appended, HasWay, Touching}

-- a rule reads these tokens as this tree, before these tokens and after this forest
pub record Reads (t : Table) (r : Rule) (c : Category) (ks : List Record) (u : Forest) (l : List Record) (f : Forest)
    (b : List Forest) : Type 0 where
  pub outcome : Outcome
  pub among_them : has_outcome (t.reads r c) outcome ≡ true
  pub run : Runs script_of (script_of r) (record { rest = ks ++ l; forest = f; below = b })
      (record { rest = l; forest = f ⧺ u; below = b }) outcome

-- a script reads them with one of these outcomes
pub record ReadsBy (a : Script Rule) (vs : List Outcome) (ks : List Record) (u : Forest) (l : List Record) (f : Forest)
    (b : List Forest) : Type 0 where
  pub outcome : Outcome
  pub among_them : has_outcome vs outcome ≡ true
  pub run : Runs script_of a (record { rest = ks ++ l; forest = f; below = b })
      (record { rest = l; forest = f ⧺ u; below = b }) outcome

-- so does each script that reads all rows of the category, however deep categories nest in it
abbrev pub ByRows : Table → Category → List Record → Forest → List Record → Type 0
ByRows t c ks u l =
    (n : ℕ) (a : Script Rule) (vs : List Outcome) (f : Forest) (b : List Forest) → reads_rows n t c a vs ≡ accepted →
    ReadsBy a vs ks u l f b

-- a forest is one node
pub record IsNode (u : Forest) : Type 0 where
  pub kind : ℕ
  pub children : Forest
  pub node_is : u ≡ node none kind children

-- whatever token stood before it, its last token is no `}`
pub record IsUnbraced (u : Forest) : Type 0 where
  pub last : (k : ℕ) → (last_after k u == R_CURLY) ≡ false

-- the tokens of a piece, its tree, and what follows
pub data Good (t : Table) : Piece → List Record → Forest → List Record → Type 0 where
  good_token : {kinds : List ℕ} {words : Option (List ℕ)} {r : Record} {l : List Record} → among kinds r.kind ≡ true →
      within words r.contextual ≡ true → Good t (tok kinds words) (r ∷ []) (leaf none r.kind 1) l
  good_word : {k : ℕ} {r : Record} {l : List Record} → r.kind ≡ IDENT → r.contextual ≡ k →
      Good t (word k) (r ∷ []) (leaf none k 1) l
  good_operator : {k : ℕ} {rs l : List Record} → Touching (parts k) rs → Good t (comp k) rs (leaf none k (width k)) l
  good_category : {c : Category} {ks l : List Record} {u : Forest} → Sees (t.firsts c) (ks ++ l) →
      (t.is_node c ≡ true → IsNode u) → (t.unbraced c ≡ true → IsUnbraced u) →
      (t.by_rows c ≡ true → ByRows t c ks u l) →
      ((r : Rule) (f : Forest) (b : List Forest) → some_outcome (t.reads r c) ≡ true → Reads t r c ks u l f b) →
      Good t (cat c) ks u l

-- the rest of a row, before these tokens
pub data Made (t : Table) :
    List Record → Items → Forest → List Forest → List Forest → List Record → Forest → Type 0 where
  made_end : {l : List Record} {x : Forest} → Made t l nil x [] [] [] x
  made_begin : {l : List Record} {is : Items} {x y : Forest} {xs us : List Forest} {ks : List Record} →
      Made t l is none (x ∷ xs) us ks y → Made t l (begin is) x xs us ks y
  made_close : {l : List Record} {k : ℕ} {is : Items} {x y z : Forest} {xs us : List Forest} {ks : List Record} →
      Made t l is (node z k x) xs us ks y → Made t l (close k is) x (z ∷ xs) us ks y
  made_piece : {l : List Record} {p : Piece} {is : Items} {x y u : Forest} {xs us : List Forest} {ks js : List Record} →
      Good t p ks u (js ++ l) → Made t l is (x ⧺ u) xs us js y →
      Made t l (piece p is) x xs (u ∷ us) (ks ++ js) y
  made_first : {l : List Record} {a b is : Items} {x y : Forest} {xs us : List Forest} {ks : List Record} →
      Made t l (appended a is) x xs us ks y → Made t l (choice a b is) x xs us ks y
  made_second : {l : List Record} {a b is : Items} {x y : Forest} {xs us : List Forest} {ks : List Record} →
      Made t l (appended b is) x xs us ks y → Made t l (choice a b is) x xs us ks y
  made_last : {l : List Record} {a z : Items} {x : Forest} {us : List Forest} {ks : List Record} →
      Made t l z none [] us ks x → Made t l (turns_of a z) none [] [] ks x
  made_turn : {l : List Record} {a z : Items} {x y : Forest} {us : List Forest} {ks js : List Record} →
      Made t (js ++ l) a none [] us ks x → Made t l (turns_of a z) none [] [] js y →
      Made t l (turns_of a z) none [] [] (ks ++ js) (x ⧺ y)
  made_repeat : {l : List Record} {a z is : Items} {x y u : Forest} {xs us : List Forest} {ks js : List Record} →
      Made t (js ++ l) (turns_of a z) none [] [] ks u → Made t l is (x ⧺ u) xs us js y →
      Made t l (repeat a z is) x xs (u ∷ us) (ks ++ js) y
  made_group : {l : List Record} {a is : Items} {x y u : Forest} {xs us vs : List Forest} {ks js : List Record} →
      Made t (js ++ l) a none [] vs ks u → Made t l is (x ⧺ u) xs us js y →
      Made t l (group a is) x xs (u ∷ us) (ks ++ js) y
  made_folded_none : {l : List Record} {n : ℕ} {ws : Items} {x : Forest} → Made t l (folding n ws) x [] [] [] x
  made_folded_more : {l : List Record} {is : List ℕ} {n m k : ℕ} {ws a : Items} {x c u : Forest} {vs : List Forest}
      {ks js : List Record} → HasWay ws is a m → among is n ≡ true →
      Made t (js ++ l) a x (none ∷ []) vs ks (node none k c) →
      Made t l (folding m ws) (node none k c) [] [] js u → Made t l (folding n ws) x [] [] (ks ++ js) u
  made_folds : {l : List Record} {n j : ℕ} {ws is : Items} {c x y u : Forest} {xs us : List Forest} {ks js : List Record} →
      Made t (js ++ l) (folding n ws) (node none j c) [] [] ks u → Made t l is (x ⧺ u) xs us js y →
      Made t l (folds n ws is) (node x j c) xs (u ∷ us) (ks ++ js) y
  made_guarded : {l : List Record} {h : Test} {w : List (List Place)} {is : Items} {ks : List Record} {x y : Forest} {xs us : List Forest} →
      holds h (ks ++ l) ≡ false → Made t l is x xs us ks y → Made t l (unless h w is) x xs us ks y
