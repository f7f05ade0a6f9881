-- Items among tokens that begin none.
use Rattle.std.specs.Prelude.{◌≡◌, true, List, [], ◌∷◌, ◌++◌, codes}
use Rattle.rap_base.specs.TokenKind.{ERROR, AT, COMMA, INT_NUMBER}
use Rattle.rap_events.specs.Record.{Record}
use Rattle.rap_events.specs.Forest.{Forest, none, node, leaf, message, ◌⧺◌}
use Rattle.rap_grammar_scripts.specs.First.{one_of}

-- a token that begins no item
pub record IsStray (r : Record) : Type 0 where
  pub among : one_of (AT ∷ COMMA ∷ INT_NUMBER ∷ []) r.kind ≡ true

-- what is made of it: an `ERROR` over a message and its leaf
abbrev pub stray_tree : Record → Forest
stray_tree r = node none ERROR (leaf (message none (codes "expected an item")) r.kind 1)

-- any list of items and of such tokens, with the tree of each in their order, where it is told what an item is
pub data Mixed (IsItem : List Record → Forest → Type 0) : List Record → Forest → Type 0 where
  no_more : Mixed IsItem [] none
  an_item : {ks js : List Record} {t u : Forest} → IsItem ks t → Mixed IsItem js u → Mixed IsItem (ks ++ js) (t ⧺ u)
  a_stray : {r : Record} {js : List Record} {u : Forest} → IsStray r → Mixed IsItem js u →
      Mixed IsItem (r ∷ js) (stray_tree r ⧺ u)

-- the same before these tokens, where it ends with such a token, or none are left
pub data IsFront (IsItem : List Record → Forest → Type 0) : List Record → List Record → Forest → Type 0 where
  whole : {ks : List Record} {t : Forest} → Mixed IsItem ks t → IsFront IsItem ks [] t
  before : {ks rest : List Record} {r : Record} {t : Forest} → Mixed IsItem ks t → IsStray r →
      IsFront IsItem (ks ++ r ∷ []) rest (t ⧺ stray_tree r)
