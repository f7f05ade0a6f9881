-- A forest over its tokens, leaf by leaf, with what is known of each node, from its own tokens and what is in it.
use Rattle.std.proofs.Common.{◌≡◌, ℕ, List, [], ◌++◌, length, length-append, take, drop, append_assoc, append-nil, refl, sym, arith}
use Rattle.std.proofs.Math.Seq.{drop-append_seam, take-append_seam, drop-append-add}
use Rattle.rap_events.specs.Record.{Record}
use Rattle.rap_events.specs.Forest.{Forest, none, node, leaf, ◌⧺◌, used}
use Rattle.rap_grammar_ends.specs.StandsIn.{NodeAt, last_node, in_last_node, before_node, before_leaf, StandsIn}

-- what is known of a node of this kind over these tokens, with these children
abbrev pub OfNode : Type 1
OfNode = ℕ → List Record → Forest → Type 0

-- leaves and nodes, and nothing else
pub data Stands (M : OfNode) : List Record → Forest → Type 0 where
  empty : Stands M [] none
  with_leaf : {ks : List Record} {f : Forest} {kind width : ℕ} (os : List Record) → Stands M ks f →
      length os ≡ width → Stands M (ks ++ os) (leaf f kind width)
  with_node : {ks js : List Record} {f c : Forest} {kind : ℕ} → Stands M ks f → Stands M js c → M kind js c →
      Stands M (ks ++ js) (node f kind c)

-- one forest after another
pub both : {M : OfNode} {ks js : List Record} {t u : Forest} → Stands M ks t → Stands M js u →
    Stands M (ks ++ js) (t ⧺ u)
both x empty = rw append-nil x
both {ks = ks} x (with_leaf {ks = is} {f = f} {kind = k} {width = w} os y e) =
    rw (append_assoc ks is os) at (with_leaf {kind = k} {width = w} os (both x y) e)
both {ks = ks} x (with_node {ks = is} {js = js} y z g) = rw (append_assoc ks is js) at (with_node (both x y) z g)

-- it stands for its tokens
pub used-stands : {M : OfNode} {ks : List Record} {t : Forest} → Stands M ks t → used t ≡ length ks
used-stands empty = refl
used-stands (with_leaf {ks = ks} os x e) = rw (length-append ks os) (omega (arith, used-stands x, e))
used-stands (with_node {ks = ks} {js = js} x y g) =
    rw (length-append ks js) (omega (arith, used-stands x, used-stands y))

-- so many tokens, after so many others
own_tokens : (before own after : List Record) (n m : ℕ) → length before ≡ n → length own ≡ m →
    take m (drop n (before ++ (own ++ after))) ≡ own
own_tokens before own after n m e f =
    rw (← e, ← f, drop-append_seam before (own ++ after), take-append_seam own after) refl

-- what is known of a node that stands in it, before further tokens
found : {M : OfNode} {ks : List Record} {t : Forest} → Stands M ks t → (l : List Record) {n kind : ℕ}
    {children : Forest} → NodeAt t n kind children → M kind (take (used children) (drop n (ks ++ l))) children
found empty l p = elim p [ ]
found (with_leaf {ks = ks} os x e) l (before_leaf p) = rw (append_assoc ks os l) (found x (os ++ l) p)
found (with_node {ks = ks} {js = js} x y g) l (before_node p) = rw (append_assoc ks js l) (found x (js ++ l) p)
found (with_node {ks = ks} {js = js} {f = f} {c = c} x y g) l last_node =
    rw (append_assoc ks js l, own_tokens ks js l (used f) (used c) (sym (used-stands x)) (sym (used-stands y))) g
found (with_node {ks = ks} {js = js} {f = f} x y g) l (in_last_node {tokens = m} p) =
    rw (append_assoc ks js l, used-stands x, drop-append-add ks (js ++ l) m) (found y l p)

pub of_node : {M : OfNode} {tokens own : List Record} {tree children : Forest} {kind : ℕ} → Stands M tokens tree →
    StandsIn tokens tree own kind children → M kind own children
of_node {own = own} {children = children} x s =
    let y = found x [] s.stands in
    rw (append-nil, s.tokens_are, own_tokens s.before own s.after s.place (used children) s.before_are s.own_are) at y
