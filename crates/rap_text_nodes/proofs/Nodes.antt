-- Where the nodes of a text's tree come from.
use Rattle.std.proofs.Common.{◌≡◌, if◌then◌else◌, ℕ, Bool, true, false, List, [], ◌∷◌, ◌++◌, codes, refl, sym, ap, ◌∙◌}
use Rattle.std.specs.List.{after_first, before_first}
use Rattle.rap_base.specs.NodeKind.{NAME_REF}
use Rattle.rap_base.specs.TokenKind.{DOT, ERROR, FLOAT_NUMBER, INT_NUMBER}
use Rattle.rap_events.specs.Forest.{Forest, none, node, leaf, message, split}
use Rattle.rap_grammar_ends.specs.StandsIn.{NodeAt, last_node as node_last, in_last_node as node_inside, before_node as node_before, before_leaf as leaf_before, before_message as message_before, before_split as split_before}
use Rattle.rap_grammar_shapes.specs.HaveShapes.{HaveShapesWithin}
use Rattle.rap_grammar_shapes.specs.Whole.{IsWhole}
use Rattle.rap_grammar_table.specs.Shapes.{leaf_child, children_of}
use Rattle.rap_lexed.specs.Attached.{attached_tail, before_tail}
use Rattle.rap_lexed.specs.FloatParts.{has_dot, illegal, is_dot, with_number, without_dot}
use Rattle.rap_lexed.specs.LexedStr.{start_of}
use Rattle.rap_lexed.specs.StrForest.{StrForest, str_none, str_node, str_leaf, str_message, with_leaves, with_message}
use Rattle.rap_lexed.specs.Token.{Token}
use Rattle.rap_lexed.specs.Trivia.{after_node, end_of, float_text, past_trivia, placed, trivia_at, with_trivia}
use Rattle.rap_text_nodes.specs.Shown.{shown}
use Rattle.rap_text_nodes.specs.TextNodes.{TextNodeAt, last_node, in_last_node, before_node, before_leaf, before_message, text_children, is_whole_text, IsShaped, of_output, of_number, of_no_field, TextNodesAreShaped}
use Rattle.rap_text_nodes.proofs.LeafKinds.{ArePlain, covered_plain}
use Rattle.rap_text_nodes.proofs.Placed.{here, in_tail, level, trivia_none, whole_leaves}

-- Where a node comes from, in a forest.
data IsFrom : Forest → ℕ → StrForest → Type 0 where
  a_node : {c inside : Forest} {place kind : ℕ} {y : StrForest} → NodeAt c place kind inside →
      text_children y ≡ shown inside → IsWhole (children_of inside) → IsFrom c kind y
  a_number : {c : Forest} {y : StrForest} → text_children y ≡ leaf_child INT_NUMBER ∷ [] → IsFrom c NAME_REF y
  no_field : {c : Forest} {y : StrForest} → text_children y ≡ leaf_child FLOAT_NUMBER ∷ [] → IsFrom c ERROR y

-- the same in a larger one
moved : {c d : Forest} {kind : ℕ} {y : StrForest} →
    ((place : ℕ) (inside : Forest) → NodeAt c place kind inside → (p : ℕ) × NodeAt d p kind inside) →
    IsFrom c kind y → IsFrom d kind y
moved f (a_node {inside = x} {place = p} n e w) = a_node (f p x n).1 e w
moved f (a_number e) = a_number e
moved f (no_field e) = no_field e

-- leaves are no nodes
in_leaves : (f : StrForest) (us : List Token) (kind : ℕ) (y : StrForest) → TextNodeAt (with_leaves f us) kind y →
    TextNodeAt f kind y
in_leaves f [] kind y n = n
in_leaves f (u ∷ us) kind y n = no_leaf (in_leaves (str_leaf f u.kind u.text) us kind y n)
  where
    no_leaf : {g z : StrForest} {k j : ℕ} {text : List ℕ} → TextNodeAt (str_leaf g k text) j z → TextNodeAt g j z
    no_leaf (before_leaf n) = n

-- A message stands after a forest, or at the end of its last node.
in_message : (f : StrForest) (bytes : List ℕ) (pos kind : ℕ) (y : StrForest) →
    TextNodeAt (with_message f bytes pos) kind y → is_whole_text y ≡ true → TextNodeAt f kind y
in_message str_none bytes pos kind y (before_message n) w = n
in_message (str_node f k x) bytes pos kind y last_node w = absurd (let z : false ≡ true = w in cc)
in_message (str_node f k x) bytes pos kind y (in_last_node (before_message n)) w = in_last_node n
in_message (str_node f k x) bytes pos kind y (before_node n) w = before_node n
in_message (str_leaf f k text) bytes pos kind y (before_message n) w = n
in_message (str_message f m p) bytes pos kind y (before_message n) w = n

-- what a number of a float is, and what stands before it
in_number : (c : Forest) (f : StrForest) (number : List ℕ) (kind : ℕ) (y : StrForest) →
    TextNodeAt (with_number f number) kind y → (TextNodeAt f kind y → IsFrom c kind y) → IsFrom c kind y
in_number c f number kind y last_node g = a_number refl
in_number c f number kind y (in_last_node (before_leaf n)) g = elim n [ ]
in_number c f number kind y (before_node n) g = g n

in_float : (c : Forest) (b : Bool) (f : StrForest) (number text : List ℕ) (pos kind : ℕ) (y : StrForest) →
    TextNodeAt
    (if b then with_number f number
    else str_node (str_message f illegal pos) ERROR (str_leaf str_none FLOAT_NUMBER text)) kind y →
    (TextNodeAt f kind y → IsFrom c kind y) → IsFrom c kind y
in_float c true f number text pos kind y n g = in_number c f number kind y n g
in_float c false f number text pos kind y last_node g = no_field refl
in_float c false f number text pos kind y (in_last_node (before_leaf n)) g = elim n [ ]
in_float c false f number text pos kind y (before_node (before_message n)) g = g n

out_of_float : (c : Forest) (b : Bool) (f : StrForest) (number : List ℕ) (kind : ℕ) (y : StrForest) →
    TextNodeAt (if b then with_number (str_leaf f DOT (codes ".")) number else f) kind y →
    (TextNodeAt f kind y → IsFrom c kind y) → IsFrom c kind y
out_of_float c true f number kind y n g =
    in_number c (str_leaf f DOT (codes ".")) number kind y n (λ m. behind_dot m g)
  where
    behind_dot : {h z : StrForest} {k j : ℕ} {text : List ℕ} {A : Type 0} → TextNodeAt (str_leaf h k text) j z →
        (TextNodeAt h j z → A) → A
    behind_dot (before_leaf n) g = g n
out_of_float c false f number kind y n g = g n

in_after : (ts : List Token) (at : ℕ) (c d : Forest) (f : StrForest) (kind : ℕ) (y : StrForest) →
    TextNodeAt (after_node ts at c f) kind y → (TextNodeAt f kind y → IsFrom d kind y) → IsFrom d kind y
in_after ts at none d f kind y n g = g n
in_after ts at (node before k c) d f kind y n g = g n
in_after ts at (leaf before k width) d f kind y n g = g n
in_after ts at (message before bytes) d f kind y n g = g n
in_after ts at (split before true) d f kind y (before_leaf n) g = g n
in_after ts at (split before false) d f kind y n g =
    out_of_float d (has_dot (float_text ts at before)) f (after_first is_dot (float_text ts at before)) kind y n g

-- No node stands there yet.
abbrev NoNodes : StrForest → Type 0
NoNodes f = (kind : ℕ) (y : StrForest) → TextNodeAt f kind y → ⊥

no_nodes : NoNodes str_none
no_nodes kind y n = elim n [ ]

no_nodes_in : (us : List Token) → NoNodes (with_leaves str_none us)
no_nodes_in us kind y n = no_nodes kind y (in_leaves str_none us kind y n)

module _ (ts : List Token) where
  -- a node with what stands in it
  in_node : (before children : Forest) (k at : ℕ) (f s : StrForest) → ArePlain children → text_children s ≡ [] →
      (kind : ℕ) (y : StrForest) →
      ((m : TextNodeAt (placed ts at s children) kind y) → IsFrom children kind y) →
      (TextNodeAt f kind y → IsFrom before kind y) → TextNodeAt (str_node f k (placed ts at s children)) kind y →
      is_whole_text y ≡ true → IsFrom (node before k children) kind y
  in_node before children k at f s h e kind y inside first last_node w =
      let r = level ts children h at s w in
      a_node node_last (r.same ∙ ap (λ cs. cs ++ shown children) e) r.whole
  in_node before children k at f s h e kind y inside first (in_last_node n) w =
      moved (λ p x m. (_, node_inside m)) (inside n)
  in_node before children k at f s h e kind y inside first (before_node n) w =
      moved (λ p x m. (_, node_before m)) (first n)

  -- all nodes of a forest that stands there
  from : (c : Forest) → ArePlain c → (at : ℕ) (start : StrForest) → NoNodes start → (kind : ℕ) (y : StrForest) →
      TextNodeAt (placed ts at start c) kind y → is_whole_text y ≡ true → IsFrom c kind y
  from none h at start z kind y n w = absurd (z kind y n)
  from (node before k children) h at start z kind y n w =
      let us = trivia_at ts (end_of ts at before) in
      let q = past_trivia ts (end_of ts at before) in
      let f = with_leaves (placed ts at start before) (before_tail k us) in
      let s = with_leaves str_none (attached_tail k us) in
      in_after ts q children (node before k children) (str_node f k (placed ts q s children)) kind y n
      (λ m.
      in_node before children k q f s h.1 (trivia_none str_none (attached_tail k us) (in_tail k us (here ts (end_of ts at before))))
      kind y (λ i. from children h.1 q s (no_nodes_in (attached_tail k us)) kind y i w)
      (λ i.
      from before h.0 at start z kind y (in_leaves (placed ts at start before) (before_tail k us) kind y i) w) m w)
  from (leaf before k width) h at start z kind y (before_leaf n) w =
      moved (λ p x m. (_, leaf_before m))
      (from before h.0 at start z kind y
      (in_leaves (placed ts at start before) (trivia_at ts (end_of ts at before)) kind y n) w)
  from (message before bytes) h at start z kind y n w =
      moved (λ p x m. (_, message_before m))
      (from before h at start z kind y
      (in_message (placed ts at start before) bytes (start_of ts (end_of ts at before)) kind y n w) w)
  from (split before true) h at start z kind y n w =
      let f = with_leaves (placed ts at start before) (trivia_at ts (end_of ts at before)) in
      in_number (split before true) f (without_dot (float_text ts at before)) kind y n
      (λ m.
      moved (λ p x i. (_, split_before i))
      (from before h at start z kind y
      (in_leaves (placed ts at start before) (trivia_at ts (end_of ts at before)) kind y m) w))
  from (split before false) h at start z kind y n w =
      let f = with_leaves (placed ts at start before) (trivia_at ts (end_of ts at before)) in
      in_float (split before false) (has_dot (float_text ts at before)) f (before_first is_dot (float_text ts at before))
      (float_text ts at before) (start_of ts (past_trivia ts (end_of ts at before))) kind y n
      (λ m.
      moved (λ p x i. (_, split_before i))
      (from before h at start z kind y
      (in_leaves (placed ts at start before) (trivia_at ts (end_of ts at before)) kind y m) w))

  -- all nodes of a tree
  from_tree : (f : Forest) → ArePlain f → (kind : ℕ) (y : StrForest) → TextNodeAt (with_trivia ts f) kind y →
      is_whole_text y ≡ true → IsFrom f kind y
  from_tree none h kind y n w = elim n [ ]
  from_tree (node before k children) h kind y last_node w =
      let us = trivia_at ts (end_of ts 0 children) in
      let r = level ts children h.1 0 str_none (sym (whole_leaves (placed ts 0 str_none children) us) ∙ w) in
      a_node node_last (trivia_none (placed ts 0 str_none children) us (here ts (end_of ts 0 children)) ∙ r.same) r.whole
  from_tree (node before k children) h kind y (in_last_node n) w =
      moved (λ p x m. (_, node_inside m))
      (from children h.1 0 str_none no_nodes kind y
      (in_leaves (placed ts 0 str_none children) (trivia_at ts (end_of ts 0 children)) kind y n) w)
  from_tree (node before k children) h kind y (before_node n) w = elim n [ ]
  from_tree (leaf before k width) h kind y n w = elim n [ ]
  from_tree (message before bytes) h kind y n w = elim n [ ]
  from_tree (split before d) h kind y n w = elim n [ ]

-- and what is known of them
shaped : (output : Forest) (kind : ℕ) (y : StrForest) → HaveShapesWithin output → IsFrom output kind y →
    IsShaped output kind y
shaped output kind y h (a_node {inside = x} {place = p} n e w) = of_output n e (h.shapes p kind x n w)
shaped output kind y h (a_number e) = of_number e
shaped output kind y h (no_field e) = of_no_field e

-- Each node of a text's tree comes so from the output.
pub text_nodes : TextNodesAreShaped
text_nodes ts edition output c h kind y n w =
    shaped output kind y h (from_tree ts output (covered_plain ts edition output c) kind y n w)
