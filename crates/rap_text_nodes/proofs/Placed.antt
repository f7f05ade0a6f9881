-- What stands right under a node of a text's tree.
use Rattle.std.proofs.Common.{◌≡◌, ◌==◌, ◌&&◌, not, cond, if◌then◌else◌, ℕ, zero, suc, ◌+◌, Bool, true, false, List, [], ◌∷◌, ◌++◌, append_assoc, append-nil, inl, inr, take, drop, codes, refl, sym, ap, subst, ◌∙◌}
use Rattle.std.specs.List.{after_first, before_first, take_while}
use Rattle.std.proofs.lemmas.Bool.{cases_Bool, cond-true, cond-false}
use Rattle.std.proofs.lemmas.List.Sums.{take_while-cons}
use Rattle.rap_base.specs.NodeKind.{NAME_REF}
use Rattle.rap_base.specs.TokenKind.{DOT, ERROR, FLOAT_NUMBER}
use Rattle.rap_base.specs.TokenTests.{is_trivia}
use Rattle.rap_events.proofs.Truth.{and_left, and_right}
use Rattle.rap_events.specs.Forest.{Forest, none, node, leaf, message, split}
use Rattle.rap_grammar_shapes.specs.Whole.{IsWhole}
use Rattle.rap_grammar_shapes.proofs.ContentLaws.{both_whole}
use Rattle.rap_grammar_table.specs.Shapes.{Child, leaf_child, node_child, float_child, children_of}
use Rattle.rap_lexed.specs.Attached.{attached_tail, before_tail}
use Rattle.rap_lexed.specs.FloatParts.{has_dot, illegal, is_dot, with_number}
use Rattle.rap_lexed.specs.LexedStr.{start_of}
use Rattle.rap_lexed.specs.StrForest.{StrForest, str_none, str_node, str_leaf, str_message, with_leaves, with_message}
use Rattle.rap_lexed.specs.Token.{Token}
use Rattle.rap_lexed.specs.Trivia.{after_node, end_of, float_text, is_trivial, past_trivia, placed, trivia_at}
use Rattle.rap_text_nodes.specs.Shown.{behind, shown}
use Rattle.rap_text_nodes.specs.TextNodes.{ends_badly, is_whole_text, leaf_if, text_children}
use Rattle.rap_text_nodes.proofs.LeafKinds.{ArePlain}

-- white space and comments
abbrev pub AllTrivia : List Token → Type 0
AllTrivia [] = Unit {0}
AllTrivia (t ∷ ts) = (is_trivial t ≡ true) × AllTrivia ts

while_trivia : (ts : List Token) → AllTrivia (take_while is_trivial ts)
while_trivia [] = tt
while_trivia (t ∷ ts) =
    elim (cases_Bool (is_trivial t)) as (λ _. AllTrivia (take_while is_trivial (t ∷ ts))) [
      | inl e ↦
          subst AllTrivia
          (sym (take_while-cons is_trivial t ts ∙ cond-true (is_trivial t) (t ∷ take_while is_trivial ts) [] e))
          (e, while_trivia ts)
      | inr e ↦
          subst AllTrivia
          (sym (take_while-cons is_trivial t ts ∙ cond-false (is_trivial t) (t ∷ take_while is_trivial ts) [] e)) tt
    ]

drop_trivia : (n : ℕ) (ts : List Token) → AllTrivia ts → AllTrivia (drop n ts)
drop_trivia zero ts h = h
drop_trivia (suc n) [] h = tt
drop_trivia (suc n) (t ∷ ts) h = drop_trivia n ts h.1

take_trivia : (n : ℕ) (ts : List Token) → AllTrivia ts → AllTrivia (take n ts)
take_trivia zero ts h = tt
take_trivia (suc n) [] h = tt
take_trivia (suc n) (t ∷ ts) h = (h.0, take_trivia n ts h.1)

pub here : (ts : List Token) (at : ℕ) → AllTrivia (trivia_at ts at)
here ts at = while_trivia (drop at ts)

pub in_tail : (kind : ℕ) (us : List Token) → AllTrivia us → AllTrivia (attached_tail kind us)
in_tail kind us h = drop_trivia _ us h

pub past_tail : (kind : ℕ) (us : List Token) → AllTrivia us → AllTrivia (before_tail kind us)
past_tail kind us h = take_trivia _ us h

-- leaves that are no children
leaf_none : (cs : List Child) (b : Bool) (kind : ℕ) → b ≡ true → cs ++ leaf_if b kind ≡ cs
leaf_none cs true kind h = append-nil cs
leaf_none cs false kind h = absurd cc

leaf_one : (cs : List Child) (b : Bool) (kind : ℕ) → b ≡ false → cs ++ leaf_if b kind ≡ cs ++ leaf_child kind ∷ []
leaf_one cs true kind h = absurd cc
leaf_one cs false kind h = refl

pub trivia_none : (f : StrForest) (us : List Token) → AllTrivia us → text_children (with_leaves f us) ≡ text_children f
trivia_none f [] h = refl
trivia_none f (u ∷ us) h =
    trivia_none (str_leaf f u.kind u.text) us h.1 ∙ leaf_none (text_children f) (is_trivia u.kind) u.kind h.0

pub whole_leaves : (f : StrForest) (us : List Token) → is_whole_text (with_leaves f us) ≡ is_whole_text f
whole_leaves f [] = refl
whole_leaves f (u ∷ us) = whole_leaves (str_leaf f u.kind u.text) us

-- a message is never right
badly : (b c : Bool) → (b && (c && not true)) ≡ false
badly true true = refl
badly true false = refl
badly false c = refl

pub never_whole : (f : StrForest) (bytes : List ℕ) (pos : ℕ) → is_whole_text (with_message f bytes pos) ≡ false
never_whole str_none bytes pos = refl
never_whole (str_node before kind children) bytes pos = badly (is_whole_text before) (not (kind == ERROR))
never_whole (str_leaf before kind text) bytes pos = refl
never_whole (str_message before m p) bytes pos = refl

-- What is found of a forest where it stands right.
pub record Shows (start : StrForest) (c : Forest) (placed_so : StrForest) : Type 0 where
  pub same : text_children placed_so ≡ text_children start ++ shown c
  pub whole : IsWhole (children_of c)

-- a node with what stands behind it of a float
float_behind : (ts : List Token) (at : ℕ) (c : Forest) (start f : StrForest) (kind : ℕ) →
    is_whole_text (after_node ts at c (str_node f kind (placed ts at start c))) ≡ true →
    (is_whole_text (str_node f kind (placed ts at start c)) ≡ true) ×
    (text_children (after_node ts at c (str_node f kind (placed ts at start c))) ≡
    text_children f ++ (node_child kind ∷ behind c))
float_behind ts at none start f kind w = (w, refl)
float_behind ts at (node before k c) start f kind w = (w, refl)
float_behind ts at (leaf before k width) start f kind w = (w, refl)
float_behind ts at (message before bytes) start f kind w = (w, refl)
float_behind ts at (split before true) start f kind w =
    (w, append_assoc (text_children f) (node_child kind ∷ []) (leaf_child DOT ∷ []))
float_behind ts at (split before false) start f kind w =
    let text = float_text ts at before in
    let inside = with_leaves (placed ts at start before) (trivia_at ts (end_of ts at before)) in
    let pos = start_of ts (past_trivia ts (end_of ts at before)) in
    by_dot f kind (has_dot text) (with_number inside (before_first is_dot text))
    (str_node (str_message inside illegal pos) ERROR (str_leaf str_none FLOAT_NUMBER text)) (after_first is_dot text)
    refl w
  where
    by_dot : (f : StrForest) (kind : ℕ) (b : Bool) (x y : StrForest) (number : List ℕ) → ends_badly y ≡ true →
        is_whole_text
        (if b then with_number (str_leaf (str_node f kind (if b then x else y)) DOT (codes ".")) number
        else str_node f kind (if b then x else y)) ≡ true →
        (is_whole_text (str_node f kind (if b then x else y)) ≡ true) ×
        (text_children
        (if b then with_number (str_leaf (str_node f kind (if b then x else y)) DOT (codes ".")) number
        else str_node f kind (if b then x else y)) ≡
        text_children f ++ (node_child kind ∷ leaf_child DOT ∷ node_child NAME_REF ∷ []))
    by_dot f kind true x y number e w = (
      and_left (is_whole_text (str_node f kind x)) _ w,
      append_assoc (text_children f ++ node_child kind ∷ []) (leaf_child DOT ∷ []) (node_child NAME_REF ∷ []) ∙
          append_assoc (text_children f) (node_child kind ∷ []) (leaf_child DOT ∷ node_child NAME_REF ∷ []),
    )
    by_dot f kind false x y number e w =
        absurd
        (let z : true ≡ false =
        sym w ∙ (ap (λ b. is_whole_text f && (not (kind == ERROR) && not b)) e ∙ badly (is_whole_text f) (not (kind == ERROR))) in cc)

module _ (ts : List Token) where
  -- What stands there is what the output has, as it is shown.
  pub level : (c : Forest) → ArePlain c → (at : ℕ) (start : StrForest) → is_whole_text (placed ts at start c) ≡ true →
      Shows start c (placed ts at start c)
  level none h at start w = record { same = sym (append-nil (text_children start)); whole = refl }
  level (node before kind children) h at start w =
      let us = trivia_at ts (end_of ts at before) in
      let q = past_trivia ts (end_of ts at before) in
      let f = with_leaves (placed ts at start before) (before_tail kind us) in
      let s = with_leaves str_none (attached_tail kind us) in
      let x = float_behind ts q children s f kind w in
      let front = and_left (is_whole_text f) _ x.0 in
      let r = level before h.0 at start (sym (whole_leaves (placed ts at start before) (before_tail kind us)) ∙ front) in
      record {
        same =
            x.1 ∙
            (ap (λ cs. cs ++ (node_child kind ∷ behind children))
            (trivia_none (placed ts at start before) (before_tail kind us) (past_tail kind us (here ts (end_of ts at before))) ∙
            r.same) ∙ append_assoc (text_children start) (shown before) (node_child kind ∷ behind children));
        whole =
            both_whole (children_of before) (node_child kind ∷ []) r.whole
            (subst (λ (b : Bool). (b && true) ≡ true)
            (sym (and_left (not (kind == ERROR)) _ (and_right (is_whole_text f) _ x.0))) refl);
      }
  level (leaf before kind width) h at start w =
      let us = trivia_at ts (end_of ts at before) in
      let r = level before h.0 at start (sym (whole_leaves (placed ts at start before) us) ∙ w) in
      record {
        same =
            leaf_one (text_children (with_leaves (placed ts at start before) us)) (is_trivia kind) kind h.1 ∙
            (ap (λ cs. cs ++ leaf_child kind ∷ [])
            (trivia_none (placed ts at start before) us (here ts (end_of ts at before)) ∙ r.same) ∙
            append_assoc (text_children start) (shown before) (leaf_child kind ∷ []));
        whole = both_whole (children_of before) (leaf_child kind ∷ []) r.whole refl;
      }
  level (message before bytes) h at start w =
      absurd (let z : true ≡ false = sym w ∙ never_whole (placed ts at start before) bytes (start_of ts (end_of ts at before)) in cc)
  level (split before true) h at start w =
      let us = trivia_at ts (end_of ts at before) in
      let f = with_leaves (placed ts at start before) us in
      let r = level before h at start (sym (whole_leaves (placed ts at start before) us) ∙ and_left (is_whole_text f) _ w) in
      record {
        same =
            ap (λ cs. cs ++ node_child NAME_REF ∷ [])
            (trivia_none (placed ts at start before) us (here ts (end_of ts at before)) ∙ r.same) ∙
            append_assoc (text_children start) (shown before) (node_child NAME_REF ∷ []);
        whole = both_whole (children_of before) (float_child ∷ []) r.whole refl;
      }
  level (split before false) h at start w =
      let us = trivia_at ts (end_of ts at before) in
      let f = with_leaves (placed ts at start before) us in
      let text = float_text ts at before in
      let pos = start_of ts (past_trivia ts (end_of ts at before)) in
      let x = by_text (has_dot text) f (before_first is_dot text) pos text w in
      let r = level before h at start (sym (whole_leaves (placed ts at start before) us) ∙ x.0) in
      record {
        same =
            x.1 ∙
            (ap (λ cs. cs ++ node_child NAME_REF ∷ [])
            (trivia_none (placed ts at start before) us (here ts (end_of ts at before)) ∙ r.same) ∙
            append_assoc (text_children start) (shown before) (node_child NAME_REF ∷ []));
        whole = both_whole (children_of before) (float_child ∷ []) r.whole refl;
      }
    where
      by_text : (b : Bool) (f : StrForest) (number : List ℕ) (pos : ℕ) (text : List ℕ) →
          is_whole_text
          (if b then with_number f number
          else str_node (str_message f illegal pos) ERROR (str_leaf str_none FLOAT_NUMBER text)) ≡ true →
          (is_whole_text f ≡ true) ×
          (text_children
          (if b then with_number f number
          else str_node (str_message f illegal pos) ERROR (str_leaf str_none FLOAT_NUMBER text)) ≡
          text_children f ++ node_child NAME_REF ∷ [])
      by_text true f number pos text w = (and_left (is_whole_text f) _ w, refl)
      by_text false f number pos text w = absurd (let z : false ≡ true = w in cc)
