-- What follows where a forest covers the records of a text.
use Rattle.std.proofs.Common.{◌≡◌, refl, sym, ◌∙◌, ap, subst, List, [], ◌∷◌, ◌++◌, ℕ, Bool, inl, inr, ◌+◌, ◌<◌, ◌≤◌, true, false, append_assoc, append-nil, length, take, drop, zero, suc, zero-add, arith}
use Rattle.std.specs.List.{prefix_len}
use Rattle.std.proofs.lemmas.Bool.{and_parts, cases_Bool, cond-true, cond-false}
use Rattle.std.proofs.lemmas.List.{drop-drop, drop_all, length-drop, take_all}
use Rattle.std.proofs.lemmas.List.Sums.{prefix_len-le-length}
use Rattle.rap_base.specs.declared.edition.Edition.{Edition}
use Rattle.rap_events.specs.StepValue.{StepValue, enter, exit, token, float_split, error}
use Rattle.rap_events.specs.Forest.{Forest, none, node, leaf, message, split, flat, exit_of, used, one_tree}
use Rattle.rap_events.specs.Cover.{Leaf, of_tokens, of_float, leaves, stands, stand, covers}
use Rattle.rap_lexed.specs.declared.shortcuts.builder.State.{State}
use Rattle.rap_lexed.specs.declared.shortcuts.builder.State.TheVariants.{PendingEnter, Normal, PendingExit}
use Rattle.rap_lexed.specs.LexedStr.{Token, start_of}
use Rattle.rap_lexed.specs.StrForest.{StrForest, str_none, str_node, with_leaves}
use Rattle.rap_lexed.specs.Input.{ends_with_dot, records}
use Rattle.rap_lexed.specs.Builder.{after_float}
use Rattle.rap_lexed.specs.Attached.{attached_tail, before_tail}
use Rattle.rap_lexed.specs.Trivia.{is_trivial, is_significant, front_of, significant, trivia_at, past_trivia, text_of, end_of, placed, LeavesTouch, TreeTouches}
use Rattle.rap_lexed.proofs.Joined.{tree_end, after_node-plain}
use Rattle.rap_events.proofs.Trees.{Tree, nothing, a_node, a_leaf, a_message, dotted, apart}
use Rattle.rap_lexed.proofs.Emitted.{Fits, state_of, place-enter, state_of-with_message, flat-node, flat-dotted, flat-half, flat-apart}
use Rattle.rap_lexed.proofs.Records.{records-past, significant-past, IsPast, past-is-past, records-drop, significant-drop, leaf-touches, float-touches, prefix-yes, prefix-no, significant-trivial, significant-more}

-- the place after the trivia is within the text
pub past_trivia-within : (ts : List Token) (at : ℕ) → at ≤ length ts → past_trivia ts at ≤ length ts
past_trivia-within ts at h = omega (arith, prefix_len-le-length is_trivial (drop at ts), length-drop at ts)

records-from-past : (ts : List Token) (at : ℕ) (edition : Edition) → records (drop (past_trivia ts at) ts) edition ≡ records (drop at ts) edition
records-from-past ts at edition =
    ap (λ l. records l edition) (sym (drop-drop (prefix_len is_trivial (drop at ts)) at ts)) ∙ records-past (drop at ts) edition

significant-from-past : (ts : List Token) (at : ℕ) → significant (drop (past_trivia ts at) ts) ≡ significant (drop at ts)
significant-from-past ts at =
    ap significant (sym (drop-drop (prefix_len is_trivial (drop at ts)) at ts)) ∙ significant-past (drop at ts)

past-from-past : (ts : List Token) (at : ℕ) → IsPast (drop (past_trivia ts at) ts)
past-from-past ts at = subst (λ (l : List Token). IsPast l) (drop-drop (prefix_len is_trivial (drop at ts)) at ts) (past-is-past (drop at ts))

-- what holds where a forest stands at a place: what its leaves are, and what it leaves to the leaves after it
pub record Standing (ts : List Token) (edition : Edition) (at : ℕ) (f : Forest) (ls : List Leaf) : Type 0 where
  pub touch : LeavesTouch ts at f
  pub within : at ≤ length ts → end_of ts at f ≤ length ts
  pub count : significant (drop (end_of ts at f) ts) + used f ≡ significant (drop at ts)
  pub rest : stand ls (records (drop (end_of ts at f) ts) edition) ≡ true

-- one leaf
leaf-stands : (ts : List Token) (edition : Edition) (at kind width : ℕ) (ls : List Leaf) → stand (of_tokens kind width ∷ ls) (records (drop at ts) edition) ≡ true → (0 < width) × (width ≤ prefix_len is_significant (drop (past_trivia ts at) ts)) × (stand ls (records (drop (past_trivia ts at + width) ts) edition) ≡ true)
leaf-stands ts edition at kind width ls h =
    let p : ℕ = past_trivia ts at in
    let same : records (drop p ts) edition ≡ records (drop at ts) edition = records-from-past ts at edition in
    let both = and_parts (stands (of_tokens kind width) (records (drop at ts) edition)) (stand ls (drop width (records (drop at ts) edition))) h in
    let touches = leaf-touches kind width (drop p ts) edition (past-from-past ts at) (ap (stands (of_tokens kind width)) same ∙ both.0) in (
      touches.0,
      touches.1,
      ap (λ l. stand ls (records l edition)) (sym (drop-drop width p ts))
          ∙ ap (stand ls) (records-drop width (drop p ts) edition touches.1 ∙ ap (drop width) same)
          ∙ both.1,
    )

-- one float
float-stands : (ts : List Token) (edition : Edition) (at : ℕ) (d : Bool) (ls : List Leaf) → stand (of_float d ∷ ls) (records (drop at ts) edition) ≡ true →
    (1 ≤ prefix_len is_significant (drop (past_trivia ts at) ts)) × (ends_with_dot (text_of ts (past_trivia ts at) 1) ≡ d) × (stand ls (records (drop (past_trivia ts at + 1) ts) edition) ≡ true)
float-stands ts edition at d ls h =
    let p : ℕ = past_trivia ts at in
    let same : records (drop p ts) edition ≡ records (drop at ts) edition = records-from-past ts at edition in
    let both = and_parts (stands (of_float d) (records (drop at ts) edition)) (stand ls (drop 1 (records (drop at ts) edition))) h in
    let touches = float-touches d (drop p ts) edition (past-from-past ts at) (ap (stands (of_float d)) same ∙ both.0) in (
      touches.0,
      touches.1,
      ap (λ l. stand ls (records l edition)) (sym (drop-drop 1 p ts))
          ∙ ap (stand ls) (records-drop 1 (drop p ts) edition touches.0 ∙ ap (drop 1) same)
          ∙ both.1,
    )

pub stands-at : (ts : List Token) (edition : Edition) (at : ℕ) (f : Forest) (ls : List Leaf) → stand (leaves f ++ ls) (records (drop at ts) edition) ≡ true → Standing ts edition at f ls
stands-at ts edition at none ls h = record { touch = tt; within = λ x. x; count = omega arith; rest = h }
stands-at ts edition at (node before kind children) ls h =
    let e : ℕ = end_of ts at before in
    let b : Standing ts edition at before (leaves children ++ ls) =
    stands-at ts edition at before (leaves children ++ ls) (ap (λ l. stand l (records (drop at ts) edition)) (sym (append_assoc (leaves before) (leaves children) ls)) ∙ h) in
    let c : Standing ts edition (past_trivia ts e) children ls =
    stands-at ts edition (past_trivia ts e) children ls (ap (stand (leaves children ++ ls)) (records-from-past ts e edition) ∙ b.rest) in
    record {
      touch = (b.touch, c.touch);
      within = λ i. c.within (past_trivia-within ts e (b.within i));
      count = omega (arith, b.count, c.count, significant-from-past ts e);
      rest = c.rest;
    }
stands-at ts edition at (leaf before kind width) ls h =
    let e : ℕ = end_of ts at before in
    let p : ℕ = past_trivia ts e in
    let l : Leaf = of_tokens kind width in
    let b : Standing ts edition at before (l ∷ ls) =
    stands-at ts edition at before (l ∷ ls) (ap (λ m. stand m (records (drop at ts) edition)) (sym (append_assoc (leaves before) (l ∷ []) ls)) ∙ h) in
    let k = leaf-stands ts edition e kind width ls b.rest in
    record {
      touch = (b.touch, k.1);
      within = λ i. let q : p ≤ length ts = past_trivia-within ts e (b.within i) in omega (arith, k.1, prefix_len-le-length is_significant (drop p ts), length-drop p ts);
      count = omega (arith, b.count, significant-drop width (drop p ts) k.1, ap significant (drop-drop width p ts), significant-from-past ts e);
      rest = k.2;
    }
stands-at ts edition at (message before bytes) ls h =
    let b : Standing ts edition at before ls = stands-at ts edition at before ls h in
    record { touch = b.touch; within = b.within; count = b.count; rest = b.rest }
stands-at ts edition at (split before d) ls h =
    let e : ℕ = end_of ts at before in
    let p : ℕ = past_trivia ts e in
    let l : Leaf = of_float d in
    let b : Standing ts edition at before (l ∷ ls) =
    stands-at ts edition at before (l ∷ ls) (ap (λ m. stand m (records (drop at ts) edition)) (sym (append_assoc (leaves before) (l ∷ []) ls)) ∙ h) in
    let k = float-stands ts edition e d ls b.rest in
    record {
      touch = (b.touch, k.0, k.1);
      within = λ i. let q : p ≤ length ts = past_trivia-within ts e (b.within i) in omega (arith, k.0, prefix_len-le-length is_significant (drop p ts), length-drop p ts);
      count = omega (arith, b.count, significant-drop 1 (drop p ts) k.0, ap significant (drop-drop 1 p ts), significant-from-past ts e);
      rest = k.2;
    }

module _ (ts : List Token) (edition : Edition) where
  -- what stands before the last thing of a forest, and where that begins
  record Inside (at : ℕ) (b : Forest) (ms : List Leaf) : Type 0 where
    before : stand (leaves b ++ ms) (records (drop at ts) edition) ≡ true
    place : at ≤ length ts → past_trivia ts (end_of ts at b) ≤ length ts
    rest : stand ms (records (drop (end_of ts at b) ts) edition) ≡ true
    inner : stand ms (records (drop (past_trivia ts (end_of ts at b)) ts) edition) ≡ true

  inside-of : (at : ℕ) (b : Forest) (ms ls : List Leaf) → stand ((leaves b ++ ms) ++ ls) (records (drop at ts) edition) ≡ true → Inside at b (ms ++ ls)
  inside-of at b ms ls h =
      let e : ℕ = end_of ts at b in
      let first : stand (leaves b ++ (ms ++ ls)) (records (drop at ts) edition) ≡ true = ap (λ l. stand l (records (drop at ts) edition)) (sym (append_assoc (leaves b) ms ls)) ∙ h in
      let s : Standing ts edition at b (ms ++ ls) = stands-at ts edition at b (ms ++ ls) first in
      record {
        before = first;
        place = λ i. past_trivia-within ts e (s.within i);
        rest = s.rest;
        inner = ap (stand (ms ++ ls)) (records-from-past ts e edition) ∙ s.rest;
      }

  -- a node begins
  begins : (at : ℕ) (start : StrForest) (b : Forest) (kind : ℕ) (xs : List StepValue) → Fits ts Normal (past_trivia ts (end_of ts at b)) xs → Fits ts (state_of (placed ts at start b)) (end_of ts at b) (enter kind ∷ xs)
  begins at start b kind xs h = (tt, subst (λ (p : ℕ). Fits ts Normal p xs) (sym (place-enter ts (placed ts at start b) (end_of ts at b) kind)) h)

  -- a float is handed out
  splits : (at : ℕ) (start : StrForest) (y : Forest) (d : Bool) (ls : List Leaf) (xs : List StepValue) → at ≤ length ts → Inside at y (of_float d ∷ ls) → Fits ts (after_float d) (past_trivia ts (end_of ts at y) + 1) xs →
      Fits ts (state_of (placed ts at start y)) (end_of ts at y) (float_split d ∷ xs)
  splits at start y d ls xs i h k =
      let p : ℕ = past_trivia ts (end_of ts at y) in
      let f = float-stands ts edition (end_of ts at y) d ls h.rest in
      let within : p ≤ length ts = h.place i in
      ((omega (arith, f.0, prefix_len-le-length is_significant (drop p ts), length-drop p ts), f.1), k)

  -- every step of a forest that stands at a place can be handed out
  fits-flat : (at : ℕ) (start : StrForest) (f : Forest) (ls : List Leaf) (xs : List StepValue) → Tree f → at ≤ length ts → stand (leaves f ++ ls) (records (drop at ts) edition) ≡ true →
      Fits ts (state_of (placed ts at start f)) (end_of ts at f) xs → Fits ts (state_of start) at (flat f ++ xs)
  fits-flat at start none ls xs nothing i h k = k
  fits-flat at start (split b d) ls xs t i h k = elim t [ ]
  fits-flat at start (node b kind x) ls xs (a_node t u z) i h k =
      let inside : ℕ = past_trivia ts (end_of ts at b) in
      let s : Inside at b (leaves x ++ ls) = inside-of at b (leaves x) ls h in
      let trivia : List Token = trivia_at ts (end_of ts at b) in
      let same = after_node-plain ts inside x (str_node (with_leaves (placed ts at start b) (before_tail kind trivia)) kind (placed ts inside (with_leaves str_none (attached_tail kind trivia)) x)) z in
      let last : Fits ts PendingExit (end_of ts inside x) xs = subst (λ (w : StrForest). Fits ts (state_of w) (end_of ts inside x) xs) same k in
      subst (λ (l : List StepValue). Fits ts (state_of start) at l) (sym (flat-node b kind x xs z))
      (fits-flat at start b (leaves x ++ ls) (enter kind ∷ (flat x ++ (exit ∷ xs))) t i s.before
      (begins at start b kind (flat x ++ (exit ∷ xs)) (fits-flat inside str_none x ls (exit ∷ xs) u (s.place i) s.inner (tt, last))))
  fits-flat at start (node b kind (split y true)) ls xs (dotted t u) i h k =
      let inside : ℕ = past_trivia ts (end_of ts at b) in
      let s : Inside at b (leaves (split y true) ++ ls) = inside-of at b (leaves (split y true)) ls h in
      let v : Inside inside y (of_float true ∷ ls) = inside-of inside y (of_float true ∷ []) ls s.inner in
      subst (λ (l : List StepValue). Fits ts (state_of start) at l) (sym (flat-dotted b kind y xs))
      (fits-flat at start b (leaves (split y true) ++ ls) (enter kind ∷ (flat y ++ (float_split true ∷ xs))) t i s.before
      (begins at start b kind (flat y ++ (float_split true ∷ xs)) (fits-flat inside str_none y (of_float true ∷ ls) (float_split true ∷ xs) u (s.place i) v.before (splits inside str_none y true ls xs (s.place i) v k))))
  fits-flat at start (node b kind (node c j (split y false))) ls xs (apart t u w) i h k =
      let x : Forest = node c j (split y false) in
      let inside : ℕ = past_trivia ts (end_of ts at b) in
      let s : Inside at b (leaves x ++ ls) = inside-of at b (leaves x) ls h in
      let inside2 : ℕ = past_trivia ts (end_of ts inside c) in
      let s2 : Inside inside c (leaves (split y false) ++ ls) = inside-of inside c (leaves (split y false)) ls s.inner in
      let v : Inside inside2 y (of_float false ∷ ls) = inside-of inside2 y (of_float false ∷ []) ls s2.inner in
      let last : List StepValue = flat y ++ (float_split false ∷ xs) in
      let fits : Fits ts Normal inside2 last = fits-flat inside2 str_none y (of_float false ∷ ls) (float_split false ∷ xs) w (s2.place (s.place i)) v.before (splits inside2 str_none y false ls xs (s2.place (s.place i)) v k) in
      subst (λ (l : List StepValue). Fits ts (state_of start) at l) (sym (flat-apart b kind c j y xs))
      (fits-flat at start b (leaves x ++ ls) (enter kind ∷ (flat c ++ (enter j ∷ last))) t i s.before
      (begins at start b kind (flat c ++ (enter j ∷ last)) (fits-flat inside str_none c (leaves (split y false) ++ ls) (enter j ∷ last) u (s.place i) s2.before (begins inside str_none c j last fits))))
  fits-flat at start (leaf b kind width) ls xs (a_leaf t) i h k =
      let s : Inside at b (of_tokens kind width ∷ ls) = inside-of at b (of_tokens kind width ∷ []) ls h in
      let p : ℕ = past_trivia ts (end_of ts at b) in
      let m = leaf-stands ts edition (end_of ts at b) kind width ls s.rest in
      let within : p ≤ length ts = s.place i in
      let room : p + width ≤ length ts = omega (arith, m.1, prefix_len-le-length is_significant (drop p ts), length-drop p ts) in
      subst (λ (l : List StepValue). Fits ts (state_of start) at l) (sym (append_assoc (flat b) (token kind width ∷ []) xs))
      (fits-flat at start b (of_tokens kind width ∷ ls) (token kind width ∷ xs) t i s.before ((m.0, room), k))
  fits-flat at start (message b bytes) ls xs (a_message t) i h k =
      let e : ℕ = end_of ts at b in
      let g : StrForest = placed ts at start b in
      subst (λ (l : List StepValue). Fits ts (state_of start) at l) (sym (append_assoc (flat b) (error bytes ∷ []) xs))
      (fits-flat at start b ls (error bytes ∷ xs) t i h (tt, subst (λ (s : State). Fits ts s e xs) (state_of-with_message g bytes (start_of ts e)) k))

covers-children : (ts : List Token) (edition : Edition) (kind : ℕ) (children : Forest) → covers (records ts edition) (node none kind children) ≡ true → stand (leaves children ++ []) (records ts edition) ≡ true
covers-children ts edition kind children h = ap (λ l. stand l (records ts edition)) (append-nil (leaves children)) ∙ h

-- every step of a tree that covers a prefix of the records can be handed out
pub fits-tree : (ts : List Token) (edition : Edition) (f : Forest) → one_tree f ≡ true → Tree f → covers (records ts edition) f ≡ true → Fits ts PendingEnter 0 (flat f)
fits-tree ts edition (node none kind x) h (a_node t u z) c =
    (tt, subst (λ (n : ℕ). Fits ts Normal 0 (flat x ++ exit_of n)) (sym z) (fits-flat ts edition 0 str_none x [] (exit ∷ []) u (omega arith) (covers-children ts edition kind x c) (tt, tt)))
fits-tree ts edition (node none kind (split y true)) h (dotted t u) c = absurd cc
fits-tree ts edition (node none kind (node d j (split y false))) h (apart t u w) c =
    let s2 : Inside ts edition 0 d (leaves (split y false) ++ []) = inside-of ts edition 0 d (leaves (split y false)) [] (covers-children ts edition kind (node d j (split y false)) c) in
    let inside2 : ℕ = past_trivia ts (end_of ts 0 d) in
    let v : Inside ts edition inside2 y (of_float false ∷ []) = inside-of ts edition inside2 y (of_float false ∷ []) [] s2.inner in
    let place : inside2 ≤ length ts = s2.place (omega arith) in
    let fits : Fits ts Normal inside2 (flat y ++ (float_split false ∷ [])) =
    fits-flat ts edition inside2 str_none y (of_float false ∷ []) (float_split false ∷ []) w place v.before (splits ts edition inside2 str_none y false [] [] place v tt) in (
      tt,
      subst (λ (l : List StepValue). Fits ts Normal 0 l) (sym (flat-half d j y []))
          (fits-flat ts edition 0 str_none d (leaves (split y false) ++ []) (enter j ∷ (flat y ++ (float_split false ∷ []))) u (omega arith) s2.before (begins ts edition 0 str_none d j (flat y ++ (float_split false ∷ [])) fits)),
    )
fits-tree ts edition (node (node f k x) kind children) h t c = cc h
fits-tree ts edition (node (leaf f k w) kind children) h t c = cc h
fits-tree ts edition (node (message f m) kind children) h t c = cc h
fits-tree ts edition (node (split f d) kind children) h t c = cc h
fits-tree ts edition none h t c = cc h
fits-tree ts edition (leaf before kind width) h t c = cc h
fits-tree ts edition (message before bytes) h t c = cc h
fits-tree ts edition (split before d) h t c = elim t [ ]

all-trivia : (ts : List Token) → significant ts ≡ 0 → prefix_len is_trivial ts ≡ length ts
all-trivia [] h = refl
all-trivia (t ∷ ts) h = elim (cases_Bool (is_trivial t)) [
  | inl e ↦ omega (arith, prefix-yes is_trivial t ts e, all-trivia ts (sym (significant-trivial t ts e) ∙ h))
  | inr e ↦ absurd (omega (arith, significant-more t ts e))
]

trivia-alone : (ts : List Token) → take (prefix_len is_trivial ts) ts ≡ front_of 0 ts
trivia-alone [] = refl
trivia-alone (t ∷ ts) = elim (cases_Bool (is_trivial t)) [
  | inl h ↦
      ap (λ n. take n (t ∷ ts)) (prefix-yes is_trivial t ts h)
      ∙ ap (λ l. t ∷ l) (trivia-alone ts)
      ∙ sym (cond-true (is_trivial t) (t ∷ front_of 0 ts) [] h)
  | inr h ↦
      ap (λ n. take n (t ∷ ts)) (prefix-no is_trivial t ts h)
      ∙ sym (cond-false (is_trivial t) (t ∷ front_of 0 ts) [] h)
]

front-trivial : (n : ℕ) (t : Token) (ts : List Token) → is_trivial t ≡ true → front_of n (t ∷ ts) ≡ t ∷ front_of n ts
front-trivial zero t ts h = cond-true (is_trivial t) (t ∷ front_of 0 ts) [] h
front-trivial (suc n) t ts h = ap (λ l. t ∷ l) (cond-true (is_trivial t) (front_of (suc n) ts) (front_of n ts) h)

front-more : (n : ℕ) (t : Token) (ts : List Token) → is_trivial t ≡ false → front_of (suc n) (t ∷ ts) ≡ t ∷ front_of n ts
front-more n t ts h = ap (λ l. t ∷ l) (cond-false (is_trivial t) (front_of (suc n) ts) (front_of n ts) h)

significant-later : (e : ℕ) (ts : List Token) → significant (drop e ts) ≤ significant ts
significant-later zero ts = omega arith
significant-later (suc e) [] = omega arith
significant-later (suc e) (t ∷ ts) = elim (cases_Bool (is_trivial t)) [
  | inl h ↦ omega (arith, significant-later e ts, significant-trivial t ts h)
  | inr h ↦ omega (arith, significant-later e ts, significant-more t ts h)
]

front-past : (e n : ℕ) (t : Token) (ts : List Token) → is_trivial t ≡ false → significant (drop e ts) + n ≡ significant (t ∷ ts)
    → ((m : ℕ) → significant (drop e ts) + m ≡ significant ts → take (past_trivia ts e) ts ≡ front_of m ts)
    → t ∷ take (past_trivia ts e) ts ≡ front_of n (t ∷ ts)
front-past e zero t ts g h rest = absurd (omega (arith, h, significant-more t ts g, significant-later e ts))
front-past e (suc n) t ts g h rest =
    ap (λ l. t ∷ l) (rest n (omega (arith, h, significant-more t ts g))) ∙ sym (front-more n t ts g)

-- the tokens up to a place, by how many of them are no trivia
front-to : (e n : ℕ) (ts : List Token) → significant (drop e ts) + n ≡ significant ts → take (past_trivia ts e) ts ≡ front_of n ts
front-to e zero [] h = take_all (past_trivia [] e) [] (omega arith)
front-to e (suc n) [] h = take_all (past_trivia [] e) [] (omega arith)
front-to zero n (t ∷ ts) h =
    let none : n ≡ 0 = omega (arith, h) in
    ap (λ k. take k (t ∷ ts)) (zero-add (prefix_len is_trivial (t ∷ ts)))
    ∙ trivia-alone (t ∷ ts)
    ∙ ap (λ k. front_of k (t ∷ ts)) (sym none)
front-to (suc e) n (t ∷ ts) h =
    let next : past_trivia (t ∷ ts) (suc e) ≡ suc (past_trivia ts e) = omega arith in
    ap (λ k. take k (t ∷ ts)) next
    ∙ elim (cases_Bool (is_trivial t)) as (λ _. t ∷ take (past_trivia ts e) ts ≡ front_of n (t ∷ ts)) [
      | inl g ↦
          ap (λ l. t ∷ l) (front-to e n ts (omega (arith, h, significant-trivial t ts g)))
          ∙ sym (front-trivial n t ts g)
      | inr g ↦ front-past e n t ts g h (λ m k. front-to e m ts k)
    ]

-- such a tree ends at the text's end exactly if its leaves stand for all tokens but trivia
pub record Answers (ts : List Token) (f : Forest) : Type 0 where
  pub touch : TreeTouches ts f
  pub front : take (tree_end ts f) ts ≡ front_of (used f) ts
  pub within : tree_end ts f ≤ length ts
  pub all_used : tree_end ts f ≡ length ts → used f ≡ significant ts
  pub at_end : used f ≡ significant ts → tree_end ts f ≡ length ts

pub answers-tree : (ts : List Token) (edition : Edition) (f : Forest) → one_tree f ≡ true → covers (records ts edition) f ≡ true → Answers ts f
answers-tree ts edition none h c = cc h
answers-tree ts edition (node none kind children) h c =
    let s : Standing ts edition 0 children [] = stands-at ts edition 0 children [] (covers-children ts edition kind children c) in
    let e : ℕ = end_of ts 0 children in
    record {
      touch = s.touch;
      front = front-to e (used children) ts (omega (arith, s.count)) ∙ ap (λ n. front_of n ts) (sym (zero-add (used children)));
      within = past_trivia-within ts e (s.within (omega arith));
      all_used = λ k. omega (arith, s.count, significant-from-past ts e, ap significant (drop_all (past_trivia ts e) ts (omega arith)));
      at_end = λ k. omega (arith, s.within (omega arith), all-trivia (drop e ts) (omega (arith, s.count)), length-drop e ts);
    }
answers-tree ts edition (node (node f k x) kind children) h c = cc h
answers-tree ts edition (node (leaf f k w) kind children) h c = cc h
answers-tree ts edition (node (message f m) kind children) h c = cc h
answers-tree ts edition (node (split f d) kind children) h c = cc h
answers-tree ts edition (leaf before kind width) h c = cc h
answers-tree ts edition (message before bytes) h c = cc h
answers-tree ts edition (split before d) h c = cc h
