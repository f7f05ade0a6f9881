-- The texts of the leaves of the tree over a text, joined.
use Rattle.std.specs.Prelude.{codes, if◌then◌else◌, slice_index}
use Rattle.std.specs.List.{prefix_len, position_or_len, before_first, after_first}
use Rattle.std.specs.Str.{byte}
use Rattle.std.proofs.Common.{◌≡◌, refl, sym, ◌∙◌, ap, List, [], ◌∷◌, ◌++◌, ℕ, ◌+◌, ◌-◌, ◌<◌, Bool, true, false, append_assoc, append-nil, take, drop, length, get_or, arith}
use Rattle.std.proofs.Math.Seq.{take-add}
use Rattle.std.proofs.lemmas.Bool.{eqb-true, ltb-true}
use Rattle.std.proofs.lemmas.List.{take-append-drop, take_all, take_more}
use Rattle.std.proofs.lemmas.List.Sums.{split_at_first, passes_at_first}
use Rattle.rap_base.specs.TokenKind.{DOT, ERROR, FLOAT_NUMBER}
use Rattle.rap_events.specs.Forest.{Forest, none, node, leaf, message, split, split_ends, one_tree}
use Rattle.rap_events.proofs.Trees.{Tree, nothing, a_node, a_leaf, a_message, dotted, apart}
use Rattle.rap_lexed.specs.FloatParts.{is_dot, has_dot, without_dot, illegal, with_number}
use Rattle.rap_lexed.specs.Input.{ends_with_dot}
use Rattle.rap_lexed.specs.LexedStr.{Token, joined, start_of}
use Rattle.rap_lexed.specs.StrForest.{StrForest, str_none, str_node, str_leaf, str_message, str_joined, str_one_tree, with_leaves, with_message}
use Rattle.rap_lexed.proofs.Tokens.{joined-append}
use Rattle.rap_lexed.specs.Attached.{attached_tail, before_tail}
use Rattle.rap_lexed.specs.Trivia.{is_trivial, trivia_at, past_trivia, text_of, end_of, float_text, after_node, placed, with_trivia, LeavesTouch, TreeTouches}

-- one prefix of the tokens, and the tokens after it
pub joined-more : (ts : List Token) (at n : ℕ) → joined (take at ts) ++ joined (take n (drop at ts)) ≡ joined (take (at + n) ts)
joined-more ts at n = sym (joined-append (take at ts) (take n (drop at ts))) ∙ ap joined (sym (take-add at n ts))

str_joined-with_leaves : (ts : List Token) (g : StrForest) → str_joined (with_leaves g ts) ≡ str_joined g ++ joined ts
str_joined-with_leaves [] g = sym (append-nil (str_joined g))
str_joined-with_leaves (t ∷ ts) g = str_joined-with_leaves ts (str_leaf g t.kind t.text) ∙ append_assoc (str_joined g) t.text (joined ts)

str_joined-with_message : (g : StrForest) (bytes : List ℕ) (pos : ℕ) → str_joined (with_message g bytes pos) ≡ str_joined g
str_joined-with_message str_none bytes pos = refl
str_joined-with_message (str_node before kind children) bytes pos = refl
str_joined-with_message (str_leaf before kind text) bytes pos = refl
str_joined-with_message (str_message before m p) bytes pos = refl

-- a forest with the trivia after it
joined-trivia : (ts : List Token) (pre : List ℕ) (e : ℕ) (g : StrForest) → pre ++ str_joined g ≡ joined (take e ts) → pre ++ str_joined (with_leaves g (trivia_at ts e)) ≡ joined (take (past_trivia ts e) ts)
joined-trivia ts pre e g h =
    ap (λ l. pre ++ l) (str_joined-with_leaves (trivia_at ts e) g)
    ∙ sym (append_assoc pre (str_joined g) (joined (trivia_at ts e)))
    ∙ ap (λ l. l ++ joined (trivia_at ts e)) h
    ∙ joined-more ts e (prefix_len is_trivial (drop e ts))

-- a forest with the trivia around the beginning of a node after it
joined-around : (ts : List Token) (pre : List ℕ) (e k : ℕ) (g : StrForest) → pre ++ str_joined g ≡ joined (take e ts) →
    (pre ++ str_joined (with_leaves g (before_tail k (trivia_at ts e)))) ++ str_joined (with_leaves str_none (attached_tail k (trivia_at ts e))) ≡ joined (take (past_trivia ts e) ts)
joined-around ts pre e k g h =
    let b : List Token = before_tail k (trivia_at ts e) in
    let a : List Token = attached_tail k (trivia_at ts e) in
    let both : b ++ a ≡ trivia_at ts e = take-append-drop _ (trivia_at ts e) in
    ap (λ l. (pre ++ str_joined (with_leaves g b)) ++ l) (str_joined-with_leaves a str_none)
    ∙ ap (λ l. (pre ++ l) ++ joined a) (str_joined-with_leaves b g)
    ∙ append_assoc pre (str_joined g ++ joined b) (joined a)
    ∙ ap (λ l. pre ++ l) (append_assoc (str_joined g) (joined b) (joined a) ∙ ap (λ l. str_joined g ++ l) (sym (joined-append b a) ∙ ap joined both) ∙ sym (str_joined-with_leaves (trivia_at ts e) g))
    ∙ joined-trivia ts pre e g h

-- nothing stands after a node over children without a float at their end
pub after_node-plain : (ts : List Token) (at : ℕ) (x : Forest) (f : StrForest) → split_ends x ≡ 0 → after_node ts at x f ≡ f
after_node-plain ts at none f h = refl
after_node-plain ts at (node b k y) f h = refl
after_node-plain ts at (leaf b k w) f h = refl
after_node-plain ts at (message b m) f h = refl
after_node-plain ts at (split b true) f h = absurd (omega arith)
after_node-plain ts at (split b false) f h = absurd (omega arith)

-- after a prefix of the tokens, the text of one more
one-more : (ts : List Token) (prefix text : List ℕ) (p : ℕ) → prefix ≡ joined (take p ts) → text ≡ text_of ts p 1 → prefix ++ text ≡ joined (take (p + 1) ts)
one-more ts prefix text p e t = ap (λ l. l ++ text) e ∙ ap (λ l. joined (take p ts) ++ l) t ∙ joined-more ts p 1

-- the parts of a float are its text
pub dot_text : (text : List ℕ) → ends_with_dot text ≡ true → without_dot text ++ codes "." ≡ text
dot_text [] h = absurd cc
dot_text (b ∷ bs) h =
    let i : ℕ = length (b ∷ bs) - 1 in
    let n : i + 1 ≡ length (b ∷ bs) = omega arith in
    let last : slice_index (b ∷ bs) i ≡ byte "." = eqb-true (slice_index (b ∷ bs) i) (byte ".") h in
    ap (λ c. take i (b ∷ bs) ++ c ∷ []) (sym last) ∙ sym (take_more (b ∷ bs) i _ (omega arith)) ∙ ap (λ m. take m (b ∷ bs)) n ∙ take_all (length (b ∷ bs)) (b ∷ bs) (omega arith)

first_dot : (text : List ℕ) → has_dot text ≡ true → (before_first is_dot text ++ codes ".") ++ after_first is_dot text ≡ text
first_dot text h =
    let i : ℕ = position_or_len is_dot text in
    let within : i < length text = ltb-true i (length text) h in
    let here : get_or text i 0 ≡ byte "." = eqb-true (get_or text i 0) (byte ".") (passes_at_first is_dot text 0 within) in
    append_assoc (before_first is_dot text) (codes ".") (after_first is_dot text)
    ∙ ap (λ c. before_first is_dot text ++ c ∷ after_first is_dot text) (sym here)
    ∙ sym (split_at_first is_dot text 0 within)

apart_text : (v : Bool) (j : ℕ) (f g : StrForest) (text left right : List ℕ) (pos : ℕ) → (v ≡ true → (left ++ codes ".") ++ right ≡ text) →
    str_joined (
    if v then with_number (str_leaf (str_node f j (if v then with_number g left else str_node (str_message g illegal pos) ERROR (str_leaf str_none FLOAT_NUMBER text))) DOT (codes ".")) right
    else str_node f j (if v then with_number g left else str_node (str_message g illegal pos) ERROR (str_leaf str_none FLOAT_NUMBER text))
    ) ≡ (str_joined f ++ str_joined g) ++ text
apart_text true j f g text left right pos h = rw (← h refl) (simp append_assoc)
apart_text false j f g text left right pos h = simp append_assoc

module _ (ts : List Token) where
  -- a forest's leaves are the tokens up to its end
  pub joined-placed : (pre : List ℕ) (at : ℕ) (start : StrForest) (f : Forest) → Tree f → LeavesTouch ts at f → pre ++ str_joined start ≡ joined (take at ts) →
      pre ++ str_joined (placed ts at start f) ≡ joined (take (end_of ts at f) ts)
  joined-placed pre at start none nothing l h = h
  joined-placed pre at start (split b d) t l h = elim t [ ]
  joined-placed pre at start (node b k x) (a_node t u z) l h =
      let e : ℕ = end_of ts at b in
      let inside : ℕ = past_trivia ts e in
      let prefix : StrForest = with_leaves (placed ts at start b) (before_tail k (trivia_at ts e)) in
      let tail : StrForest = with_leaves str_none (attached_tail k (trivia_at ts e)) in
      let inner : StrForest = placed ts inside tail x in
      let begun : (pre ++ str_joined prefix) ++ str_joined tail ≡ joined (take inside ts) = joined-around ts pre e k (placed ts at start b) (joined-placed pre at start b t l.0 h) in
      ap (λ g. pre ++ str_joined g) (after_node-plain ts inside x (str_node prefix k inner) z)
      ∙ sym (append_assoc pre (str_joined prefix) (str_joined inner))
      ∙ joined-placed (pre ++ str_joined prefix) inside tail x u l.1 begun
  joined-placed pre at start (node b k (split y true)) (dotted t u) l h =
      let e : ℕ = end_of ts at b in
      let inside : ℕ = past_trivia ts e in
      let prefix : StrForest = with_leaves (placed ts at start b) (before_tail k (trivia_at ts e)) in
      let tail : StrForest = with_leaves str_none (attached_tail k (trivia_at ts e)) in
      let begun : (pre ++ str_joined prefix) ++ str_joined tail ≡ joined (take inside ts) = joined-around ts pre e k (placed ts at start b) (joined-placed pre at start b t l.0 h) in
      let d : ℕ = end_of ts inside y in
      let g : StrForest = with_leaves (placed ts inside tail y) (trivia_at ts d) in
      let more : (pre ++ str_joined prefix) ++ str_joined g ≡ joined (take (past_trivia ts d) ts) =
      joined-trivia ts (pre ++ str_joined prefix) d (placed ts inside tail y) (joined-placed (pre ++ str_joined prefix) inside tail y u l.1.0 begun) in
      let text : List ℕ = float_text ts inside y in
      let parts : pre ++ ((str_joined prefix ++ (str_joined g ++ ([] ++ without_dot text))) ++ codes ".") ≡ ((pre ++ str_joined prefix) ++ str_joined g) ++ (without_dot text ++ codes ".") = simp append_assoc in
      parts ∙ one-more ts ((pre ++ str_joined prefix) ++ str_joined g) (without_dot text ++ codes ".") (past_trivia ts d) more (dot_text text l.1.2)
  joined-placed pre at start (node b k (node c j (split y false))) (apart t u v) l h =
      let e : ℕ = end_of ts at b in
      let inside : ℕ = past_trivia ts e in
      let prefix : StrForest = with_leaves (placed ts at start b) (before_tail k (trivia_at ts e)) in
      let tail : StrForest = with_leaves str_none (attached_tail k (trivia_at ts e)) in
      let begun : (pre ++ str_joined prefix) ++ str_joined tail ≡ joined (take inside ts) = joined-around ts pre e k (placed ts at start b) (joined-placed pre at start b t l.0 h) in
      let pre2 : List ℕ = pre ++ str_joined prefix in
      let e2 : ℕ = end_of ts inside c in
      let inside2 : ℕ = past_trivia ts e2 in
      let prefix2 : StrForest = with_leaves (placed ts inside tail c) (before_tail j (trivia_at ts e2)) in
      let tail2 : StrForest = with_leaves str_none (attached_tail j (trivia_at ts e2)) in
      let begun2 : (pre2 ++ str_joined prefix2) ++ str_joined tail2 ≡ joined (take inside2 ts) = joined-around ts pre2 e2 j (placed ts inside tail c) (joined-placed pre2 inside tail c u l.1.0 begun) in
      let d : ℕ = end_of ts inside2 y in
      let g : StrForest = with_leaves (placed ts inside2 tail2 y) (trivia_at ts d) in
      let more : (pre2 ++ str_joined prefix2) ++ str_joined g ≡ joined (take (past_trivia ts d) ts) =
      joined-trivia ts (pre2 ++ str_joined prefix2) d (placed ts inside2 tail2 y) (joined-placed (pre2 ++ str_joined prefix2) inside2 tail2 y v l.1.1.0 begun2) in
      let text : List ℕ = float_text ts inside2 y in
      let pos : ℕ = start_of ts (past_trivia ts d) in
      let parts : pre ++ (str_joined prefix ++ ((str_joined prefix2 ++ str_joined g) ++ text)) ≡ (((pre ++ str_joined prefix) ++ str_joined prefix2) ++ str_joined g) ++ text = simp append_assoc in
      ap (λ w. pre ++ (str_joined prefix ++ w)) (apart_text (has_dot text) j prefix2 g text (before_first is_dot text) (after_first is_dot text) pos (first_dot text))
      ∙ parts ∙ one-more ts ((pre2 ++ str_joined prefix2) ++ str_joined g) text (past_trivia ts d) more refl
  joined-placed pre at start (leaf b k w) (a_leaf t) l h =
      let e : ℕ = end_of ts at b in
      let g : StrForest = with_leaves (placed ts at start b) (trivia_at ts e) in
      let p : ℕ = past_trivia ts e in
      sym (append_assoc pre (str_joined g) (text_of ts p w))
      ∙ ap (λ m. m ++ text_of ts p w) (joined-trivia ts pre e (placed ts at start b) (joined-placed pre at start b t l.0 h))
      ∙ joined-more ts p w
  joined-placed pre at start (message b m) (a_message t) l h =
      ap (λ w. pre ++ w) (str_joined-with_message (placed ts at start b) m (start_of ts (end_of ts at b)))
      ∙ joined-placed pre at start b t l h

  -- the same of a node that a float at its end ends, with the node around it
  joined-half : (c : Forest) (j : ℕ) (y : Forest) → Tree c → Tree y → LeavesTouch ts 0 (node c j (split y false)) → str_joined (placed ts 0 str_none (node c j (split y false))) ≡ joined (take (end_of ts 0 (node c j (split y false))) ts)
  joined-half c j y u v l =
      let e : ℕ = end_of ts 0 c in
      let inside : ℕ = past_trivia ts e in
      let prefix : StrForest = with_leaves (placed ts 0 str_none c) (before_tail j (trivia_at ts e)) in
      let tail : StrForest = with_leaves str_none (attached_tail j (trivia_at ts e)) in
      let begun : str_joined prefix ++ str_joined tail ≡ joined (take inside ts) = joined-around ts [] e j (placed ts 0 str_none c) (joined-placed [] 0 str_none c u l.0 refl) in
      let d : ℕ = end_of ts inside y in
      let g : StrForest = with_leaves (placed ts inside tail y) (trivia_at ts d) in
      let more : str_joined prefix ++ str_joined g ≡ joined (take (past_trivia ts d) ts) =
      joined-trivia ts (str_joined prefix) d (placed ts inside tail y) (joined-placed (str_joined prefix) inside tail y v l.1.0 begun) in
      let text : List ℕ = float_text ts inside y in
      apart_text (has_dot text) j prefix g text (before_first is_dot text) (after_first is_dot text) (start_of ts (past_trivia ts d)) (first_dot text)
      ∙ one-more ts (str_joined prefix ++ str_joined g) text (past_trivia ts d) more refl

-- where a tree ends, with the trivia that stand at the root's end
abbrev pub tree_end : List Token → Forest → ℕ
tree_end ts none = 0
tree_end ts (node before kind children) = past_trivia ts (end_of ts 0 children)
tree_end ts (leaf before kind width) = 0
tree_end ts (message before bytes) = 0
tree_end ts (split before d) = 0

-- a tree's leaves are the tokens up to its end
pub joined-tree : (ts : List Token) (f : Forest) → one_tree f ≡ true → Tree f → TreeTouches ts f → str_joined (with_trivia ts f) ≡ joined (take (tree_end ts f) ts)
joined-tree ts (node none k x) h (a_node t u z) l = joined-trivia ts [] (end_of ts 0 x) (placed ts 0 str_none x) (joined-placed ts [] 0 str_none x u l refl)
joined-tree ts (node none k (split y true)) h (dotted t u) l = absurd cc
joined-tree ts (node none k (node c j (split y false))) h (apart t u v) l =
    let x : Forest = node c j (split y false) in
    joined-trivia ts [] (end_of ts 0 x) (placed ts 0 str_none x) (joined-half ts c j y u v l)
joined-tree ts (node (node f m y) k x) h t l = absurd cc
joined-tree ts (node (leaf f m w) k x) h t l = absurd cc
joined-tree ts (node (message f m) k x) h t l = absurd cc
joined-tree ts (node (split f d) k x) h t l = absurd cc
joined-tree ts none h t l = absurd cc
joined-tree ts (leaf b k w) h t l = absurd cc
joined-tree ts (message b m) h t l = absurd cc
joined-tree ts (split b d) h t l = elim t [ ]

-- its leaves are these tokens, where they end with the tree
pub joined-front : (ts us : List Token) (f : Forest) → one_tree f ≡ true → Tree f → TreeTouches ts f → take (tree_end ts f) ts ≡ us → str_joined (with_trivia ts f) ≡ joined us
joined-front ts us f h t l e = joined-tree ts f h t l ∙ ap joined e

-- a tree that ends at the text's end has the text
pub joined-whole : (ts : List Token) (f : Forest) → one_tree f ≡ true → Tree f → TreeTouches ts f → length ts ≡ tree_end ts f → str_joined (with_trivia ts f) ≡ joined ts
joined-whole ts f h t l e = joined-tree ts f h t l ∙ ap joined (ap (λ n. take n ts) (sym e) ∙ take_all (length ts) ts (omega arith))

-- it is one tree
pub one-tree : (ts : List Token) (f : Forest) → one_tree f ≡ true → str_one_tree (with_trivia ts f) ≡ true
one-tree ts none h = h
one-tree ts (node before kind children) h = refl
one-tree ts (leaf before kind width) h = h
one-tree ts (message before bytes) h = h
one-tree ts (split before d) h = h
