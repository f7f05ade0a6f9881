-- Each message of a tree over a text stands where the leaves before it end.
use Rattle.std.specs.Prelude.{codes, if◌then◌else◌}
use Rattle.std.specs.List.{before_first, after_first, prefix_len}
use Rattle.std.proofs.Common.{◌≡◌, refl, sym, subst, ◌∙◌, ap, List, [], ◌∷◌, ◌++◌, ℕ, ◌+◌, Bool, true, false, append_assoc, append-nil, take, drop, length, length-append, arith}
use Rattle.std.proofs.lemmas.List.{take-append-drop}
use Rattle.rap_base.specs.TokenKind.{DOT, ERROR, FLOAT_NUMBER}
use Rattle.rap_events.specs.Forest.{Forest, none, node, leaf, message, split, split_ends, splits_placed, one_tree}
use Rattle.rap_events.proofs.Trees.{Tree, nothing, a_node, a_leaf, a_message, dotted, apart, tree}
use Rattle.rap_lexed.specs.Attached.{attached_tail, before_tail}
use Rattle.rap_lexed.specs.FloatParts.{is_dot, has_dot, without_dot, illegal, with_number, float_in, float_out}
use Rattle.rap_lexed.specs.LexedStr.{Token, joined, start_of}
use Rattle.rap_lexed.specs.StrForest.{StrForest, str_none, str_node, str_leaf, str_message, str_flat, str_joined, with_leaves, with_message}
use Rattle.rap_lexed.specs.StrStep.{StrStepValue, str_enter, str_exit, str_token, str_error}
use Rattle.rap_lexed.specs.Trivia.{is_trivial, trivia_at, past_trivia, text_of, end_of, float_text, after_node, placed, with_trivia, LeavesTouch, TreeTouches}
use Rattle.rap_lexed.proofs.Joined.{joined-more, joined-placed, after_node-plain}
use Rattle.rap_lexed.proofs.Tokens.{joined-append}
use Rattle.rap_ranged.specs.Ranged.{end_from}
use Rattle.rap_ranged.specs.Seats.{AreSeated}

-- the same of steps
abbrev pub StepsSeated : ℕ → List StrStepValue → Type 0
StepsSeated at [] = Unit {0}
StepsSeated at (str_enter kind ∷ ss) = StepsSeated at ss
StepsSeated at (str_exit ∷ ss) = StepsSeated at ss
StepsSeated at (str_token kind text ∷ ss) = StepsSeated (at + length text) ss
StepsSeated at (str_error bytes pos ∷ ss) = (pos ≡ at) × StepsSeated at ss

end_of-both : (at : ℕ) (xs ys : List ℕ) → (at + length xs) + length ys ≡ at + length (xs ++ ys)
end_of-both at xs ys = omega (arith, length-append xs ys)

seated-flat : (f : StrForest) (ss : List StrStepValue) (at : ℕ) → AreSeated at f → StepsSeated (end_from at f) ss → StepsSeated at (str_flat f ++ ss)
seated-flat str_none ss at h k = let same : end_from at str_none ≡ at = omega arith in subst (λ n. StepsSeated n ss) same k
seated-flat (str_node before kind children) ss at h k =
    let regroup : str_flat (str_node before kind children) ++ ss ≡ str_flat before ++ (str_enter kind ∷ (str_flat children ++ (str_exit ∷ ss))) = simp append_assoc in
    let end : end_from at (str_node before kind children) ≡ end_from (end_from at before) children = sym (end_of-both at (str_joined before) (str_joined children)) in
    subst (λ l. StepsSeated at l) (sym regroup)
    (seated-flat before (str_enter kind ∷ (str_flat children ++ (str_exit ∷ ss))) at h.0
    (seated-flat children (str_exit ∷ ss) (end_from at before) h.1 (subst (λ n. StepsSeated n ss) end k)))
seated-flat (str_leaf before kind text) ss at h k =
    let end : end_from at (str_leaf before kind text) ≡ end_from at before + length text = sym (end_of-both at (str_joined before) text) in
    subst (λ l. StepsSeated at l) (sym (append_assoc (str_flat before) (str_token kind text ∷ []) ss))
    (seated-flat before (str_token kind text ∷ ss) at h (subst (λ n. StepsSeated n ss) end k))
seated-flat (str_message before bytes pos) ss at h k =
    subst (λ l. StepsSeated at l) (sym (append_assoc (str_flat before) (str_error bytes pos ∷ []) ss))
    (seated-flat before (str_error bytes pos ∷ ss) at h.0 (h.1, k))

pub seated_steps : (f : StrForest) (at : ℕ) → AreSeated at f → StepsSeated at (str_flat f)
seated_steps f at h = subst (λ l. StepsSeated at l) (append-nil (str_flat f)) (seated-flat f [] at h tt)

-- leaves say nothing
seated-leaves : (ts : List Token) (at : ℕ) (g : StrForest) → AreSeated at g → AreSeated at (with_leaves g ts)
seated-leaves [] at g h = h
seated-leaves (t ∷ ts) at g h = seated-leaves ts at (str_leaf g t.kind t.text) h

-- a message at the end of the leaves
seated-message : (g : StrForest) (bytes : List ℕ) (pos at : ℕ) → AreSeated at g → pos ≡ end_from at g → AreSeated at (with_message g bytes pos)
seated-message str_none bytes pos at h e = (tt, e)
seated-message (str_node before kind children) bytes pos at h e =
    (h.0, (h.1, e ∙ sym (end_of-both at (str_joined before) (str_joined children))))
seated-message (str_leaf before kind text) bytes pos at h e = (h, e)
seated-message (str_message before m p) bytes pos at h e = (h, e)

str_joined-leaves : (ts : List Token) (g : StrForest) → str_joined (with_leaves g ts) ≡ str_joined g ++ joined ts
str_joined-leaves [] g = sym (append-nil (str_joined g))
str_joined-leaves (t ∷ ts) g = str_joined-leaves ts (str_leaf g t.kind t.text) ∙ append_assoc (str_joined g) t.text (joined ts)

-- a forest with the trivia after it
with_gap : (ts : List Token) (pre : List ℕ) (e : ℕ) (g : StrForest) → pre ++ str_joined g ≡ joined (take e ts) → pre ++ str_joined (with_leaves g (trivia_at ts e)) ≡ joined (take (past_trivia ts e) ts)
with_gap ts pre e g h =
    ap (λ l. pre ++ l) (str_joined-leaves (trivia_at ts e) g)
    ∙ sym (append_assoc pre (str_joined g) (joined (trivia_at ts e)))
    ∙ ap (λ l. l ++ joined (trivia_at ts e)) h
    ∙ joined-more ts e (prefix_len is_trivial (drop e ts))

-- a forest with the trivia around the beginning of a node after it
around_begin : (ts : List Token) (pre : List ℕ) (e k : ℕ) (g : StrForest) → pre ++ str_joined g ≡ joined (take e ts) →
    (pre ++ str_joined (with_leaves g (before_tail k (trivia_at ts e)))) ++ str_joined (with_leaves str_none (attached_tail k (trivia_at ts e))) ≡ joined (take (past_trivia ts e) ts)
around_begin ts pre e k g h =
    let b : List Token = before_tail k (trivia_at ts e) in
    let a : List Token = attached_tail k (trivia_at ts e) in
    let both : b ++ a ≡ trivia_at ts e = take-append-drop _ (trivia_at ts e) in
    ap (λ l. (pre ++ str_joined (with_leaves g b)) ++ l) (str_joined-leaves a str_none)
    ∙ ap (λ l. (pre ++ l) ++ joined a) (str_joined-leaves b g)
    ∙ append_assoc pre (str_joined g ++ joined b) (joined a)
    ∙ ap (λ l. pre ++ l) (append_assoc (str_joined g) (joined b) (joined a) ∙ ap (λ l. str_joined g ++ l) (sym (joined-append b a) ∙ ap joined both) ∙ sym (str_joined-leaves (trivia_at ts e) g))
    ∙ with_gap ts pre e g h

-- the end of the leaves after a text
end_after : (pre : List ℕ) (g : StrForest) → length (pre ++ str_joined g) ≡ end_from (length pre) g
end_after pre g = length-append pre (str_joined g)

place_is : (ts : List Token) (pre : List ℕ) (e : ℕ) (g : StrForest) → pre ++ str_joined g ≡ joined (take e ts) → start_of ts e ≡ end_from (length pre) g
place_is ts pre e g h = sym (ap length h) ∙ end_after pre g

-- what stands of a float without a dot at its end, in two nodes
seated-apart : (v : Bool) (at j pos : ℕ) (p g : StrForest) (text left right : List ℕ) → AreSeated at p → AreSeated (end_from at p) g → pos ≡ end_from (end_from at p) g →
    AreSeated at (
    if v then with_number (str_leaf (str_node p j (if v then with_number g left else str_node (str_message g illegal pos) ERROR (str_leaf str_none FLOAT_NUMBER text))) DOT (codes ".")) right
    else str_node p j (if v then with_number g left else str_node (str_message g illegal pos) ERROR (str_leaf str_none FLOAT_NUMBER text))
    )
seated-apart true at j pos p g text left right h k e = ((h, (k, tt)), tt)
seated-apart false at j pos p g text left right h k e = (h, ((k, e), tt))

module _ (ts : List Token) where
  seated-half : (pre : List ℕ) (at : ℕ) (start : StrForest) (c : Forest) (j : ℕ) (y : Forest) → Tree c → Tree y → LeavesTouch ts at (node c j (split y false)) → pre ++ str_joined start ≡ joined (take at ts) →
      AreSeated (length pre) (placed ts at start c) →
      ((pre2 : List ℕ) (at2 : ℕ) (start2 : StrForest) → LeavesTouch ts at2 y → pre2 ++ str_joined start2 ≡ joined (take at2 ts) → AreSeated (length pre2) start2 → AreSeated (length pre2) (placed ts at2 start2 y)) →
      AreSeated (length pre) (placed ts at start (node c j (split y false)))
  seated-half pre at start c j y t u l h before inner =
      let e : ℕ = end_of ts at c in
      let inside : ℕ = past_trivia ts e in
      let prefix : StrForest = with_leaves (placed ts at start c) (before_tail j (trivia_at ts e)) in
      let tail : StrForest = with_leaves str_none (attached_tail j (trivia_at ts e)) in
      let begun : (pre ++ str_joined prefix) ++ str_joined tail ≡ joined (take inside ts) = around_begin ts pre e j (placed ts at start c) (joined-placed ts pre at start c t l.0 h) in
      let pre2 : List ℕ = pre ++ str_joined prefix in
      let d : ℕ = end_of ts inside y in
      let g : StrForest = with_leaves (placed ts inside tail y) (trivia_at ts d) in
      let more : pre2 ++ str_joined g ≡ joined (take (past_trivia ts d) ts) =
      with_gap ts pre2 d (placed ts inside tail y) (joined-placed ts pre2 inside tail y u l.1.0 begun) in
      let text : List ℕ = float_text ts inside y in
      let here : length pre2 ≡ end_from (length pre) prefix = end_after pre prefix in
      let sat : AreSeated (length pre2) g = seated-leaves (trivia_at ts d) (length pre2) (placed ts inside tail y)
      (inner pre2 inside tail l.1.0 begun (seated-leaves (attached_tail j (trivia_at ts e)) (length pre2) str_none tt)) in
      seated-apart (has_dot text) (length pre) j (start_of ts (past_trivia ts d)) prefix g text (before_first is_dot text) (after_first is_dot text)
      (seated-leaves (before_tail j (trivia_at ts e)) (length pre) (placed ts at start c) before)
      (subst (λ n. AreSeated n g) here sat)
      (place_is ts pre2 (past_trivia ts d) g more ∙ ap (λ n. end_from n g) here)

  pub seated-placed : (pre : List ℕ) (at : ℕ) (start : StrForest) (f : Forest) → Tree f → LeavesTouch ts at f → pre ++ str_joined start ≡ joined (take at ts) → AreSeated (length pre) start →
      AreSeated (length pre) (placed ts at start f)
  seated-placed pre at start none nothing l h s = s
  seated-placed pre at start (split b d) t l h s = elim t [ ]
  seated-placed pre at start (node b k x) (a_node t u z) l h s =
      let e : ℕ = end_of ts at b in
      let inside : ℕ = past_trivia ts e in
      let prefix : StrForest = with_leaves (placed ts at start b) (before_tail k (trivia_at ts e)) in
      let tail : StrForest = with_leaves str_none (attached_tail k (trivia_at ts e)) in
      let inner : StrForest = placed ts inside tail x in
      let begun : (pre ++ str_joined prefix) ++ str_joined tail ≡ joined (take inside ts) = around_begin ts pre e k (placed ts at start b) (joined-placed ts pre at start b t l.0 h) in
      let pre2 : List ℕ = pre ++ str_joined prefix in
      let sat : AreSeated (length pre2) inner = seated-placed pre2 inside tail x u l.1 begun (seated-leaves (attached_tail k (trivia_at ts e)) (length pre2) str_none tt) in
      subst (AreSeated (length pre)) (sym (after_node-plain ts inside x (str_node prefix k inner) z))
      (seated-leaves (before_tail k (trivia_at ts e)) (length pre) (placed ts at start b) (seated-placed pre at start b t l.0 h s), subst (λ n. AreSeated n inner) (end_after pre prefix) sat)
  seated-placed pre at start (node b k (split y true)) (dotted t u) l h s =
      let e : ℕ = end_of ts at b in
      let inside : ℕ = past_trivia ts e in
      let prefix : StrForest = with_leaves (placed ts at start b) (before_tail k (trivia_at ts e)) in
      let tail : StrForest = with_leaves str_none (attached_tail k (trivia_at ts e)) in
      let begun : (pre ++ str_joined prefix) ++ str_joined tail ≡ joined (take inside ts) = around_begin ts pre e k (placed ts at start b) (joined-placed ts pre at start b t l.0 h) in
      let pre2 : List ℕ = pre ++ str_joined prefix in
      let d : ℕ = end_of ts inside y in
      let g : StrForest = with_leaves (placed ts inside tail y) (trivia_at ts d) in
      let sat : AreSeated (length pre2) g = seated-leaves (trivia_at ts d) (length pre2) (placed ts inside tail y)
      (seated-placed pre2 inside tail y u l.1.0 begun (seated-leaves (attached_tail k (trivia_at ts e)) (length pre2) str_none tt)) in
      (seated-leaves (before_tail k (trivia_at ts e)) (length pre) (placed ts at start b) (seated-placed pre at start b t l.0 h s), (subst (λ n. AreSeated n g) (end_after pre prefix) sat, tt))
  seated-placed pre at start (node b k (node c j (split y false))) (apart t u v) l h s =
      let e : ℕ = end_of ts at b in
      let inside : ℕ = past_trivia ts e in
      let prefix : StrForest = with_leaves (placed ts at start b) (before_tail k (trivia_at ts e)) in
      let tail : StrForest = with_leaves str_none (attached_tail k (trivia_at ts e)) in
      let begun : (pre ++ str_joined prefix) ++ str_joined tail ≡ joined (take inside ts) = around_begin ts pre e k (placed ts at start b) (joined-placed ts pre at start b t l.0 h) in
      let pre2 : List ℕ = pre ++ str_joined prefix in
      let none_yet : AreSeated (length pre2) tail = seated-leaves (attached_tail k (trivia_at ts e)) (length pre2) str_none tt in
      let inner : StrForest = placed ts inside tail (node c j (split y false)) in
      let sat : AreSeated (length pre2) inner = seated-half pre2 inside tail c j y u v l.1 begun
      (seated-placed pre2 inside tail c u l.1.0 begun none_yet) (λ p a g m e s. seated-placed p a g y v m e s) in
      (seated-leaves (before_tail k (trivia_at ts e)) (length pre) (placed ts at start b) (seated-placed pre at start b t l.0 h s), subst (λ n. AreSeated n inner) (end_after pre prefix) sat)
  seated-placed pre at start (leaf b k w) (a_leaf t) l h s =
      seated-leaves (trivia_at ts (end_of ts at b)) (length pre) (placed ts at start b) (seated-placed pre at start b t l.0 h s)
  seated-placed pre at start (message b m) (a_message t) l h s =
      seated-message (placed ts at start b) m (start_of ts (end_of ts at b)) (length pre) (seated-placed pre at start b t l h s)
      (place_is ts pre (end_of ts at b) (placed ts at start b) (joined-placed ts pre at start b t l h))

-- the same of one tree
seated-tree : (ts : List Token) (f : Forest) → one_tree f ≡ true → Tree f → TreeTouches ts f → AreSeated 0 (with_trivia ts f)
seated-tree ts (node none k x) h (a_node t u z) l =
    (tt, seated-leaves (trivia_at ts (end_of ts 0 x)) 0 (placed ts 0 str_none x) (seated-placed ts [] 0 str_none x u l refl tt))
seated-tree ts (node none k (split y true)) h (dotted t u) l = absurd cc
seated-tree ts (node none k (node c j (split y false))) h (apart t u v) l =
    let x : Forest = node c j (split y false) in (
      tt,
      seated-leaves (trivia_at ts (end_of ts 0 x)) 0 (placed ts 0 str_none x)
          (seated-half ts [] 0 str_none c j y u v l refl (seated-placed ts [] 0 str_none c u l.0 refl tt) (λ p a g m e s. seated-placed ts p a g y v m e s)),
    )
seated-tree ts (node (node f m y) k x) h t l = absurd cc
seated-tree ts (node (leaf f m w) k x) h t l = absurd cc
seated-tree ts (node (message f m) k x) h t l = absurd cc
seated-tree ts (node (split f d) k x) h t l = absurd cc
seated-tree ts none h t l = absurd cc
seated-tree ts (leaf b k w) h t l = absurd cc
seated-tree ts (message b m) h t l = absurd cc
seated-tree ts (split b d) h t l = elim t [ ]

-- the messages of a tree whose trivia are put back
pub tree_seated : (ts : List Token) (f : Forest) → one_tree f ≡ true → splits_placed f ≡ true → TreeTouches ts f → AreSeated 0 (with_trivia ts f)
tree_seated ts f h p l = seated-tree ts f h (tree f p) l

pub seated_tree_steps : (ts : List Token) (f : Forest) → one_tree f ≡ true → splits_placed f ≡ true → TreeTouches ts f → StepsSeated 0 (str_flat (with_trivia ts f))
seated_tree_steps ts f h p l = seated_steps (with_trivia ts f) 0 (tree_seated ts f h p l)
