-- How many steps a tree has with its trivia.
use Rattle.std.proofs.Common.{◌≡◌, ◌≤◌, ℕ, ◌+◌, ◌*◌, List, [], ◌∷◌, ◌++◌, Bool, true, false, if◌then◌else◌, refl, ap, length, length-append, drop, codes, arith}
use Rattle.std.proofs.lemmas.List.{take-append-drop}
use Rattle.std.proofs.lemmas.List.Folds.{length-prefix_len}
use Rattle.rap_events.specs.StepValue.{StepValue, enter, token, float_split, error}
use Rattle.rap_base.specs.TokenKind.{DOT, ERROR, FLOAT_NUMBER}
use Rattle.rap_events.specs.Forest.{Forest, none, node, leaf, message, split, flat, exit_of, split_ends, used, one_tree}
use Rattle.rap_events.proofs.Trees.{Tree, nothing, a_node, a_leaf, a_message, dotted, apart}
use Rattle.rap_lexed.specs.Attached.{attached_tail, before_tail}
use Rattle.rap_lexed.specs.FloatParts.{float_in, float_out, has_dot, illegal, with_number, without_dot}
use Rattle.rap_lexed.specs.LexedStr.{start_of}
use Rattle.rap_lexed.specs.StrForest.{StrForest, str_none, str_node, str_leaf, str_message, str_flat, with_leaves, with_message}
use Rattle.rap_lexed.specs.StrStep.{str_enter, str_exit, str_token, str_error}
use Rattle.rap_lexed.specs.Token.{Token}
use Rattle.rap_lexed.specs.Trivia.{is_trivial, trivia_at, past_trivia, text_of, end_of, float_text, placed, with_trivia}
use Rattle.rap_lexed.proofs.Joined.{tree_end, after_node-plain}

-- how many steps a forest over the text has
abbrev count : StrForest → ℕ
count g = length (str_flat g)

count-node : (b : StrForest) (k : ℕ) (c : StrForest) → count (str_node b k c) ≡ count b + (count c + 2)
count-node b k c = omega (arith, length-append (str_flat b) (str_enter k ∷ (str_flat c ++ str_exit ∷ [])), length-append (str_flat c) (str_exit ∷ []))

count-leaf : (b : StrForest) (k : ℕ) (text : List ℕ) → count (str_leaf b k text) ≡ count b + 1
count-leaf b k text = omega (arith, length-append (str_flat b) (str_token k text ∷ []))

count-message : (b : StrForest) (bytes : List ℕ) (pos : ℕ) → count (str_message b bytes pos) ≡ count b + 1
count-message b bytes pos = omega (arith, length-append (str_flat b) (str_error bytes pos ∷ []))

count-with_leaves : (g : StrForest) (ts : List Token) → count (with_leaves g ts) ≡ count g + length ts
count-with_leaves g [] = omega arith
count-with_leaves g (t ∷ ts) = omega (arith, count-with_leaves (str_leaf g t.kind t.text) ts, count-leaf g t.kind t.text)

count-with_message : (g : StrForest) (bytes : List ℕ) (pos : ℕ) → count (with_message g bytes pos) ≡ count g + 1
count-with_message str_none bytes pos = refl
count-with_message (str_node b k c) bytes pos = omega (arith, count-node b k (str_message c bytes pos), count-node b k c, count-message c bytes pos)
count-with_message (str_leaf b k text) bytes pos = count-message (str_leaf b k text) bytes pos
count-with_message (str_message b m p) bytes pos = count-message (str_message b m p) bytes pos

count-number : (g : StrForest) (number : List ℕ) → count (with_number g number) ≡ count g + 3
count-number g number = count-node g _ (str_leaf str_none _ number)

-- the parts of a float
choice-in : (v : Bool) (g : StrForest) (left text : List ℕ) (pos : ℕ) → count (if v then with_number g left else str_node (str_message g illegal pos) ERROR (str_leaf str_none FLOAT_NUMBER text)) ≤ count g + 4
choice-in true g left text pos = omega (arith, count-number g left)
choice-in false g left text pos =
    omega (arith, count-node (str_message g illegal pos) ERROR (str_leaf str_none FLOAT_NUMBER text), count-message g illegal pos, count-leaf str_none FLOAT_NUMBER text)

choice-out : (v : Bool) (f : StrForest) (dot right : List ℕ) → count (if v then with_number (str_leaf f DOT dot) right else f) ≤ count f + 4
choice-out true f dot right = omega (arith, count-number (str_leaf f DOT dot) right, count-leaf f DOT dot)
choice-out false f dot right = omega arith

count-in : (d : Bool) (text : List ℕ) (pos : ℕ) (g : StrForest) → count (float_in d text pos g) ≤ count g + 4
count-in true text pos g = omega (arith, count-number g (without_dot text))
count-in false text pos g = choice-in (has_dot text) g _ text pos

count-out : (d : Bool) (text : List ℕ) (f : StrForest) → count (float_out d text f) ≤ count f + 4
count-out true text f = omega (arith, count-leaf f DOT (codes "."))
count-out false text f = choice-out (has_dot text) f _ _

flat-count : (b : Forest) (k : ℕ) (x : Forest) → length (flat (node b k x)) ≡ length (flat b) + (length (flat x) + (length (exit_of (split_ends x)) + 1))
flat-count b k x = omega (arith, length-append (flat b) (enter k ∷ (flat x ++ exit_of (split_ends x))), length-append (flat x) (exit_of (split_ends x)))

flat-more : (b : Forest) (s : StepValue) → length (flat b ++ s ∷ []) ≡ length (flat b) + 1
flat-more b s = omega (arith, length-append (flat b) (s ∷ []))

module _ (ts : List Token) where
  -- the trivia of a gap are no more than its tokens
  trivia-count : (e : ℕ) → length (trivia_at ts e) + e ≤ past_trivia ts e
  trivia-count e = omega (arith, length-prefix_len is_trivial (drop e ts))

  around-count : (e k : ℕ) → (length (before_tail k (trivia_at ts e)) + length (attached_tail k (trivia_at ts e))) + e ≤ past_trivia ts e
  around-count e k =
      let b : List Token = before_tail k (trivia_at ts e) in
      let a : List Token = attached_tail k (trivia_at ts e) in
      let both : b ++ a ≡ trivia_at ts e = take-append-drop _ (trivia_at ts e) in
      omega (arith, trivia-count e, length-append b a, ap length both)

  -- few steps from a place on, after what stands there already
  abbrev Few : ℕ → StrForest → Forest → Type 0
  Few at start f = count (placed ts at start f) + at ≤ count start + (length (flat f) + (9 * used f + end_of ts at f))

  -- a node that a float ends
  few-dotted : (at : ℕ) (start : StrForest) (c : Forest) (j : ℕ) (y : Forest) (d : Bool) → Few at start c →
      Few (past_trivia ts (end_of ts at c)) (with_leaves str_none (attached_tail j (trivia_at ts (end_of ts at c)))) y →
      count (placed ts at start (node c j (split y d))) + (at + 1) ≤ count start + ((length (flat c) + length (flat y)) + (9 * (used c + used y) + (10 + end_of ts at (node c j (split y d)))))
  few-dotted at start c j y d h i =
      let e : ℕ = end_of ts at c in
      let inside : ℕ = past_trivia ts e in
      let a : List Token = attached_tail j (trivia_at ts e) in
      let b : List Token = before_tail j (trivia_at ts e) in
      let tail : StrForest = with_leaves str_none a in
      let outer : StrForest = with_leaves (placed ts at start c) b in
      let f : ℕ = end_of ts inside y in
      let g : StrForest = with_leaves (placed ts inside tail y) (trivia_at ts f) in
      let text : List ℕ = float_text ts inside y in
      let inner : StrForest = float_in d text (start_of ts (past_trivia ts f)) g in
      omega (
        arith,
        h,
        i,
        around-count e j,
        trivia-count f,
        count-with_leaves str_none a,
        count-with_leaves (placed ts at start c) b,
        count-with_leaves (placed ts inside tail y) (trivia_at ts f),
        count-in d text (start_of ts (past_trivia ts f)) g,
        count-node outer j inner,
        count-out d text (str_node outer j inner),
      )

  few-placed : (at : ℕ) (start : StrForest) (f : Forest) → Tree f → Few at start f
  few-placed at start none nothing = omega arith
  few-placed at start (split b d) t = elim t [ ]
  few-placed at start (node b k x) (a_node t u z) =
      let e : ℕ = end_of ts at b in
      let inside : ℕ = past_trivia ts e in
      let a : List Token = attached_tail k (trivia_at ts e) in
      let front : List Token = before_tail k (trivia_at ts e) in
      let tail : StrForest = with_leaves str_none a in
      let outer : StrForest = with_leaves (placed ts at start b) front in
      let inner : StrForest = placed ts inside tail x in
      let exits : length (exit_of (split_ends x)) ≡ 1 = ap (λ n. length (exit_of n)) z in
      omega (
        arith,
        few-placed at start b t,
        few-placed inside tail x u,
        around-count e k,
        count-with_leaves str_none a,
        count-with_leaves (placed ts at start b) front,
        count-node outer k inner,
        flat-count b k x,
        exits,
        ap count (after_node-plain ts inside x (str_node outer k inner) z),
      )
  few-placed at start (node b k (split y true)) (dotted t u) =
      let e : ℕ = end_of ts at b in
      let tail : StrForest = with_leaves str_none (attached_tail k (trivia_at ts e)) in
      omega (
        arith,
        few-dotted at start b k y true (few-placed at start b t) (few-placed (past_trivia ts e) tail y u),
        flat-count b k (split y true),
        flat-more y (float_split true),
      )
  few-placed at start (node b k (node c j (split y false))) (apart t u v) =
      let x : Forest = node c j (split y false) in
      let e : ℕ = end_of ts at b in
      let inside : ℕ = past_trivia ts e in
      let a : List Token = attached_tail k (trivia_at ts e) in
      let front : List Token = before_tail k (trivia_at ts e) in
      let tail : StrForest = with_leaves str_none a in
      let outer : StrForest = with_leaves (placed ts at start b) front in
      let inner : StrForest = placed ts inside tail x in
      let e2 : ℕ = end_of ts inside c in
      let tail2 : StrForest = with_leaves str_none (attached_tail j (trivia_at ts e2)) in
      omega (
        arith,
        few-placed at start b t,
        few-dotted inside tail c j y false (few-placed inside tail c u) (few-placed (past_trivia ts e2) tail2 y v),
        around-count e k,
        count-with_leaves str_none a,
        count-with_leaves (placed ts at start b) front,
        count-node outer k inner,
        flat-count b k x,
        flat-count c j (split y false),
        flat-more y (float_split false),
      )
  few-placed at start (leaf b k w) (a_leaf t) =
      let e : ℕ = end_of ts at b in
      let g : StrForest = with_leaves (placed ts at start b) (trivia_at ts e) in
      omega (
        arith,
        few-placed at start b t,
        trivia-count e,
        count-with_leaves (placed ts at start b) (trivia_at ts e),
        count-leaf g k (text_of ts (past_trivia ts e) w),
        flat-more b (token k w),
      )
  few-placed at start (message b m) (a_message t) =
      omega (
        arith,
        few-placed at start b t,
        count-with_message (placed ts at start b) m (start_of ts (end_of ts at b)),
        flat-more b (error m),
      )

  root-count : (k : ℕ) (x : Forest) → count (with_trivia ts (node none k x)) + end_of ts 0 x ≤ 2 + (count (placed ts 0 str_none x) + tree_end ts (node none k x))
  root-count k x =
      let e : ℕ = end_of ts 0 x in
      let g : StrForest = with_leaves (placed ts 0 str_none x) (trivia_at ts e) in
      omega (arith, count-node str_none k g, count-with_leaves (placed ts 0 str_none x) (trivia_at ts e), trivia-count e)

  -- a tree has few steps
  pub few-tree : (f : Forest) → one_tree f ≡ true → Tree f → length (str_flat (with_trivia ts f)) ≤ length (flat f) + (9 * used f + tree_end ts f)
  few-tree (node none k x) h (a_node t u z) =
      let exits : length (exit_of (split_ends x)) ≡ 1 = ap (λ n. length (exit_of n)) z in
      omega (arith, root-count k x, few-placed 0 str_none x u, flat-count none k x, exits)
  few-tree (node none k (split y true)) h (dotted t u) = absurd cc
  few-tree (node none k (node c j (split y false))) h (apart t u v) =
      let x : Forest = node c j (split y false) in
      let e : ℕ = end_of ts 0 c in
      let tail : StrForest = with_leaves str_none (attached_tail j (trivia_at ts e)) in
      omega (
        arith,
        root-count k x,
        few-dotted 0 str_none c j y false (few-placed 0 str_none c u) (few-placed (past_trivia ts e) tail y v),
        flat-count none k x,
        flat-count c j (split y false),
        flat-more y (float_split false),
      )
  few-tree (node (node f m y) k x) h t = absurd cc
  few-tree (node (leaf f m w) k x) h t = absurd cc
  few-tree (node (message f m) k x) h t = absurd cc
  few-tree (node (split f d) k x) h t = absurd cc
  few-tree none h t = absurd cc
  few-tree (leaf b k w) h t = absurd cc
  few-tree (message b m) h t = absurd cc
  few-tree (split b d) h t = elim t [ ]
