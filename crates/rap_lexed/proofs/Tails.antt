-- The attached tail of trivia: how it grows with each trivia more, and what stands on either side of its beginning.
use Rattle.std.proofs.Common.{◌≡◌, refl, sym, ◌∙◌, ap, List, [], ◌∷◌, ◌++◌, ℕ, zero, suc, Bool, inl, inr, ◌+◌, ◌-◌, ◌<◌, ◌≤◌, true, false, length, take, drop, reverse, get_or, arith}
use Rattle.std.specs.Prelude.{◌==◌, ◌&&◌, ◌↔◌, IsTrue, not}
use Rattle.std.specs.List.{list_any, prefix_len, take_while}
use Rattle.std.proofs.Math.Seq.{drop-nil, take-nil}
use Rattle.std.proofs.lemmas.Bool.{both_ways, cases_lt, cases_Bool, cases_eq, cond-true, cond-false, cond_both, and_left, or_left, or_from, or_right, eqb-true}
use Rattle.std.proofs.lemmas.List.{drop-drop, drop_all, drop-take, get_or-drop, length-drop, length-reverse, length-take-le, reverse-append, take-append-drop, take-append-le, take_all, take_more}
use Rattle.std.proofs.lemmas.List.Folds.{length-prefix_len}
use Rattle.rap_base.specs.TokenKind.{COMMENT, EOF, WHITESPACE}
use Rattle.rap_lexed.specs.Attached.{takes_tail, is_comment, holds_blank_line, looks_like_doc, doc_is_first, reached, up_to_farthest, item_tail_len, tail_len, attached_tail, before_tail}
use Rattle.rap_lexed.specs.LexedStr.{Token, token_at}
use Rattle.rap_lexed.specs.Trivia.{is_trivial, trivia_at, past_trivia}

-- a tail is no longer than the trivia
up_to_farthest-le : (ts : List Token) → up_to_farthest ts ≤ length ts
up_to_farthest-le [] = omega arith
up_to_farthest-le (t ∷ ts) =
    cond_both (list_any is_comment (t ∷ ts)) (1 + up_to_farthest ts) 0 (λ n. n ≤ length (t ∷ ts)) (λ e. omega (arith, up_to_farthest-le ts)) (λ e. omega arith)

reached-le : (ts : List Token) → length (reached ts) ≤ length ts
reached-le [] = omega arith
reached-le (t ∷ ts) =
    cond_both (holds_blank_line t && not (doc_is_first ts)) [] (t ∷ reached ts) (λ l. length l ≤ length (t ∷ ts)) (λ e. omega arith) (λ e. omega (arith, reached-le ts))

pub item_tail_len-le : (ts : List Token) → item_tail_len ts ≤ length ts
item_tail_len-le ts = omega (arith, up_to_farthest-le (reached (reverse ts)), reached-le (reverse ts), length-reverse ts)

-- a comment is among the trivia exactly if there is one that is the farthest
any-none : (ts : List Token) → up_to_farthest ts ≡ 0 → list_any is_comment ts ≡ false
any-none [] h = refl
any-none (t ∷ ts) h = elim (cases_Bool (list_any is_comment (t ∷ ts))) [
  | inl e ↦ absurd (omega (arith, h, cond-true (list_any is_comment (t ∷ ts)) (1 + up_to_farthest ts) 0 e))
  | inr e ↦ e
]

any-some : (ts : List Token) → 0 < up_to_farthest ts → list_any is_comment ts ≡ true
any-some [] h = absurd (omega arith)
any-some (t ∷ ts) h = elim (cases_Bool (list_any is_comment (t ∷ ts))) [
  | inl e ↦ e
  | inr e ↦ absurd (omega (arith, h, cond-false (list_any is_comment (t ∷ ts)) (1 + up_to_farthest ts) 0 e))
]

module _ (ts : List Token) (t : Token) where
  -- no tail goes on over the trivia
  abbrev pub ends : Bool
  ends = holds_blank_line t && not (doc_is_first (reverse ts))

  -- the walk goes on over it
  goes-on : ends ≡ false → reached (reverse (ts ++ t ∷ [])) ≡ t ∷ reached (reverse ts)
  goes-on h = ap reached (reverse-append ts (t ∷ [])) ∙ cond-false ends [] (t ∷ reached (reverse ts)) h

  pub tail-ends : ends ≡ true → item_tail_len (ts ++ t ∷ []) ≡ 0
  tail-ends h = ap up_to_farthest (ap reached (reverse-append ts (t ∷ [])) ∙ cond-true ends [] (t ∷ reached (reverse ts)) h)

  -- with a comment more
  pub tail-comment : is_comment t ≡ true → item_tail_len (ts ++ t ∷ []) ≡ 1 + item_tail_len ts
  tail-comment c =
      let no_space : (t.kind == WHITESPACE) ≡ false = ap (λ k. k == WHITESPACE) (eqb-true t.kind COMMENT c) in
      ap up_to_farthest (goes-on (and_left (holds_blank_line t) _ (and_left (t.kind == WHITESPACE) _ no_space)))
      ∙ cond-true (list_any is_comment (t ∷ reached (reverse ts))) (1 + item_tail_len ts) 0 (or_left (is_comment t) _ c)

  -- with white space more where a tail has begun
  pub tail-more : is_comment t ≡ false → ends ≡ false → 0 < item_tail_len ts → item_tail_len (ts ++ t ∷ []) ≡ 1 + item_tail_len ts
  tail-more c h some =
      ap up_to_farthest (goes-on h)
      ∙ cond-true (list_any is_comment (t ∷ reached (reverse ts))) (1 + item_tail_len ts) 0 (or_right (is_comment t) _ (any-some (reached (reverse ts)) some))

  -- with white space more where none has begun
  pub tail-none : is_comment t ≡ false → item_tail_len ts ≡ 0 → item_tail_len (ts ++ t ∷ []) ≡ 0
  tail-none c none = elim (cases_Bool ends) [
    | inl h ↦ tail-ends h
    | inr h ↦ ap up_to_farthest (goes-on h) ∙ cond-false (list_any is_comment (t ∷ reached (reverse ts))) (1 + item_tail_len ts) 0 (or_from (is_comment t) _ c (any-none (reached (reverse ts)) none))
  ]

-- the tokens from a place up to another
abbrev pub run : List Token → ℕ → ℕ → List Token
run ts start i = take (i - start) (drop start ts)

pub run-more : (ts : List Token) (start i : ℕ) → start ≤ i → i < length ts → run ts start (i + 1) ≡ run ts start i ++ token_at ts i ∷ []
run-more ts start i first inside =
    let eof : Token = record { kind = EOF; text = [] } in
    ap (λ n. take n (drop start ts)) (omega arith)
    ∙ take_more (drop start ts) (i - start) eof (omega (arith, length-drop start ts))
    ∙ ap (λ t. run ts start i ++ t ∷ []) (get_or-drop start ts (i - start) eof ∙ ap (λ n. get_or ts n eof) (omega arith))

-- where a tail begins, with one trivia more
module _ (ts : List Token) (start i begin : ℕ) (first : start ≤ i) (inside : i < length ts) (begun : begin + item_tail_len (run ts start i) ≡ i) where
  with-one : item_tail_len (run ts start (i + 1)) ≡ item_tail_len (run ts start i ++ token_at ts i ∷ [])
  with-one = ap item_tail_len (run-more ts start i first inside)

  pub begin-comment : is_comment (token_at ts i) ≡ true → begin + item_tail_len (run ts start (i + 1)) ≡ i + 1
  begin-comment c = omega (arith, with-one, tail-comment (run ts start i) (token_at ts i) c)

  pub begin-none : is_comment (token_at ts i) ≡ false → begin ≡ i → i + 1 + item_tail_len (run ts start (i + 1)) ≡ i + 1
  begin-none c h = omega (arith, with-one, tail-none (run ts start i) (token_at ts i) c (omega arith))

  pub begin-ends : ends (run ts start i) (token_at ts i) ≡ true → i + 1 + item_tail_len (run ts start (i + 1)) ≡ i + 1
  begin-ends h = omega (arith, with-one, tail-ends (run ts start i) (token_at ts i) h)

  pub begin-more : is_comment (token_at ts i) ≡ false → (begin ≡ i → ⊥) → ends (run ts start i) (token_at ts i) ≡ false → begin + item_tail_len (run ts start (i + 1)) ≡ i + 1
  begin-more c ne h = omega (arith, with-one, tail-more (run ts start i) (token_at ts i) c h (elim (cases_eq begin i) [ inl e ↦ absurd (ne e) | inr k ↦ omega arith ]))

-- the trivia just before a place
pub doc-before : (ts : List Token) (start i : ℕ) → start < i → i ≤ length ts → doc_is_first (reverse (run ts start i)) ≡ looks_like_doc (token_at ts (i - 1))
doc-before ts start i first inside =
    let before : run ts start i ≡ run ts start (i - 1) ++ token_at ts (i - 1) ∷ [] = ap (λ n. run ts start n) (omega arith) ∙ run-more ts start (i - 1) (omega arith) (omega arith) in
    ap (λ l. doc_is_first (reverse l)) before ∙ ap doc_is_first (reverse-append (run ts start (i - 1)) (token_at ts (i - 1) ∷ []))

pub doc-none : (ts : List Token) (start i : ℕ) → i ≤ start → doc_is_first (reverse (run ts start i)) ≡ false
doc-none ts start i h = let none : i - start ≡ 0 = omega arith in ap (λ n. doc_is_first (reverse (take n (drop start ts)))) none

-- past the first ones that pass
prefix_len-drop : {X : Type 0} (p : X → Bool) (n : ℕ) (xs : List X) → n ≤ prefix_len p xs → n + prefix_len p (drop n xs) ≡ prefix_len p xs
prefix_len-drop p zero xs h = omega arith
prefix_len-drop p (suc n) [] h = absurd (omega arith)
prefix_len-drop p (suc n) (x ∷ xs) h = elim (cases_Bool (p x)) [
  | inl e ↦ omega (arith, cond-true (p x) (1 + prefix_len p xs) 0 e, prefix_len-drop p n xs (omega (arith, cond-true (p x) (1 + prefix_len p xs) 0 e)))
  | inr e ↦ absurd (omega (arith, cond-false (p x) (1 + prefix_len p xs) 0 e))
]

-- past the first trivia at a place
module _ (ts : List Token) (at n : ℕ) (h : n ≤ length (trivia_at ts at)) where
  few : n ≤ prefix_len is_trivial (drop at ts)
  few = omega (arith, length-prefix_len is_trivial (drop at ts))

  pub past-past : past_trivia ts (at + n) ≡ past_trivia ts at
  past-past = omega (arith, prefix_len-drop is_trivial n (drop at ts) few, ap (prefix_len is_trivial) (drop-drop n at ts))

  pub trivia-past : trivia_at ts (at + n) ≡ drop n (trivia_at ts at)
  trivia-past =
      ap (take_while is_trivial) (sym (drop-drop n at ts))
      ∙ sym (drop-take n (prefix_len is_trivial (drop n (drop at ts))) (drop at ts))
      ∙ ap (λ k. drop n (take k (drop at ts))) (prefix_len-drop is_trivial n (drop at ts) few)

  pub first-trivia : take n (drop at ts) ≡ take n (trivia_at ts at)
  first-trivia =
      let m : ℕ = prefix_len is_trivial (drop at ts) in
      ap (take n) (sym (take-append-drop m (drop at ts))) ∙ take-append-le n (trivia_at ts at) (drop m (drop at ts)) h

-- none stand there
pub bare-from : (ts : List Token) (at : ℕ) (b : Bool) → (IsTrue b ↔ (at < past_trivia ts at)) → b ≡ false → past_trivia ts at ≤ at
bare-from ts at b h e = elim (cases_lt at (past_trivia ts at)) [
  | inl k ↦ absurd (both_ways b e (h.1 k))
  | inr k ↦ k
]

-- how many trivia stand before the tail
length-before : (kind : ℕ) (trivia : List Token) → length (before_tail kind trivia) ≡ length trivia - tail_len kind trivia
length-before kind trivia = length-take-le (length trivia - tail_len kind trivia) trivia (omega arith)

module _ (ts : List Token) (at kind : ℕ) where
  pub before-within : length (before_tail kind (trivia_at ts at)) ≤ length (trivia_at ts at)
  before-within = omega (arith, length-before kind (trivia_at ts at))

  -- past them the tail is what is left
  pub past-before : past_trivia ts (at + length (before_tail kind (trivia_at ts at))) ≡ past_trivia ts at
  past-before = past-past ts at (length (before_tail kind (trivia_at ts at))) before-within

  pub trivia-before : trivia_at ts (at + length (before_tail kind (trivia_at ts at))) ≡ attached_tail kind (trivia_at ts at)
  trivia-before =
      trivia-past ts at (length (before_tail kind (trivia_at ts at))) before-within
      ∙ ap (λ n. drop n (trivia_at ts at)) (length-before kind (trivia_at ts at))

  -- where no trivia stand, none are around the node
  module _ (bare : past_trivia ts at ≤ at) where
    pub trivia-bare : trivia_at ts at ≡ []
    trivia-bare = let few : prefix_len is_trivial (drop at ts) ≡ 0 = omega arith in ap (λ (k : ℕ). take k (drop at ts)) few

    pub before-bare : before_tail kind (trivia_at ts at) ≡ []
    before-bare = ap (λ (l : List Token). before_tail kind l) trivia-bare ∙ take-nil (length {A = Token} [] - tail_len kind [])

    pub tail-bare : attached_tail kind (trivia_at ts at) ≡ []
    tail-bare = ap (λ (l : List Token). attached_tail kind l) trivia-bare ∙ drop-nil (length {A = Token} [] - tail_len kind [])

  -- a node without a tail has all trivia before it
  module _ (plain : takes_tail kind ≡ false) where
    none : tail_len kind (trivia_at ts at) ≡ 0
    none = cond-false (takes_tail kind) (item_tail_len (trivia_at ts at)) 0 plain

    pub before-all : before_tail kind (trivia_at ts at) ≡ trivia_at ts at
    before-all = take_all (length (trivia_at ts at) - tail_len kind (trivia_at ts at)) (trivia_at ts at) (omega (arith, none))

    pub tail-empty : attached_tail kind (trivia_at ts at) ≡ []
    tail-empty = drop_all (length (trivia_at ts at) - tail_len kind (trivia_at ts at)) (trivia_at ts at) (omega (arith, none))

  -- an item has those before the place where its tail begins
  module _ (item : takes_tail kind ≡ true) (begin : ℕ) (h : begin + item_tail_len (trivia_at ts at) ≡ past_trivia ts at) where
    pub place-item : begin ≡ at + length (before_tail kind (trivia_at ts at))
    place-item =
        omega (arith, h, length-before kind (trivia_at ts at), cond-true (takes_tail kind) (item_tail_len (trivia_at ts at)) 0 item, item_tail_len-le (trivia_at ts at), length-prefix_len is_trivial (drop at ts))

    pub before-item : take (begin - at) (drop at ts) ≡ before_tail kind (trivia_at ts at)
    before-item =
        first-trivia ts at (begin - at) (omega (arith, place-item, before-within))
        ∙ ap (λ n. take n (trivia_at ts at)) (omega (arith, place-item, length-before kind (trivia_at ts at)))
