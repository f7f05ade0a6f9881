-- each part of a script source stands at one place
use Rattle.std.proofs.Common.{◌≡◌, ◌≢◌, ℕ, zero, suc, Bool, true, false, List, [], ◌∷◌, ◌++◌, ◌+◌, ◌-◌, ◌<◌, ◌≤◌, ◌⊎◌, inl, inr, length, take, drop, get_or, Option, Some, None, unwrap_or, refl, ap, sym, ◌∙◌, subst, arith}
use Rattle.std.specs.List.{AllPass}
use Rattle.std.specs.declared.ops.Range.{Range}
use Rattle.std.proofs.lemmas.List.{append-nil, append_assoc, append_cancel_right, drop_at, take_at, length-append, get_or_at, get_or_append_left, get_or-append-add}
use Rattle.rap_frontmatter.specs.Script.{dashes, NoDash, NoLineFeed, IsLineEnd, FirstLine, Splits, HasLine, EndsShebang, EndsBlankLines, Fence, HasFence, IsFirstFence, IsLongestFence, HasWord, FindsWord, is_horizontal}
use Rattle.rap_frontmatter.specs.Script.IsLineEnd.{with_return, feed, text_end}
use Rattle.rap_frontmatter.proofs.ScriptLines.{lt_or_le}
use Rattle.rap_frontmatter.proofs.ScriptRefused.{span_same}

-- ---- Lines

one_feed : (a b r s : List ℕ) → NoLineFeed a → NoLineFeed b → a ++ 10 ∷ r ≡ b ++ 10 ∷ s → (a ≡ b) × (r ≡ s)
one_feed [] [] r s h k e = let f : r ≡ s = cc in (refl, f)
one_feed [] (y ∷ b) r s h k e = let f : y ≡ 10 = cc in absurd (k 0 0 (omega arith) f)
one_feed (x ∷ a) [] r s h k e = let f : x ≡ 10 = cc in absurd (h 0 0 (omega arith) f)
one_feed (x ∷ a) (y ∷ b) r s h k e =
    let f : a ++ 10 ∷ r ≡ b ++ 10 ∷ s = cc in
    let g : x ≡ y = cc in
    let p = one_feed a b r s (λ i d l. h (suc i) d (omega arith)) (λ i d l. k (suc i) d (omega arith)) f in
    let q : a ≡ b = p.0 in
    let m : x ∷ a ≡ y ∷ b = cc in
    (m, p.1)

pub feed_inside : (a r : List ℕ) → NoLineFeed (a ++ 10 ∷ r) → ⊥
feed_inside a r h = h (length a) 0 (omega (arith, length-append a (10 ∷ r))) (get_or_at a 10 r 0 (length a) refl)

no_feed_push : (a : List ℕ) → NoLineFeed a → NoLineFeed (a ++ 13 ∷ [])
no_feed_push [] h zero d l e = omega arith
no_feed_push [] h (suc k) d l e = absurd (omega arith)
no_feed_push (y ∷ a) h zero d l e = h 0 d (omega arith) e
no_feed_push (y ∷ a) h (suc k) d l e = no_feed_push a (λ i d l. h (suc i) d (omega arith)) k d (omega arith) e

-- two lines are one, with their ends and what follows them
pub record SameLine (line line' end end' rest rest' : List ℕ) : Type 0 where
  pub line_is : line ≡ line'
  pub end_is : end ≡ end'
  pub rest_is : rest ≡ rest'

ends_once : {line line' end end' rest rest' : List ℕ} → NoLineFeed line → NoLineFeed line' → line ++ (end ++ rest) ≡ line' ++ (end' ++ rest') → IsLineEnd line end rest → IsLineEnd line' end' rest' → SameLine line line' end end' rest rest'
ends_once h k e (with_return line rest) (with_return line' rest') =
    let p = one_feed (line ++ 13 ∷ []) (line' ++ 13 ∷ []) rest rest' (no_feed_push line h) (no_feed_push line' k) (append_assoc line (13 ∷ []) (10 ∷ rest) ∙ (e ∙ sym (append_assoc line' (13 ∷ []) (10 ∷ rest')))) in
    record { line_is = append_cancel_right line line' (13 ∷ []) p.0; end_is = refl; rest_is = p.1 }
ends_once h k e (with_return line rest) (feed line' rest' n) =
    let p = one_feed (line ++ 13 ∷ []) line' rest rest' (no_feed_push line h) k (append_assoc line (13 ∷ []) (10 ∷ rest) ∙ e) in
    absurd (n line (sym p.0))
ends_once h k e (with_return line rest) (text_end line') =
    let w : line' ≡ (line ++ 13 ∷ []) ++ 10 ∷ rest = sym (append-nil line') ∙ (sym e ∙ sym (append_assoc line (13 ∷ []) (10 ∷ rest))) in
    absurd (feed_inside (line ++ 13 ∷ []) rest (subst (λ (l : List ℕ). NoLineFeed l) w k))
ends_once h k e (feed line rest n) (with_return line' rest') =
    let p = one_feed line (line' ++ 13 ∷ []) rest rest' h (no_feed_push line' k) (e ∙ sym (append_assoc line' (13 ∷ []) (10 ∷ rest'))) in
    absurd (n line' p.0)
ends_once h k e (feed line rest n) (feed line' rest' m) =
    let p = one_feed line line' rest rest' h k e in
    record { line_is = p.0; end_is = refl; rest_is = p.1 }
ends_once h k e (feed line rest n) (text_end line') =
    let w : line' ≡ line ++ 10 ∷ rest = sym (append-nil line') ∙ sym e in
    absurd (feed_inside line rest (subst (λ (l : List ℕ). NoLineFeed l) w k))
ends_once h k e (text_end line) (with_return line' rest') =
    let w : line ≡ (line' ++ 13 ∷ []) ++ 10 ∷ rest' = sym (append-nil line) ∙ (e ∙ sym (append_assoc line' (13 ∷ []) (10 ∷ rest'))) in
    absurd (feed_inside (line' ++ 13 ∷ []) rest' (subst (λ (l : List ℕ). NoLineFeed l) w h))
ends_once h k e (text_end line) (feed line' rest' n) =
    let w : line ≡ line' ++ 10 ∷ rest' = sym (append-nil line) ∙ e in
    absurd (feed_inside line' rest' (subst (λ (l : List ℕ). NoLineFeed l) w h))
ends_once h k e (text_end line) (text_end line') =
    record { line_is = sym (append-nil line) ∙ (e ∙ append-nil line'); end_is = refl; rest_is = refl }

pub line_once : (text line line' end end' rest rest' : List ℕ) → FirstLine text line end rest → FirstLine text line' end' rest' → SameLine line line' end end' rest rest'
line_once text line line' end end' rest rest' h k = ends_once h.one k.one (sym h.whole ∙ k.whole) h.ends k.ends

next_once : (text : List ℕ) (len len' next next' : ℕ) → HasLine text len next → HasLine text len' next' → next ≡ next'
next_once text len len' next next' h k =
    let s = line_once text _ _ _ _ _ _ h.first k.first in
    omega (arith, h.after, k.after, ap length s.line_is, ap length s.end_is)

-- ---- Dashes

dashes_once : (n m : ℕ) (a b : List ℕ) → NoDash a → NoDash b → dashes n ++ a ≡ dashes m ++ b → (n ≡ m) × (a ≡ b)
dashes_once zero zero a b h k e = (refl, e)
dashes_once zero (suc m) a b h k e = absurd (h (dashes m ++ b) e)
dashes_once (suc n) zero a b h k e = absurd (k (dashes n ++ a) (sym e))
dashes_once (suc n) (suc m) a b h k e =
    let f : dashes n ++ a ≡ dashes m ++ b = cc in
    let p = dashes_once n m a b h k f in
    (ap suc p.0, p.1)

-- dashes do not begin a text that no dash begins
pub no_dashes : (extra : ℕ) (text rest : List ℕ) → 0 < extra → NoDash text → text ≢ dashes extra ++ rest
no_dashes zero text rest p h e = omega arith
no_dashes (suc n) text rest p h e = h (dashes n ++ rest) e

pub extra_once : (n m : ℕ) (text a b : List ℕ) → NoDash a → NoDash b → text ≡ dashes n ++ a → text ≡ dashes m ++ b → n ≡ m
extra_once n m text a b h k e f = let p = dashes_once n m a b h k (sym e ∙ f) in p.0

-- ---- The opening

splits_once : (text : List ℕ) (n m : Option ℕ) (rest rest' : List ℕ) → Splits text n rest → Splits text m rest' → n ≡ m → rest ≡ rest'
splits_once text n m rest rest' h k e =
    let a : drop (unwrap_or n 0) text ≡ rest = ap (λ l. drop (unwrap_or n 0) l) h.whole ∙ drop_at h.prefix rest (unwrap_or n 0) h.size in
    let b : drop (unwrap_or m 0) text ≡ rest' = ap (λ l. drop (unwrap_or m 0) l) k.whole ∙ drop_at k.prefix rest' (unwrap_or m 0) k.size in
    sym a ∙ (ap (λ o. drop (unwrap_or o 0) text) e ∙ b)

pub shebang_once : (text : List ℕ) (o p : Option ℕ) → EndsShebang text o → EndsShebang text p → o ≡ p
shebang_once text None None h k = refl
shebang_once text None (Some m) h k = absurd (h k.0)
shebang_once text (Some n) None h k = absurd (k h.0)
shebang_once text (Some n) (Some m) h k = ap (λ x. Some x) (next_once text h.1 k.1 n m h.2 k.2)

blanks_once : (text : List ℕ) (o p : Option ℕ) → EndsBlankLines text o → EndsBlankLines text p → o ≡ p
blanks_once text None None h k = refl
blanks_once text None (Some m) h k = absurd (h m k.0)
blanks_once text (Some n) None h k = absurd (k n h.0)
blanks_once text (Some n) (Some m) h k =
    let a : m ≤ n = h.1 m k.0 in
    let b : n ≤ m = k.1 n h.0 in
    let e : n ≡ m = omega arith in
    ap (λ x. Some x) e

-- two fences are one
pub record SameFence {text text' : List ℕ} (f : Fence text) (g : Fence text') : Type 0 where
  pub blank : f.blank ≡ g.blank
  pub n : f.n ≡ g.n
  pub after : f.after ≡ g.after

pub fence_once : (text text' : List ℕ) (f : Fence text) (g : Fence text') → text ≡ text' → SameFence f g
fence_once text text' f g e =
    let ends = subst (λ (l : List ℕ). EndsBlankLines l g.blank) (sym e) g.ends in
    let splits = subst (λ (l : List ℕ). Splits l g.blank (dashes g.n ++ g.after)) (sym e) g.splits in
    let b = blanks_once text f.blank g.blank f.ends ends in
    let r = splits_once text f.blank g.blank _ _ f.splits splits b in
    let p = dashes_once f.n g.n f.after g.after f.no_more g.no_more r in
    record { blank = b; n = p.0; after = p.1 }

pub below_once : (text : List ℕ) (o p : Option ℕ) (rest rest' : List ℕ) → EndsShebang text o → EndsShebang text p → Splits text o rest → Splits text p rest' → rest ≡ rest'
below_once text o p rest rest' h k s t = splits_once text o p rest rest' s t (shebang_once text o p h k)

-- ---- The close

pub first_fence_once : (n : ℕ) (text : List ℕ) (p q : ℕ) → IsFirstFence n text p → IsFirstFence n text q → p ≡ q
first_fence_once n text p q h k =
    let a : p ≤ q = h.first q k.fence in
    let b : q ≤ p = k.first p h.fence in
    omega arith

pub longest_once : (most most' : ℕ) (text : List ℕ) (p p' : ℕ) → IsLongestFence most text p → IsLongestFence most' text p' → (most ≡ most') × (p ≡ p')
longest_once most most' text p p' h k =
    let a : most' ≤ most = h.longest most' p' k.fence.fence in
    let b : most ≤ most' = k.longest most p h.fence.fence in
    let e : most' ≡ most = omega arith in
    let f : IsFirstFence most text p' = subst (λ (n : ℕ). IsFirstFence n text p') e k.fence in
    (sym e, first_fence_once most text p p' h.fence f)

-- more dashes are also fewer
pub fewer_dashes : (n m : ℕ) (text : List ℕ) (p : ℕ) → m ≤ n → HasFence n text p → HasFence m text p
fewer_dashes n m text p l h = record { prefix = h.prefix; rest = dashes (n - m) ++ h.rest; split = h.split ∙ ap (λ x. h.prefix ++ 10 ∷ x) (cut n m h.rest l); size = h.size }
  where
    cut : (n m : ℕ) (rest : List ℕ) → m ≤ n → dashes n ++ rest ≡ dashes m ++ (dashes (n - m) ++ rest)
    cut n zero rest l = let e : n - 0 ≡ n = omega arith in ap (λ k. dashes k ++ rest) (sym e)
    cut zero (suc m) rest l = absurd (omega arith)
    cut (suc n) (suc m) rest l =
        let e : suc n - suc m ≡ n - m = omega arith in
        ap (λ x. 45 ∷ x) (cut n m rest (omega arith)) ∙ ap (λ k. 45 ∷ (dashes m ++ (dashes k ++ rest))) (sym e)

pub same_length : (a b r s : List ℕ) → length a ≡ length b → a ++ r ≡ b ++ s → (a ≡ b) × (r ≡ s)
same_length a b r s l e =
    (sym (take_at a r (length a) refl) ∙ (ap (λ x. take (length a) x) e ∙ take_at b s (length a) (sym l)), sym (drop_at a r (length a) refl) ∙ (ap (λ x. drop (length a) x) e ∙ drop_at b s (length a) (sym l)))

-- ---- Words

head_of : (w : List ℕ) → 0 < length w → (b : ℕ) × (rest : List ℕ) × (w ≡ b ∷ rest)
head_of [] p = absurd (omega arith)
head_of (b ∷ rest) p = (b, rest, refl)

last_of : (w : List ℕ) → 0 < length w → (prefix : List ℕ) × (b : ℕ) × (w ≡ prefix ++ b ∷ [])
last_of [] p = absurd (omega arith)
last_of (x ∷ []) p = ([], x, refl)
last_of (x ∷ y ∷ w) p = let l = last_of (y ∷ w) (omega arith) in (x ∷ l.0, l.1, ap (λ z. x ∷ z) l.2)

-- a word stands from `a` to `b`, and spaces and tabs around it
record WordAt (line : List ℕ) (a b : ℕ) : Type 0 where
  low : a < b
  high : b ≤ length line
  before : (i : ℕ) → i < a → is_horizontal (get_or line i 0) ≡ true
  first : is_horizontal (get_or line a 0) ≡ false
  last : is_horizontal (get_or line (b - 1) 0) ≡ false
  past : (i : ℕ) → b ≤ i → i < length line → is_horizontal (get_or line i 0) ≡ true

module _ (line : List ℕ) (at : Range ℕ) (h : HasWord line at) where
  sizes : length line ≡ length h.left + (length h.word + length h.right)
  sizes = ap length h.whole ∙ (length-append h.left (h.word ++ h.right) ∙ ap (λ k. length h.left + k) (length-append h.word h.right))

  in_word : (i : ℕ) → i < length h.word → get_or line (length h.left + i) 0 ≡ get_or h.word i 0
  in_word i l = ap (λ x. get_or x (length h.left + i) 0) h.whole ∙ (get_or-append-add h.left (h.word ++ h.right) i 0 ∙ get_or_append_left h.word h.right 0 i l)

  in_right : (i : ℕ) → get_or line (length h.left + (length h.word + i)) 0 ≡ get_or h.right i 0
  in_right i = ap (λ x. get_or x (length h.left + (length h.word + i)) 0) h.whole ∙ (get_or-append-add h.left (h.word ++ h.right) (length h.word + i) 0 ∙ get_or-append-add h.word h.right i 0)

  word_at : WordAt line (length h.left) (length h.left + length h.word)
  word_at =
      let first = head_of h.word h.some in
      let last = last_of h.word h.some in
      let size : length h.word ≡ length last.0 + 1 = ap length last.2 ∙ length-append last.0 (last.1 ∷ []) in
      let a : get_or line (length h.left) 0 ≡ first.0 = ap (λ k. get_or line k 0) (omega arith) ∙ (in_word 0 h.some ∙ ap (λ x. get_or x 0 0) first.2) in
      let b : get_or line (length h.left + length h.word - 1) 0 ≡ last.1 = ap (λ k. get_or line k 0) (omega arith) ∙ (in_word (length last.0) (omega arith) ∙ (ap (λ x. get_or x (length last.0) 0) last.2 ∙ get_or_at last.0 last.1 [] 0 (length last.0) refl)) in
      record {
        low = omega (arith, h.some);
        high = omega (arith, sizes);
        before = λ i l. subst (λ (x : ℕ). is_horizontal x ≡ true) (sym (ap (λ x. get_or x i 0) h.whole ∙ get_or_append_left h.left (h.word ++ h.right) 0 i l)) (h.left_blank i 0 l);
        first = subst (λ (x : ℕ). is_horizontal x ≡ false) (sym a) (h.first first.0 first.1 first.2);
        last = subst (λ (x : ℕ). is_horizontal x ≡ false) (sym b) (h.last last.0 last.1 last.2);
        past = λ i l m.
            let j = i - (length h.left + length h.word) in
            let e : length h.left + (length h.word + j) ≡ i = omega arith in
            subst (λ (x : ℕ). is_horizontal x ≡ true) (sym (ap (λ k. get_or line k 0) (sym e) ∙ in_right j)) (h.right_blank j 0 (omega (arith, sizes)));
      }

not_both : {b : Bool} → b ≡ true → b ≡ false → ⊥
not_both t f = let e = sym t ∙ f in cc

begins_no_later : (line : List ℕ) (a b a' b' : ℕ) → WordAt line a b → WordAt line a' b' → a' ≤ a
begins_no_later line a b a' b' h k = by_order (lt_or_le a a')
  where
    by_order : (a < a') ⊎ (a' ≤ a) → a' ≤ a
    by_order (inl l) = absurd (not_both (k.before a l) h.first)
    by_order (inr l) = l

ends_no_later : (line : List ℕ) (a b a' b' : ℕ) → WordAt line a b → WordAt line a' b' → b' ≤ b
ends_no_later line a b a' b' h k = by_order (lt_or_le b b')
  where
    by_order : (b < b') ⊎ (b' ≤ b) → b' ≤ b
    by_order (inl l) = let low = k.low in let high = k.high in absurd (not_both (h.past (b' - 1) (omega arith) (omega arith)) k.last)
    by_order (inr l) = l

pub word_once : (line : List ℕ) (r s : Range ℕ) → HasWord line r → HasWord line s → r ≡ s
word_once line r s h k =
    let a = word_at line r h in
    let b = word_at line s k in
    let p = begins_no_later line _ _ _ _ a b in
    let q = begins_no_later line _ _ _ _ b a in
    let u = ends_no_later line _ _ _ _ a b in
    let v = ends_no_later line _ _ _ _ b a in
    h.is ∙ (span_same _ _ _ _ (omega arith) (omega arith) ∙ sym k.is)

pub word_or_blank : (line : List ℕ) (r : Range ℕ) → HasWord line r → AllPass is_horizontal line → ⊥
word_or_blank line r h blank =
    let w = word_at line r h in
    let low = w.low in
    let high = w.high in
    not_both (blank (length h.left) 0 (omega arith)) w.first

pub finds_once : (line : List ℕ) (o p : Option (Range ℕ)) → FindsWord line o → FindsWord line p → o ≡ p
finds_once line None None h k = refl
finds_once line None (Some s) h k = absurd (word_or_blank line s k h)
finds_once line (Some r) None h k = absurd (word_or_blank line r h k)
finds_once line (Some r) (Some s) h k = ap (λ x. Some x) (word_once line r s h k)

-- a line of spaces and tabs begins with no dash
pub blank_no_dash : (text tail end content rest : List ℕ) → FirstLine text tail end content → AllPass is_horizontal tail → text ≢ 45 ∷ rest
blank_no_dash text tail end content rest h blank e = by_line h.ends (sym h.whole ∙ e) blank
  where
    by_line : {tail end content : List ℕ} → IsLineEnd tail end content → tail ++ (end ++ content) ≡ 45 ∷ rest → AllPass is_horizontal tail → ⊥
    by_line (with_return [] content) e blank = cc
    by_line (with_return (x ∷ tail) content) e blank = let f : x ≡ 45 = cc in not_both (blank 0 0 (omega arith)) (rw f refl)
    by_line (feed [] content n) e blank = cc
    by_line (feed (x ∷ tail) content n) e blank = let f : x ≡ 45 = cc in not_both (blank 0 0 (omega arith)) (rw f refl)
    by_line (text_end []) e blank = cc
    by_line (text_end (x ∷ tail)) e blank = let f : x ≡ 45 = cc in not_both (blank 0 0 (omega arith)) (rw f refl)
