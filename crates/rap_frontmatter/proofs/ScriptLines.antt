-- where lines, dashes and words of a text stand
use Rattle.std.proofs.Common.{◌≡◌, ◌≢◌, ℕ, Bool, true, false, not, eqb, List, [], ◌∷◌, ◌++◌, ◌+◌, ◌-◌, ◌<◌, ◌≤◌, length, take, drop, get_or, Some, None, position, reverse, ◌⊎◌, inl, inr, refl, ap, sym, ◌∙◌, subst, arith}
use Rattle.std.specs.List.{AllPass, prefix_len, suffix_len, position_or_len}
use Rattle.std.proofs.lemmas.List.{append-nil, take-append-drop, drop_more, get_or-take, get_or_default, length-take-le, get_or_at, length-append, length-drop, get_or-replicate, length-replicate, get_or-drop, get_or-reverse, length-reverse, drop-drop}
use Rattle.std.proofs.lemmas.List.Prefix.{front_from_reads}
use Rattle.std.proofs.lemmas.List.Quantifiers.{position-Some}
use Rattle.std.proofs.lemmas.List.Sums.{prefix_len_passes, prefix_len_stops, prefix_len-le-length}
use Rattle.std.proofs.lemmas.Bool.Decides.{nat_tests, leb_tells}
use Rattle.rap_frontmatter.specs.Script.{dashes, NoDash, NoLineFeed, HasLine, HasWord, is_horizontal, span}
use Rattle.rap_frontmatter.specs.Script.IsLineEnd.{with_return, feed, text_end}

-- the first line feed of the text stands at the place
pub record FirstFeed (text : List ℕ) (k : ℕ) : Type 0 where
  pub inside : k < length text
  pub is : get_or text k 0 ≡ 10
  pub none : (i : ℕ) → i < k → get_or text i 0 ≢ 10

pub first_feed : (text : List ℕ) (k : ℕ) → position (λ b. eqb b 10) text ≡ Some k → FirstFeed text k
first_feed text k e =
    let h = position-Some (λ (b : ℕ). eqb b 10) text k 0 e in
    record { inside = h.0; is = grind (arith, nat_tests); none = λ i l. let f = h.2 i l in grind (arith, nat_tests) }

no_position : (p : ℕ → Bool) (text : List ℕ) → position p text ≡ None → length text ≤ position_or_len p text
no_position p text e = grind (arith, nat_tests)

pub no_feed : (text : List ℕ) → position (λ b. eqb b 10) text ≡ None → NoLineFeed text
no_feed text e k d l f =
    let h = no_position (λ (b : ℕ). eqb b 10) text e in
    let p : not (eqb (get_or text k d) 10) ≡ true = prefix_len_passes (λ (b : ℕ). not (eqb b 10)) text k d (omega arith) in
    grind (arith, nat_tests)

no_feed_before : (text : List ℕ) (k n : ℕ) → FirstFeed text k → n ≤ k → NoLineFeed (take n text)
no_feed_before text k n h m i d l f =
    let size : length (take n text) ≡ n = length-take-le n text (omega arith) in
    let a : i < n = omega arith in
    let b : get_or (take n text) i d ≡ get_or text i d = get_or-take n text i d a in
    let c : get_or text i d ≡ get_or text i 0 = get_or_default text i d 0 (omega arith) in
    h.none i (omega arith) (sym c ∙ (sym b ∙ f))

pub line_whole : (text : List ℕ) → NoLineFeed text → HasLine text (length text) (length text)
line_whole text h =
    record {
      line = text;
      end = [];
      rest = [];
      first = record { whole = sym (append-nil text); one = h; ends = text_end text };
      size = refl;
      after = omega arith;
    }

around_feed : (text : List ℕ) (k : ℕ) → FirstFeed text k → drop k text ≡ 10 ∷ drop (k + 1) text
around_feed text k h = drop_more text k 0 h.inside ∙ ap (λ x. x ∷ drop (k + 1) text) h.is

no_return : (text : List ℕ) (k : ℕ) → k ≤ length text → (0 < k → get_or text (k - 1) 0 ≢ 13) → (prefix : List ℕ) → take k text ≢ prefix ++ 13 ∷ []
no_return text k inside bare prefix e =
    let size : length prefix + 1 ≡ k = omega (arith, ap length e, length-take-le k text inside, length-append prefix (13 ∷ [])) in
    let last : get_or (take k text) (k - 1) 0 ≡ 13 = ap (λ l. get_or l (k - 1) 0) e ∙ get_or_at prefix 13 [] 0 (k - 1) (omega arith) in
    bare (omega arith) (sym (get_or-take k text (k - 1) 0 (omega arith)) ∙ last)

pub line_before_feed : (text : List ℕ) (k : ℕ) → FirstFeed text k → (0 < k → get_or text (k - 1) 0 ≢ 13) → HasLine text k (k + 1)
line_before_feed text k h bare =
    let size : length (take k text) ≡ k = length-take-le k text (omega arith) in
    record {
      line = take k text;
      end = 10 ∷ [];
      rest = drop (k + 1) text;
      first = record {
        whole = sym (take-append-drop k text) ∙ ap (λ x. take k text ++ x) (around_feed text k h);
        one = no_feed_before text k k h (omega arith);
        ends = feed (take k text) (drop (k + 1) text) (no_return text k (omega arith) bare);
      };
      size = sym size;
      after = omega arith;
    }

pub line_before_return : (text : List ℕ) (k : ℕ) → FirstFeed text k → 0 < k → get_or text (k - 1) 0 ≡ 13 → HasLine text (k - 1) (k + 1)
line_before_return text k h pos is =
    let size : length (take (k - 1) text) ≡ k - 1 = length-take-le (k - 1) text (omega arith) in
    let next : drop (k - 1) text ≡ 13 ∷ drop k text = drop_more text (k - 1) 0 (omega arith) ∙ ap (λ x. x ∷ drop (k - 1 + 1) text) is ∙ ap (λ j. 13 ∷ drop j text) (omega arith) in
    record {
      line = take (k - 1) text;
      end = 13 ∷ 10 ∷ [];
      rest = drop (k + 1) text;
      first = record {
        whole = sym (take-append-drop (k - 1) text) ∙ ap (λ x. take (k - 1) text ++ x) (next ∙ ap (λ x. 13 ∷ x) (around_feed text k h));
        one = no_feed_before text k (k - 1) h (omega arith);
        ends = with_return (take (k - 1) text) (drop (k + 1) text);
      };
      size = sym size;
      after = omega arith;
    }

-- the text is the dashes that it begins with, and a rest that begins with none
pub record StartsWithDashes (text : List ℕ) (n : ℕ) : Type 0 where
  pub inside : n ≤ length text
  pub split : text ≡ dashes n ++ drop n text
  pub no_more : NoDash (drop n text)

no_dash_at : (text : List ℕ) (n : ℕ) → n ≡ prefix_len (λ b. eqb b 45) text → n < length text → get_or text n 0 ≢ 45
no_dash_at text n e more is =
    let stops : eqb (get_or text n 0) 45 ≡ false = rw e (prefix_len_stops (λ (b : ℕ). eqb b 45) text 0 (omega arith)) in
    absurd (grind (arith, nat_tests))

pub get_or-drop_zero : (n : ℕ) (xs : List ℕ) → get_or (drop n xs) 0 0 ≡ get_or xs n 0
get_or-drop_zero n xs = get_or-drop n xs 0 0 ∙ ap (λ j. get_or xs j 0) (omega arith)

dash_at : (text : List ℕ) (i : ℕ) → i < prefix_len (λ b. eqb b 45) text → get_or text i 0 ≡ 45
dash_at text i l = let p : eqb (get_or text i 0) 45 ≡ true = prefix_len_passes (λ (b : ℕ). eqb b 45) text i 0 l in grind (arith, nat_tests)

-- dashes that are read one by one stand there as one part
pub dashes_prefix : (text : List ℕ) (n : ℕ) → n ≤ length text → ((i : ℕ) → i < n → get_or text i 0 ≡ 45) → text ≡ dashes n ++ drop n text
dashes_prefix text n inside each =
    let size : length (dashes n) ≡ n = length-replicate n 45 in
    front_from_reads 0 text (dashes n) (omega arith) (λ i l. each i (omega arith) ∙ sym (get_or-replicate n i 45 0 (omega arith))) ∙ ap (λ m. dashes n ++ drop m text) size

pub starts_with_dashes : (text : List ℕ) (n : ℕ) → n ≡ prefix_len (λ b. eqb b 45) text → StartsWithDashes text n
starts_with_dashes text n e =
    let inside : n ≤ length text = omega (arith, prefix_len-le-length (λ (b : ℕ). eqb b 45) text) in
    record {
      inside = inside;
      split = dashes_prefix text n inside (λ i l. dash_at text i (omega arith));
      no_more = λ rest f. no_dash_at text n e (omega (arith, ap length f, length-drop n text)) (sym (get_or-drop_zero n text) ∙ ap (λ l. get_or l 0 0) f);
    }

-- ---- words

not_both : {b : Bool} → b ≡ true → b ≡ false → ⊥
not_both t f = let e = sym t ∙ f in cc

pub lt_or_le : (a b : ℕ) → (a < b) ⊎ (b ≤ a)
lt_or_le a b = elim (leb_tells b a) [ inl h ↦ inr h.1 | inr h ↦ inl h.1 ]

pub three_parts : (xs : List ℕ) (a b : ℕ) → a ≤ b → b ≤ length xs → xs ≡ take a xs ++ (take (b - a) (drop a xs) ++ drop b xs)
three_parts xs a b low high =
    let tail : drop (b - a) (drop a xs) ≡ drop b xs = drop-drop (b - a) a xs ∙ ap (λ j. drop j xs) (omega arith) in
    let middle : drop a xs ≡ take (b - a) (drop a xs) ++ drop b xs = sym (take-append-drop (b - a) (drop a xs)) ∙ ap (λ l. take (b - a) (drop a xs) ++ l) tail in
    sym (take-append-drop a xs) ∙ ap (λ l. take a xs ++ l) middle

module _ (p : ℕ → Bool) (xs : List ℕ) where
  passes_before : (k d : ℕ) → k < prefix_len p xs → p (get_or xs k d) ≡ true
  passes_before k d l = prefix_len_passes p xs k d l

  passes_after : (k d : ℕ) → length xs - suffix_len p xs ≤ k → k < length xs → p (get_or xs k d) ≡ true
  passes_after k d low high =
      let j = length xs - 1 - k in
      let back : length xs - 1 - j ≡ k = omega arith in
      let turned : get_or (reverse xs) j d ≡ get_or xs k d = get_or-reverse xs j d (omega arith) ∙ ap (λ i. get_or xs i d) back in
      subst (λ (x : ℕ). p x ≡ true) turned (prefix_len_passes p (reverse xs) j d (omega arith))

  fails_last : (d : ℕ) → suffix_len p xs < length xs → p (get_or xs (length xs - suffix_len p xs - 1) d) ≡ false
  fails_last d some =
      let n = suffix_len p xs in
      let place : length xs - 1 - n ≡ length xs - n - 1 = omega arith in
      let turned : get_or (reverse xs) n d ≡ get_or xs (length xs - n - 1) d = get_or-reverse xs n d some ∙ ap (λ i. get_or xs i d) place in
      subst (λ (x : ℕ). p x ≡ false) turned (prefix_len_stops p (reverse xs) d (omega (arith, length-reverse xs)))

  fails_first : (d : ℕ) → prefix_len p xs < length xs → p (get_or xs (prefix_len p xs) d) ≡ false
  fails_first d some = prefix_len_stops p xs d some

  in_order : prefix_len p xs < length xs → (prefix_len p xs < length xs - suffix_len p xs) ⊎ (length xs - suffix_len p xs ≤ prefix_len p xs) → prefix_len p xs < length xs - suffix_len p xs
  in_order some (inl h) = h
  in_order some (inr h) = absurd (not_both (passes_after (prefix_len p xs) 0 h some) (fails_first 0 some))

  -- the first element that fails stands no later than the last one
  pub first_before_last : prefix_len p xs < length xs → prefix_len p xs < length xs - suffix_len p xs
  first_before_last some = in_order some (lt_or_le (prefix_len p xs) (length xs - suffix_len p xs))

pub all_blank : (line : List ℕ) → prefix_len is_horizontal line ≡ length line → AllPass is_horizontal line
all_blank line e k d l = prefix_len_passes is_horizontal line k d (omega arith)

-- what is read from a part of a text is read from the text
read_part : (xs : List ℕ) (a b i d : ℕ) → i < b - a → get_or (take (b - a) (drop a xs)) i d ≡ get_or xs (a + i) d
read_part xs a b i d l = get_or-take (b - a) (drop a xs) i d l ∙ get_or-drop a xs i d

-- the line from `start` to `end`
abbrev word : List ℕ → ℕ → ℕ → List ℕ
word line start end = take (end - start) (drop start line)

module _ (line : List ℕ) (start end : ℕ) (low : start < end) (high : end ≤ length line) where
  word_size : length (word line start end) ≡ end - start
  word_size = length-take-le (end - start) (drop start line) (omega (arith, length-drop start line))

  first_read : (b : ℕ) (rest : List ℕ) → word line start end ≡ b ∷ rest → get_or line start 0 ≡ b
  first_read b rest e =
      let at : get_or (word line start end) 0 0 ≡ get_or line (start + 0) 0 = read_part line start end 0 0 (omega arith) in
      ap (λ j. get_or line j 0) (omega arith) ∙ (sym at ∙ ap (λ l. get_or l 0 0) e)

  last_read : (prefix : List ℕ) (b : ℕ) → word line start end ≡ prefix ++ b ∷ [] → get_or line (end - 1) 0 ≡ b
  last_read prefix b e =
      let size : length prefix + 1 ≡ end - start = omega (arith, word_size, ap length e, length-append prefix (b ∷ [])) in
      let at : get_or (word line start end) (length prefix) 0 ≡ get_or line (start + length prefix) 0 = read_part line start end (length prefix) 0 (omega arith) in
      ap (λ j. get_or line j 0) (omega arith) ∙ (sym at ∙ (ap (λ l. get_or l (length prefix) 0) e ∙ get_or_at prefix b [] 0 (length prefix) refl))

pub span_from_ends : (a b at len : ℕ) → a ≡ at → b ≡ at + len → record { start = a; end = b } ≡ span at len
span_from_ends a b at len e f = rw (e, f)

pub has_word : (line : List ℕ) (start end : ℕ) → start ≡ prefix_len is_horizontal line → start < length line → end ≡ length line - suffix_len is_horizontal line → HasWord line (record { start = start; end = end })
has_word line start end s some e =
    let low : start < end = omega (arith, first_before_last is_horizontal line (omega arith)) in
    let high : end ≤ length line = omega arith in
    let size : length (take start line) ≡ start = length-take-le start line (omega arith) in
    let fails_at_start : is_horizontal (get_or line start 0) ≡ false = subst (λ (j : ℕ). is_horizontal (get_or line j 0) ≡ false) (sym s) (fails_first is_horizontal line 0 (omega arith)) in
    let fails_at_end : is_horizontal (get_or line (end - 1) 0) ≡ false = subst (λ (j : ℕ). is_horizontal (get_or line (j - 1) 0) ≡ false) (sym e) (fails_last is_horizontal line 0 (omega arith)) in
    record {
      left = take start line;
      word = word line start end;
      right = drop end line;
      whole = three_parts line start end (omega arith) high;
      left_blank = λ k d l. subst (λ (b : ℕ). is_horizontal b ≡ true) (sym (get_or-take start line k d (omega arith))) (passes_before is_horizontal line k d (omega arith));
      right_blank = λ k d l. subst (λ (b : ℕ). is_horizontal b ≡ true) (sym (get_or-drop end line k d)) (passes_after is_horizontal line (end + k) d (omega arith) (omega (arith, length-drop end line)));
      some = omega (arith, word_size line start end low high);
      first = λ b rest f. subst (λ (x : ℕ). is_horizontal x ≡ false) (first_read line start end low high b rest f) fails_at_start;
      last = λ prefix b f. subst (λ (x : ℕ). is_horizontal x ≡ false) (last_read line start end low high prefix b f) fails_at_end;
      is = span_from_ends start end (length (take start line)) (length (word line start end)) (sym size) (omega (arith, word_size line start end low high));
    }
