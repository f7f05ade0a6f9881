-- The common tokens of a text by its bytes.
use Rattle.std.proofs.Common.{◌≡◌, ◌≢◌, ◌<◌, ◌≤◌, ◌-◌, ℕ, zero, suc, Bool, true, false, ◌&&◌, ◌||◌, ◌==◌, not, nat_lt, nat_le, List, [], ◌∷◌, ◌++◌, Option, Some, None, MatchOption, IfSome, if◌then◌else◌, length, drop, get_or, slice_range, chars, encode_utf8_all, IsUtf8, IsCharBoundary, refl, ap, sym, ◌∙◌, subst, inl, inr, arith, ltb-true, ltb-false, length-drop}
use Rattle.std.proofs.lemmas.Bool.{eq-eqb, and_parts, or_parts, lt-ltb, cond-true, cond-false, true≢false}
use Rattle.std.proofs.lemmas.Bool.Decides.{eqb_tells}
use Rattle.std.proofs.lemmas.Str.{chars-nil, chars_past_char, encode_ascii, encodes-chars, IsUtf8-drop, IsUtf8-past_char, IsCharBoundary-at_seam}
use Rattle.std.specs.Str.{byte}
use Rattle.rap_base.specs.TokenKind.{IDENT, STRING, WHITESPACE}
use Rattle.rap_base.specs.TokenTests.{IsTokenKind}
use Rattle.rap_base.specs.declared.edition.Edition.{Edition}
use Rattle.rap_lexer.specs.Class.{is_in, is_ascii_in}
use Rattle.rap_lexer.specs.Common.{is_contextual, is_lone, begins_white, ends_no_word, next_fits, is_uncommon, IsCommon}
use Rattle.rap_lexer.specs.First.{First, single_kind}
use Rattle.rap_lexer.specs.Lexeme.{plain}
use Rattle.rap_lexer.specs.Run.{next_is, next_in, tail, run_of, after_run}
use Rattle.rap_lexer.specs.Word.{IsWord, IsWordLike, ends_prefix, starts_raw, starts_raw_ident, starts_prefixed_raw, word_kind}
use Rattle.rap_lexer.specs.declared.lexer.run.Class.{Class}
use Rattle.rap_lexer.specs.declared.lexer.run.Class.TheVariants.{White, IdentStart, IdentContinue, Digit, Emoji}
use Rattle.rap_lexer.proofs.AsciiClasses.{starts, continues}
use Rattle.rap_lexer.proofs.AsciiRuns.{border, stopped}
use Rattle.rap_lexer.proofs.CommonClasses.{no_white, goes_on, no_rule, lone_no_white, lone_no_word, lone_no_string}
use Rattle.rap_lexer.proofs.LoneSigns.{single}
use Rattle.rap_lexer.proofs.Prefixes.{prefix_is}
use Rattle.rap_lexer.proofs.Runs.{after_drop, run_prefix}
use Rattle.rap_lexer.proofs.TokenKinds.{token_kind, word_no_string}
use Rattle.rap_lexer.proofs.WhiteEnds.{white_ends}

-- an ASCII byte is a character
pub chars_head : (b : ℕ) (t : List ℕ) → IsUtf8 (b ∷ t) → b < 128 → chars (b ∷ t) ≡ b ∷ chars t
chars_head b t u l = chars_past_char (b ∷ t) t b u (ap (λ x. x ++ t) (sym (encode_ascii b l)))

pub low : (class : Class) (b : ℕ) → is_ascii_in class b ≡ true → b < 128
low class b h = ltb-true b 128 (and_parts (nat_lt b 128) (is_in class b) h).0

pub within : (class : Class) (b : ℕ) → is_ascii_in class b ≡ true → is_in class b ≡ true
within class b h = (and_parts (nat_lt b 128) (is_in class b) h).1

pub without : (class : Class) (b : ℕ) → b < 128 → is_ascii_in class b ≡ false → is_in class b ≡ false
without class b l h = sym (ap (λ x. x && is_in class b) (lt-ltb b 128 l)) ∙ h

-- ---- What stands next

pub next_at : (p : ℕ → Bool) (xs : List ℕ) (n : ℕ) → n < length xs → next_fits p (drop n xs) ≡ p (get_or xs n 0)
next_at p [] n l = absurd (omega (arith, l))
next_at p (x ∷ xs) zero l = refl
next_at p (x ∷ xs) (suc n) l = next_at p xs n (omega (arith, l))

pub next_end : (p : ℕ → Bool) (xs : List ℕ) (n : ℕ) → length xs ≤ n → next_fits p (drop n xs) ≡ false
next_end p [] zero l = refl
next_end p [] (suc n) l = refl
next_end p (x ∷ xs) zero l = absurd (omega (arith, l))
next_end p (x ∷ xs) (suc n) l = next_end p xs n (omega (arith, l))

pub next_low : (xs : List ℕ) (n : ℕ) → next_fits (nat_lt 127) (drop n xs) ≡ false → get_or xs n 0 < 128
next_low [] zero h = omega arith
next_low [] (suc n) h = omega arith
next_low (x ∷ xs) zero h = omega (arith, ltb-false 127 x h)
next_low (x ∷ xs) (suc n) h = next_low xs n h

-- what ends no word is ASCII, no quote and no `#`
end_low : (xs : List ℕ) → next_fits ends_no_word xs ≡ false → next_fits (nat_lt 127) xs ≡ false
end_low [] h = refl
end_low (x ∷ xs) h = (or_parts (nat_lt 127 x) ((x == byte "\"") || ((x == byte "'") || (x == byte "#"))) h).0

pub no_past : (b : ℕ) → b < 128 → nat_le 128 b ≡ false
no_past b l = grind (arith, l)

after_word : (ds : List ℕ) → IsUtf8 ds → next_fits ends_no_word ds ≡ false → (ends_prefix (chars ds) ≡ false) × (next_in Emoji (chars ds) ≡ false)
after_word [] u h = rw chars-nil (refl, refl)
after_word (d ∷ es) u h =
    let parts = or_parts (nat_lt 127 d) ((d == byte "\"") || ((d == byte "'") || (d == byte "#"))) h in
    let quotes = or_parts (d == byte "\"") ((d == byte "'") || (d == byte "#")) parts.1 in
    let ticks = or_parts (d == byte "'") (d == byte "#") quotes.1 in
    let l : d < 128 = omega (arith, ltb-false 127 d parts.0) in
    rw (chars_head d es u l, ticks.1, quotes.0, ticks.0, no_past d l) (refl, refl)

-- ---- What is no common token

uncommon_white : (b : ℕ) (t : List ℕ) → is_ascii_in White b ≡ true → is_uncommon (b ∷ t) ≡ next_fits begins_white (after_run (is_ascii_in White) (b ∷ t))
uncommon_white b t w = cond-true (is_ascii_in White b) _ _ w

uncommon_word : (b : ℕ) (t : List ℕ) → is_ascii_in White b ≡ false → is_ascii_in IdentStart b ≡ true → is_uncommon (b ∷ t) ≡ next_fits ends_no_word (after_run (is_ascii_in IdentContinue) (b ∷ t))
uncommon_word b t w s = cond-false (is_ascii_in White b) _ _ w ∙ cond-true (is_ascii_in IdentStart b) _ _ s

uncommon_other : (b : ℕ) (t : List ℕ) → is_ascii_in White b ≡ false → is_ascii_in IdentStart b ≡ false → is_uncommon (b ∷ t) ≡ not (is_lone b)
uncommon_other b t w s = cond-false (is_ascii_in White b) _ _ w ∙ cond-false (is_ascii_in IdentStart b) _ _ s

-- what follows as many bytes as the run has
pub past_run : (class : Class) (p : ℕ → Bool) (text : List ℕ) (n : ℕ) → n ≡ length (run_of (is_ascii_in class) text) → next_fits p (after_run (is_ascii_in class) text) ≡ next_fits p (drop n text)
past_run class p text n e = ap (next_fits p) (sym (ap (λ i. drop i text) e ∙ after_drop (is_ascii_in class) text))

-- a run that begins has a length
pub some_run : (class : Class) (b n : ℕ) (t : List ℕ) → is_ascii_in class b ≡ true → n ≡ length (run_of (is_ascii_in class) (b ∷ t)) → 0 < n
some_run class b n t h e = omega (arith, e, ap (λ x. length (if x then b ∷ run_of (is_ascii_in class) t else [])) h)

-- ---- White space

white_no_string : WHITESPACE ≢ STRING
white_no_string e = true≢false (sym (ap (λ k. k == STRING) e))

white_rest : (b : ℕ) (t : List ℕ) → is_in White b ≡ true → chars (b ∷ t) ≡ b ∷ chars t → after_run (is_in White) (chars (b ∷ t)) ≡ after_run (is_in White) (chars t)
white_rest b t p head = ap (after_run (is_in White)) head ∙ cond-true (is_in White b) _ _ p

white_first : (edition : Edition) (b : ℕ) (cs rest : List ℕ) → is_in White b ≡ true → rest ≡ after_run (is_in White) cs → First edition (b ∷ cs) (plain WHITESPACE) rest
white_first edition b cs rest p e = rw p (refl, e)

pub white_uncommon : (text : List ℕ) (n : ℕ) → is_ascii_in White (get_or text 0 0) ≡ true → n ≡ length (run_of (is_ascii_in White) text) → next_fits begins_white (drop n text) ≡ true → is_uncommon text ≡ true
white_uncommon [] n w e h = cc
white_uncommon (b ∷ t) n w e h = uncommon_white b t w ∙ (past_run White begins_white (b ∷ t) n e ∙ h)

pub white_common : (edition : Edition) (text : List ℕ) (n : ℕ) → IsUtf8 text → is_ascii_in White (get_or text 0 0) ≡ true → n ≡ length (run_of (is_ascii_in White) text) → next_fits begins_white (drop n text) ≡ false → IsCommon edition text WHITESPACE n
white_common edition [] n u w e h = cc
white_common edition (b ∷ t) n u w e h =
    let p = within White b w in
    let head = chars_head b t u (low White b w) in
    let next : next_fits begins_white (after_run (is_ascii_in White) (b ∷ t)) ≡ false = past_run White begins_white (b ∷ t) n e ∙ h in
    let rest : chars (drop n (b ∷ t)) ≡ after_run (is_in White) (chars t) = ap (λ i. chars (drop i (b ∷ t))) e ∙ (white_ends (b ∷ t) u next ∙ white_rest b t p head) in
    record {
      token = subst (λ x. First edition x (plain WHITESPACE) (chars (drop n (b ∷ t)))) (sym head) (white_first edition b (chars t) _ p rest);
      no_string = white_no_string;
      positive = some_run White b n t w e;
      border = subst (λ i. IsCharBoundary (b ∷ t) i) (sym e) (border White (b ∷ t) u);
      common = uncommon_white b t w ∙ (past_run White begins_white (b ∷ t) n e ∙ h);
    }

-- ---- Words

-- a character that ends a run and does not follow it is not before it either
pub skipped : (p : ℕ → Bool) (x : ℕ) (cs : List ℕ) → p x ≡ false → next_is x (after_run p cs) ≡ false → next_is x cs ≡ false
skipped p x [] f h = refl
skipped p x (d ∷ ds) f h =
    elim (eqb_tells d x) [
      | inl e ↦ let stop : p d ≡ false = ap p e.1 ∙ f in let same : next_is x (d ∷ ds) ≡ false = rw stop at h in same
      | inr e ↦ e.0
    ]

abbrev continue : ℕ → Bool
continue = is_in IdentContinue

no_hash : continue (byte "#") ≡ false
no_hash = sym (continues (byte "#"))

no_quote : continue (byte "\"") ≡ false
no_quote = sym (continues (byte "\""))

no_tick : continue (byte "'") ≡ false
no_tick = sym (continues (byte "'"))

r_continues : continue (byte "r") ≡ true
r_continues = sym (continues (byte "r"))

module _ (edition : Edition) (c : ℕ) (cs : List ℕ) (prefix : ends_prefix (after_run continue cs) ≡ false) (emoji : next_in Emoji (after_run continue cs) ≡ false) where
  abbrev the_word : List ℕ
  the_word = encode_utf8_all (c ∷ run_of continue cs)

  -- the word alone
  plain_word : IsWord edition c cs (plain (word_kind edition the_word)) (after_run continue cs)
  plain_word = rw (prefix, emoji) (refl, refl)

parts_of : (cs : List ℕ) → ends_prefix (after_run continue cs) ≡ false → (next_is (byte "#") cs ≡ false) × ((next_is (byte "\"") cs ≡ false) × (next_is (byte "'") cs ≡ false))
parts_of cs h =
    let after = after_run continue cs in
    let a = or_parts (next_is (byte "#") after || next_is (byte "\"") after) (next_is (byte "'") after) h in
    let b = or_parts (next_is (byte "#") after) (next_is (byte "\"") after) a.0 in
    (skipped continue (byte "#") cs no_hash b.0, (skipped continue (byte "\"") cs no_quote b.1, skipped continue (byte "'") cs no_tick a.1))

no_raw : (cs : List ℕ) → ends_prefix (after_run continue cs) ≡ false → starts_raw cs ≡ false
no_raw cs h = let s = parts_of cs h in rw (s.1.0, s.0) refl

no_raw_ident : (cs : List ℕ) → ends_prefix (after_run continue cs) ≡ false → starts_raw_ident cs ≡ false
no_raw_ident cs h = ap (λ x. x && next_in IdentStart (tail cs)) (parts_of cs h).0

no_prefixed_raw : (cs : List ℕ) → ends_prefix (after_run continue cs) ≡ false → starts_prefixed_raw cs ≡ false
no_prefixed_raw [] h = refl
no_prefixed_raw (d ∷ ds) h =
    elim (eqb_tells d (byte "r")) [
      | inl e ↦ let goes : continue d ≡ true = ap continue e.1 ∙ r_continues in rw (e.0, no_raw ds (rw goes at h)) refl
      | inr e ↦ rw e.0 refl
    ]

word_like : (edition : Edition) (c : ℕ) (cs : List ℕ) → ends_prefix (after_run continue cs) ≡ false → next_in Emoji (after_run continue cs) ≡ false
    → IsWordLike edition c cs (plain (word_kind edition (encode_utf8_all (c ∷ run_of continue cs)))) (after_run continue cs)
word_like edition c cs h e =
    let w = plain_word edition c cs h e in
    let s = parts_of cs h in
    elim (eqb_tells c (byte "r")) [
      | inl r ↦ let v = subst (λ x. IsWord edition x cs (plain (word_kind edition (encode_utf8_all (c ∷ run_of continue cs)))) (after_run continue cs)) r.1 w in rw (r.0, no_raw_ident cs h, no_raw cs h) v
      | inr r ↦ elim (eqb_tells c (byte "b")) [
        | inl b ↦ let v = subst (λ x. IsWord edition x cs (plain (word_kind edition (encode_utf8_all (c ∷ run_of continue cs)))) (after_run continue cs)) b.1 w in rw (r.0, b.0, s.1.1, s.1.0, no_prefixed_raw cs h) v
        | inr b ↦ elim (eqb_tells c (byte "c")) [
          | inl k ↦ let v = subst (λ x. IsWord edition x cs (plain (word_kind edition (encode_utf8_all (c ∷ run_of continue cs)))) (after_run continue cs)) k.1 w in rw (r.0, b.0, k.0, s.1.0, no_prefixed_raw cs h) v
          | inr k ↦ rw (r.0, b.0, k.0) w
        ]
      ]
    ]

no_first : is_ascii_in IdentStart 0 ≢ true
no_first s = true≢false (sym s ∙ sym (starts 0))

word_rest : (b : ℕ) (t : List ℕ) → continue b ≡ true → chars (b ∷ t) ≡ b ∷ chars t → after_run continue (chars (b ∷ t)) ≡ after_run continue (chars t)
word_rest b t p head = ap (after_run continue) head ∙ cond-true (continue b) _ _ p

word_first : (edition : Edition) (b kind : ℕ) (cs rest : List ℕ) → is_in White b ≡ false → is_in IdentStart b ≡ true → IsWordLike edition b cs (plain kind) rest → First edition (b ∷ cs) (plain kind) rest
word_first edition b kind cs rest w s h = rw (w, s) h

pub word_uncommon : (text : List ℕ) (n : ℕ) → is_ascii_in IdentStart (get_or text 0 0) ≡ true → n ≡ length (run_of (is_ascii_in IdentContinue) text) → next_fits ends_no_word (drop n text) ≡ true → is_uncommon text ≡ true
word_uncommon [] n s e h = absurd (no_first s)
word_uncommon (b ∷ t) n s e h = uncommon_word b t (no_white b (omega (arith, low IdentStart b s)) s) s ∙ (past_run IdentContinue ends_no_word (b ∷ t) n e ∙ h)

pub word_common : (edition : Edition) (text word : List ℕ) (n kind : ℕ) → IsUtf8 text → is_ascii_in IdentStart (get_or text 0 0) ≡ true → n ≡ length (run_of (is_ascii_in IdentContinue) text) → n ≤ length text → next_fits ends_no_word (drop n text) ≡ false
    → word ≡ slice_range text 0 n → kind ≡ word_kind edition word → IsCommon edition text kind n
word_common edition [] word n kind u s e m h v k = absurd (no_first s)
word_common edition (b ∷ t) word n kind u s e m h v k =
    let text = b ∷ t in
    let cs = chars t in
    let l = low IdentStart b s in
    let w = no_white b (omega (arith, l)) s in
    let c = goes_on b (omega (arith, l)) s in
    let p : continue b ≡ true = within IdentContinue b c in
    let head : chars text ≡ b ∷ cs = chars_head b t u l in
    let edge : IsCharBoundary text n = subst (λ i. IsCharBoundary text i) (sym e) (border IdentContinue text u) in
    let next : get_or text (length (run_of (is_ascii_in IdentContinue) text)) 0 < 128 = subst (λ i. get_or text i 0 < 128) e (next_low text n (end_low (drop n text) h)) in
    let rest : chars (drop n text) ≡ after_run continue cs = ap (λ i. chars (drop i text)) e ∙ (stopped IdentContinue text u next ∙ word_rest b t p head) in
    let out = IsUtf8-drop text n u edge in
    let ends = after_word (drop n text) out h in
    let left : drop n text ≡ encode_utf8_all (after_run continue cs) = sym (encodes-chars (drop n text) out) ∙ ap encode_utf8_all rest in
    let join : chars text ≡ (b ∷ run_of continue cs) ++ after_run continue cs = head ∙ run_prefix continue b cs (after_run continue cs) refl in
    let size : length text - length (drop n text) ≡ n = omega (arith, length-drop n text, m) in
    let spelt : slice_range text 0 n ≡ encode_utf8_all (b ∷ run_of continue cs) = subst (λ i. slice_range text 0 i ≡ encode_utf8_all (b ∷ run_of continue cs)) size (prefix_is text (drop n text) (b ∷ run_of continue cs) (after_run continue cs) u join left) in
    let is : kind ≡ word_kind edition (encode_utf8_all (b ∷ run_of continue cs)) = k ∙ ap (word_kind edition) (v ∙ spelt) in
    let like = word_like edition b cs (sym (ap ends_prefix rest) ∙ ends.0) (sym (ap (next_in Emoji) rest) ∙ ends.1) in
    let first = word_first edition b kind cs (chars (drop n text)) (without White b l w) (within IdentStart b s) (subst (λ x. IsWordLike edition b cs (plain kind) x) (sym rest) (subst (λ x. IsWordLike edition b cs (plain x) (after_run continue cs)) (sym is) like)) in
    record {
      token = subst (λ x. First edition x (plain kind) (chars (drop n text))) (sym head) first;
      no_string = λ x. word_no_string edition word (sym k ∙ x);
      positive = some_run IdentContinue b n t c e;
      border = edge;
      common = uncommon_word b t w s ∙ (past_run IdentContinue ends_no_word text n e ∙ h);
    }

-- ---- Characters that are tokens of their own

is_no : (x : Bool) → not x ≡ true → x ≡ false
is_no true e = cc
is_no false e = refl

no_string : (b kind : ℕ) → kind ≡ single_kind b → (single_kind b == STRING) ≡ false → kind ≢ STRING
no_string b kind k h x = true≢false (sym (ap (λ y. y == STRING) (sym k ∙ x)) ∙ h)

pub lone_common : (edition : Edition) (text : List ℕ) (kind : ℕ) → IsUtf8 text → 0 < length text → is_lone (get_or text 0 0) ≡ true → kind ≡ single_kind (get_or text 0 0) → IsCommon edition text kind 1
lone_common edition [] kind u some h k = absurd (omega (arith, some))
lone_common edition (b ∷ t) kind u some h k =
    let l = ltb-true b 128 (and_parts (nat_lt b 128) _ h).0 in
    let m : b < 256 = omega (arith, l) in
    let w = lone_no_white b m h in
    let s = lone_no_word b m h in
    let digit = and_parts _ _ (no_rule b m h) in
    let slash = and_parts _ _ digit.1 in
    let tick = and_parts _ _ slash.1 in
    let quote = and_parts _ _ tick.1 in
    let seam : b ∷ t ≡ (b ∷ []) ++ t = refl in
    let v : IsUtf8 t = IsUtf8-past_char (b ∷ t) t b u (ap (λ x. x ++ t) (sym (encode_ascii b l))) in
    record {
      token = rw (chars_head b t u l) (single b kind (without White b l w) (without IdentStart b l s) (without Digit b l (is_no _ digit.0)) (is_no _ slash.0) (is_no _ tick.0) (is_no _ quote.0) (is_no _ quote.1) (no_past b l) k edition (chars t));
      no_string = no_string b kind k (lone_no_string b m h);
      positive = omega arith;
      border = IsCharBoundary-at_seam (b ∷ t) (b ∷ []) t seam v;
      common = uncommon_other b t w s ∙ ap not h;
    }

-- white space before an ASCII byte that is none
white_alone : (edition : Edition) (b d : ℕ) (t : List ℕ) → IsUtf8 (b ∷ d ∷ t) → is_ascii_in White b ≡ true → (is_ascii_in White d || begins_white d) ≡ false → IsCommon edition (b ∷ d ∷ t) WHITESPACE 1
white_alone edition b d t u w h =
    let parts = or_parts (is_ascii_in White d) (begins_white d) h in
    let run : length (run_of (is_ascii_in White) (b ∷ d ∷ t)) ≡ 1 = ap (λ x. length (if x then b ∷ run_of (is_ascii_in White) (d ∷ t) else [])) w ∙ ap (λ x. length (b ∷ (if x then d ∷ run_of (is_ascii_in White) t else []))) parts.0 in
    white_common edition (b ∷ d ∷ t) 1 u w (sym run) parts.1

-- a byte that is a common token before another one, by its class
pub alone_common : (edition : Edition) (text : List ℕ) (class last : ℕ) → IsUtf8 text → 1 < length text
    → nat_lt class 151 ≡ is_lone (get_or text 0 0) → (class < 151 → class ≡ single_kind (get_or text 0 0)) → (class == 151) ≡ is_ascii_in White (get_or text 0 0)
    → last ≡ (if is_ascii_in White (get_or text 1 0) || begins_white (get_or text 1 0) then 150 else 151) → class ≤ last → IsCommon edition text class 1
alone_common edition [] class last u some lone kind white ends test = absurd (omega (arith, some))
alone_common edition (b ∷ []) class last u some lone kind white ends test = absurd (omega (arith, some))
alone_common edition (b ∷ d ∷ t) class last u some lone kind white ends test =
    (elim (nat_lt class 151) as (λ z. nat_lt class 151 ≡ z → IsCommon edition (b ∷ d ∷ t) class 1) [
      | true ↦ λ e. lone_common edition (b ∷ d ∷ t) class u (omega (arith, some)) (sym lone ∙ e) (kind (ltb-true class 151 e))
      | false ↦ λ e.
          let joins = is_ascii_in White d || begins_white d in
          let least = ltb-false class 151 e in
          let none : joins ≡ false = (elim joins as (λ z. joins ≡ z → z ≡ false) [
            | true ↦ λ j. absurd (omega (arith, test, least, ends ∙ ap (λ x. if x then 150 else 151) j))
            | false ↦ λ j. refl
          ]) refl in
          let is : class ≡ 151 = omega (arith, test, least, ends ∙ ap (λ x. if x then 150 else 151) none) in
          subst (λ k. IsCommon edition (b ∷ d ∷ t) k 1) (sym is) (white_alone edition b d t u (sym white ∙ eq-eqb class 151 is) none)
    ]) refl

pub other_uncommon : (text : List ℕ) → is_ascii_in White (get_or text 0 0) ≡ false → is_ascii_in IdentStart (get_or text 0 0) ≡ false → is_lone (get_or text 0 0) ≡ false → is_uncommon text ≡ true
other_uncommon [] w s h = refl
other_uncommon (b ∷ t) w s h = uncommon_other b t w s ∙ ap not h

-- ---- What the parts say, of the whole

module _ {A : Type 0} (P : Type 0) (Q R : A → Type 0) where
  pub if_some : (o : Option A) → ((r : A) → Q r → R r) → MatchOption o P Q → IfSome o R
  if_some None f h = tt
  if_some (Some r) f h = f r h

  pub match_some : (o : Option A) → ((r : A) → Q r → R r) → MatchOption o P Q → MatchOption o P R
  match_some None f h = h
  match_some (Some r) f h = f r h

pub common_kind : (edition : Edition) (text : List ℕ) (kind n : ℕ) → IsCommon edition text kind n → IsTokenKind kind
common_kind edition text kind n h = token_kind edition (chars text) (plain kind) (chars (drop n text)) h.token

-- a lone character is no word
pub lone_plain : (kind class : ℕ) (word : List ℕ) → kind ≡ class → class < 29 → is_contextual kind word ≡ false
lone_plain kind class word e l = let other : (kind == IDENT) ≡ false = grind (arith, e, l) in rw other refl
