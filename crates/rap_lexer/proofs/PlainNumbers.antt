-- Plain numbers by their bytes.
use Rattle.std.proofs.Common.{◌≡◌, ◌≢◌, ◌<◌, ◌≤◌, ◌+◌, ℕ, Bool, true, false, ◌&&◌, ◌||◌, ◌==◌, not, nat_lt, List, [], ◌∷◌, MatchBool, Some, None, if◌then◌else◌, length, length-drop, drop, chars, IsUtf8, refl, ap, sym, ◌∙◌, subst, inl, inr, arith, ltb-false}
use Rattle.std.proofs.lemmas.Bool.{and_parts, or_parts, true≢false, cond-true, cond-false, eqb-true, lt-ltb, ltb-true}
use Rattle.std.proofs.lemmas.Bool.Decides.{eqb_tells}
use Rattle.std.proofs.lemmas.List.{drop-drop}
use Rattle.std.proofs.lemmas.Str.{chars-nil, IsUtf8-drop, IsCharBoundary-from_drop}
use Rattle.std.proofs.lemmas.Str.Ascii.{IsAscii-nil, IsAscii-cons}
use Rattle.std.specs.Str.{byte}
use Rattle.rap_base.specs.TokenKind.{FLOAT_NUMBER, INT_NUMBER, STRING}
use Rattle.rap_base.specs.declared.edition.Edition.{Edition}
use Rattle.rap_lexer.specs.Class.{is_in, is_ascii_in}
use Rattle.rap_lexer.specs.Common.{is_contextual, next_fits}
use Rattle.rap_lexer.specs.First.{First}
use Rattle.rap_lexer.specs.Lexeme.{plain}
use Rattle.rap_lexer.specs.Number.{after_sign, base_of, has_digit, starts_exponent, IsBased, IsExponent, IsFraction, IsNumber, IsPastDigits}
use Rattle.rap_lexer.specs.Plain.{begins_suffix, has_plain_suffix, after_plain_suffix, has_plain_power, after_plain_power, has_plain_exponent, after_plain_exponent, has_plain_end, after_plain_end, kind_with_end, ends_before_dot, has_plain_fraction, after_plain_fraction, is_plain_past_digits, after_past_digits, kind_past_digits, is_based, is_digit_of, has_plain_digits, after_plain_digits, IsPlainNumber, Leaves}
use Rattle.rap_lexer.specs.Run.{next_is, next_in, tail, run_of, after_run, after_suffix}
use Rattle.rap_base.specs.declared.edition.Edition.TheVariants.{Edition2024}
use Rattle.rap_lexer.specs.declared.lexer.lexeme.Lexeme.{Lexeme}
use Rattle.rap_lexer.specs.declared.lexer.run.Class.{Class}
use Rattle.rap_lexer.specs.declared.lexer.run.Class.TheVariants.{White, IdentStart, IdentContinue, Digit, DigitOrUnderscore, HexOrUnderscore}
use Rattle.rap_lexer.proofs.AsciiClasses.{starts}
use Rattle.rap_lexer.proofs.AsciiRuns.{border, stopped, utf8_rest}
use Rattle.rap_lexer.proofs.CommonClasses.{digit_no_white, digit_no_word, digit_goes_on, goes_on}
use Rattle.rap_lexer.proofs.CommonTokens.{chars_head, low, within, without, next_low, past_run}
use Rattle.rap_lexer.proofs.Runs.{after_drop}
use Rattle.rap_lexer.proofs.TokenKinds.{token_kind}

-- ---- What is left

-- as many bytes more
pub leaves_more : (bs past rest : List ℕ) (n m : ℕ) → Leaves bs n past → Leaves past m rest → Leaves bs (n + m) rest
leaves_more bs past rest n m a b =
    record {
      within = omega (arith, a.within, b.within, length-drop n bs, ap length a.left);
      left = sym (drop-drop m n bs) ∙ (ap (drop m) a.left ∙ b.left);
    }

-- what a run leaves
pub run_rest : (class : Class) (bs : List ℕ) (n : ℕ) → n ≡ length (run_of (is_ascii_in class) bs) → drop n bs ≡ after_run (is_ascii_in class) bs
run_rest class bs n e = ap (λ i. drop i bs) e ∙ after_drop (is_ascii_in class) bs

pub run_leaves : (class : Class) (bs : List ℕ) (n : ℕ) → n ≡ length (run_of (is_ascii_in class) bs) → n ≤ length bs → Leaves bs n (after_run (is_ascii_in class) bs)
run_leaves class bs n e w = record { within = w; left = run_rest class bs n e }

-- the same behind a base prefix
pub run_behind : (class : Class) (bs : List ℕ) (n : ℕ) → 2 ≤ length bs → n ≡ length (run_of (is_ascii_in class) (drop 2 bs)) → n ≤ length (drop 2 bs) → Leaves bs (2 + n) (after_run (is_ascii_in class) (drop 2 bs))
run_behind class bs n l e w = leaves_more bs (drop 2 bs) (after_run (is_ascii_in class) (drop 2 bs)) 2 n (record { within = l; left = refl }) (run_leaves class (drop 2 bs) n e w)

-- a suffix by the byte past its run
pub suffix_tells : (bs : List ℕ) (n : ℕ) (r : Bool) → next_fits begins_suffix bs ≡ true → n ≡ length (run_of (is_ascii_in IdentContinue) bs) → next_fits (nat_lt 127) (drop n bs) ≡ r → has_plain_suffix bs ≡ not r
suffix_tells bs n r s e h = let next : next_fits (nat_lt 127) (after_run (is_ascii_in IdentContinue) bs) ≡ r = past_run IdentContinue (nat_lt 127) bs n e ∙ h in rw (s, next) refl

pub suffix_leaves : (bs : List ℕ) (n : ℕ) → next_fits begins_suffix bs ≡ true → n ≡ length (run_of (is_ascii_in IdentContinue) bs) → n ≤ length bs → Leaves bs n (after_plain_suffix bs)
suffix_leaves bs n s e w = rw s (run_leaves IdentContinue bs n e w)

-- ---- What begins no suffix

-- a suffix that begins past ASCII
pub past_first : (bs : List ℕ) → next_fits begins_suffix bs ≡ true → next_fits (nat_lt 127) bs ≡ true → has_plain_suffix bs ≡ false
past_first [] b h = cc
past_first (c ∷ cs) b h =
    let l : 127 < c = ltb-true 127 c h in
    let high : nat_lt c 128 ≡ false = grind (arith, l) in
    let run : after_run (is_ascii_in IdentContinue) (c ∷ cs) ≡ c ∷ cs = rw high refl in
    rw (b, ap (next_fits (nat_lt 127)) run ∙ h) refl

-- what begins no suffix is ASCII, and begins no identifier
pub no_suffix : (ds : List ℕ) → IsUtf8 ds → next_fits begins_suffix ds ≡ false → next_in IdentStart (chars ds) ≡ false
no_suffix [] u h = rw chars-nil refl
no_suffix (d ∷ es) u h =
    let parts = or_parts (nat_lt 127 d) (is_ascii_in IdentStart d) h in
    let l : d < 128 = omega (arith, ltb-false 127 d parts.0) in
    rw (chars_head d es u l) (without IdentStart d l parts.1)

-- ---- Bytes of ASCII as characters

is_not : (x : Bool) → not x ≡ true → x ≡ false
is_not true e = cc
is_not false e = refl

either : {P : Type 0} (b : Bool) → (b ≡ true → P) → (b ≡ false → P) → P
either true f g = f refl
either false f g = g refl

-- the bytes begin with none past ASCII
abbrev IsLow : List ℕ → Type 0
IsLow bs = next_fits (nat_lt 127) bs ≡ false

below : (b : ℕ) → b < 128 → nat_lt 127 b ≡ false
below b l = grind (arith, l)

class_low : (class : Class) (bs : List ℕ) → next_fits (is_ascii_in class) bs ≡ true → IsLow bs
class_low class [] h = refl
class_low class (b ∷ t) h = below b (low class b h)

sign_low : (a : ℕ) (bs : List ℕ) → a < 128 → next_is a bs ≡ true → IsLow bs
sign_low a [] l h = refl
sign_low a (b ∷ t) l h = below b (omega (arith, l, eqb-true b a h))

next_char : (bs : List ℕ) (a : ℕ) → IsUtf8 bs → IsLow bs → next_is a (chars bs) ≡ next_is a bs
next_char [] a u h = rw chars-nil refl
next_char (b ∷ t) a u h = rw (chars_head b t u (omega (arith, ltb-false 127 b h))) refl

in_class : (class : Class) (b : ℕ) → b < 128 → is_in class b ≡ is_ascii_in class b
in_class class b l = sym (ap (λ x. x && is_in class b) (lt-ltb b 128 l))

next_class : (class : Class) (bs : List ℕ) → IsUtf8 bs → IsLow bs → next_in class (chars bs) ≡ next_fits (is_ascii_in class) bs
next_class class [] u h = rw chars-nil refl
next_class class (b ∷ t) u h =
    let l : b < 128 = omega (arith, ltb-false 127 b h) in
    rw (chars_head b t u l) (in_class class b l)

tail_chars : (bs : List ℕ) → IsUtf8 bs → IsLow bs → tail (chars bs) ≡ chars (tail bs)
tail_chars [] u h = rw chars-nil refl
tail_chars (b ∷ t) u h = rw (chars_head b t u (omega (arith, ltb-false 127 b h))) refl

tail_utf8 : (bs : List ℕ) → IsUtf8 bs → IsLow bs → IsUtf8 (tail bs)
tail_utf8 [] u h = u
tail_utf8 (b ∷ t) u h = utf8_rest (b ∷ []) t (IsAscii-cons b [] (omega (arith, ltb-false 127 b h)) IsAscii-nil) u

-- a run, if no byte past ASCII follows it, and what follows it
run_chars : (class : Class) (bs : List ℕ) → IsUtf8 bs → IsLow (after_run (is_ascii_in class) bs) → chars (after_run (is_ascii_in class) bs) ≡ after_run (is_in class) (chars bs)
run_chars class bs u h =
    let n : ℕ = length (run_of (is_ascii_in class) bs) in
    let e : drop n bs ≡ after_run (is_ascii_in class) bs = after_drop (is_ascii_in class) bs in
    ap chars (sym e) ∙ stopped class bs u (next_low bs n (ap (next_fits (nat_lt 127)) e ∙ h))

run_utf8 : (class : Class) (bs : List ℕ) → IsUtf8 bs → IsUtf8 (after_run (is_ascii_in class) bs)
run_utf8 class bs u = subst IsUtf8 (after_drop (is_ascii_in class) bs) (IsUtf8-drop bs (length (run_of (is_ascii_in class) bs)) u (border class bs u))

-- what stands before the end of a run is ASCII if that is
run_low : (class : Class) (bs : List ℕ) → IsLow (after_run (is_ascii_in class) bs) → IsLow bs
run_low class [] h = refl
run_low class (b ∷ t) h =
    either (is_ascii_in class b)
    (λ e. below b (low class b e))
    (λ e. let same : after_run (is_ascii_in class) (b ∷ t) ≡ b ∷ t = rw e refl in sym (ap (next_fits (nat_lt 127)) same) ∙ h)

-- ---- Suffixes

past_no_word : (b : ℕ) → nat_lt 127 b ≡ true → is_ascii_in IdentContinue b ≡ false
past_no_word b h = let f : nat_lt b 128 ≡ false = grind (arith, ltb-true 127 b h) in ap (λ x. x && is_in IdentContinue b) f

suffix_low : (bs : List ℕ) → has_plain_suffix bs ≡ true → IsLow bs
suffix_low [] h = refl
suffix_low (b ∷ t) h =
    either (nat_lt 127 b)
    (λ p. let stop = past_no_word b p in let wrong : has_plain_suffix (b ∷ t) ≡ false = rw (stop, p) refl in absurd (true≢false (sym h ∙ wrong)))
    (λ p. p)

suffix_utf8 : (bs : List ℕ) → IsUtf8 bs → IsUtf8 (after_plain_suffix bs)
suffix_utf8 bs u =
    elim (next_fits begins_suffix bs) as (λ z. IsUtf8 (if z then after_run (is_ascii_in IdentContinue) bs else bs)) [
      | true ↦ run_utf8 IdentContinue bs u
      | false ↦ u
    ]

starts_word : (b : ℕ) → nat_lt 127 b ≡ false → begins_suffix b ≡ true → is_ascii_in IdentStart b ≡ true
starts_word b p h = sym (ap (λ x. x || is_ascii_in IdentStart b) p) ∙ h

suffix_chars : (bs : List ℕ) → IsUtf8 bs → has_plain_suffix bs ≡ true → chars (after_plain_suffix bs) ≡ after_suffix (chars bs)
suffix_chars [] u h = rw chars-nil refl
suffix_chars (b ∷ t) u h =
    let text : List ℕ = b ∷ t in
    let p = suffix_low text h in
    let l : b < 128 = omega (arith, ltb-false 127 b p) in
    either (begins_suffix b)
    (λ s.
    let start : is_ascii_in IdentStart b ≡ true = starts_word b p s in
    let first : is_in IdentStart b ≡ true = within IdentStart b start in
    let more : is_in IdentContinue b ≡ true = within IdentContinue b (goes_on b (omega (arith, l)) start) in
    let end : IsLow (after_run (is_ascii_in IdentContinue) text) = is_not _ (sym (ap (λ z. not (z && next_fits (nat_lt 127) (after_run (is_ascii_in IdentContinue) text))) s) ∙ h) in
    let left : chars (after_run (is_ascii_in IdentContinue) text) ≡ after_run (is_in IdentContinue) (chars t) = run_chars IdentContinue text u end ∙ rw (chars_head b t u l) (rw more refl) in
    let taken : after_plain_suffix text ≡ after_run (is_ascii_in IdentContinue) text = rw s refl in
    let asked : after_suffix (chars text) ≡ after_run (is_in IdentContinue) (chars t) = rw (chars_head b t u l) (rw first refl) in
    ap chars taken ∙ (left ∙ sym asked))
    (λ s.
    let none : next_in IdentStart (chars text) ≡ false = no_suffix text u s in
    let taken : after_plain_suffix text ≡ text = rw s refl in
    let asked : after_suffix (chars text) ≡ chars text = rw none refl in
    ap chars taken ∙ sym asked)

-- ---- Digits

digit_first : (class : Class) (bs : List ℕ) → IsUtf8 bs → next_fits (is_digit_of class) bs ≡ true → has_digit class (chars bs) ≡ true
digit_first class [] u h = cc
digit_first class (b ∷ t) u h =
    let parts = and_parts (is_ascii_in class b) (not (b == 95)) h in
    let other : (b == 95) ≡ false = is_not (b == 95) parts.1 in
    rw (chars_head b t u (low class b parts.0), other) (within class b parts.0)

digit_is : (bs : List ℕ) → next_fits (is_ascii_in Digit) bs ≡ true → next_fits (is_digit_of DigitOrUnderscore) bs ≡ true
digit_is [] h = h
digit_is (b ∷ t) h =
    let l = low Digit b h in
    let goes = digit_goes_on b (omega (arith, l)) h in
    elim (eqb_tells b 95) [
      | inl e ↦ absurd (true≢false (sym h ∙ ap (is_ascii_in Digit) e.1))
      | inr e ↦ rw (goes, e.0) refl
    ]

-- ---- Exponents

power_utf8 : (bs : List ℕ) → IsUtf8 bs → IsUtf8 (after_plain_power bs)
power_utf8 bs u = suffix_utf8 (after_run (is_ascii_in DigitOrUnderscore) bs) (run_utf8 DigitOrUnderscore bs u)

power_chars : (bs : List ℕ) → IsUtf8 bs → has_plain_power bs ≡ true → chars (after_plain_power bs) ≡ after_suffix (after_run (is_in DigitOrUnderscore) (chars bs))
power_chars bs u h =
    let past : List ℕ = after_run (is_ascii_in DigitOrUnderscore) bs in
    let parts = and_parts (next_fits (is_ascii_in Digit) bs) (has_plain_suffix past) h in
    suffix_chars past (run_utf8 DigitOrUnderscore bs u) parts.1 ∙ ap after_suffix (run_chars DigitOrUnderscore bs u (suffix_low past parts.1))

sign_chars : (bs : List ℕ) → IsUtf8 bs → IsLow bs → after_sign (chars bs) ≡ chars (after_sign bs)
sign_chars bs u l =
    rw (next_char bs (byte "+") u l, next_char bs (byte "-") u l, tail_chars bs u l)
    (elim (next_is (byte "+") bs || next_is (byte "-") bs) as (λ z. (if z then chars (tail bs) else chars bs) ≡ chars (if z then tail bs else bs)) [
      | true ↦ refl
      | false ↦ refl
    ])

sign_utf8 : (bs : List ℕ) → IsUtf8 bs → IsLow bs → IsUtf8 (after_sign bs)
sign_utf8 bs u l =
    elim (next_is (byte "+") bs || next_is (byte "-") bs) as (λ z. IsUtf8 (if z then tail bs else bs)) [
      | true ↦ tail_utf8 bs u l
      | false ↦ u
    ]

signed_low : (bs : List ℕ) → next_fits (is_ascii_in Digit) (after_sign bs) ≡ true → IsLow bs
signed_low bs h =
    either (next_is (byte "+") bs)
    (λ p. sign_low (byte "+") bs (omega arith) p)
    (λ p. either (next_is (byte "-") bs)
    (λ m. sign_low (byte "-") bs (omega arith) m)
    (λ m. let same : after_sign bs ≡ bs = rw (p, m) refl in class_low Digit bs (sym (ap (next_fits (is_ascii_in Digit)) same) ∙ h)))

exponent : (bs : List ℕ) → IsUtf8 bs → has_plain_exponent bs ≡ true → IsExponent (chars bs) (plain FLOAT_NUMBER) (chars (after_plain_exponent bs))
exponent bs u h =
    let parts = and_parts (next_fits (is_ascii_in Digit) (after_sign bs)) _ h in
    let l = signed_low bs parts.0 in
    let ds = sign_utf8 bs u l in
    rw (sign_chars bs u l, digit_first DigitOrUnderscore (after_sign bs) ds (digit_is (after_sign bs) parts.0))
    (refl, power_chars (after_sign bs) ds h)

exponent_utf8 : (bs : List ℕ) → IsUtf8 bs → has_plain_exponent bs ≡ true → IsUtf8 (after_plain_exponent bs)
exponent_utf8 bs u h =
    let parts = and_parts (next_fits (is_ascii_in Digit) (after_sign bs)) _ h in
    power_utf8 (after_sign bs) (sign_utf8 bs u (signed_low bs parts.0))

-- ---- What ends a number

letter_low : (bs : List ℕ) → starts_exponent bs ≡ true → IsLow bs
letter_low bs h =
    either (next_is (byte "e") bs)
    (λ p. sign_low (byte "e") bs (omega arith) p)
    (λ p. let e : next_is (byte "E") bs ≡ true = sym (ap (λ x. x || next_is (byte "E") bs) p) ∙ h in sign_low (byte "E") bs (omega arith) e)

letter_chars : (bs : List ℕ) → IsUtf8 bs → IsLow bs → starts_exponent (chars bs) ≡ starts_exponent bs
letter_chars bs u l = rw (next_char bs (byte "e") u l, next_char bs (byte "E") u l) refl

end_low : (bs : List ℕ) → has_plain_end bs ≡ true → IsLow bs
end_low bs h =
    either (starts_exponent bs)
    (λ e. letter_low bs e)
    (λ e. let same : has_plain_end bs ≡ has_plain_suffix bs = rw e refl in suffix_low bs (sym same ∙ h))

-- the end of a number of this kind, in characters
abbrev IsEnd : ℕ → List ℕ → Lexeme → List ℕ → Type 0
IsEnd kind cs token rest = MatchBool (starts_exponent cs) (IsExponent (tail cs) token rest) ((token ≡ plain kind) × (rest ≡ after_suffix cs))

number_end : (kind : ℕ) (bs : List ℕ) → IsUtf8 bs → has_plain_end bs ≡ true → IsEnd kind (chars bs) (plain (kind_with_end kind bs)) (chars (after_plain_end bs))
number_end kind bs u h =
    let l = end_low bs h in
    either (starts_exponent bs)
    (λ e.
    let some : has_plain_exponent (tail bs) ≡ true = sym (cond-true (starts_exponent bs) _ _ e) ∙ h in
    rw (letter_chars bs u l, e, tail_chars bs u l) (exponent (tail bs) (tail_utf8 bs u l) some))
    (λ e.
    let some : has_plain_suffix bs ≡ true = sym (cond-false (starts_exponent bs) _ _ e) ∙ h in
    rw (letter_chars bs u l, e) (refl, suffix_chars bs u some))

end_utf8 : (bs : List ℕ) → IsUtf8 bs → has_plain_end bs ≡ true → IsUtf8 (after_plain_end bs)
end_utf8 bs u h =
    let l = end_low bs h in
    either (starts_exponent bs)
    (λ e.
    let some : has_plain_exponent (tail bs) ≡ true = sym (cond-true (starts_exponent bs) _ _ e) ∙ h in
    rw e (exponent_utf8 (tail bs) (tail_utf8 bs u l) some))
    (λ e. rw e (suffix_utf8 bs u))

-- ---- Fractions

number_suffix : (bs : List ℕ) → kind_with_end FLOAT_NUMBER bs ≡ FLOAT_NUMBER
number_suffix bs =
    elim (starts_exponent bs) as (λ z. (if z then FLOAT_NUMBER else FLOAT_NUMBER) ≡ FLOAT_NUMBER) [
      | true ↦ refl
      | false ↦ refl
    ]

fraction_low : (bs : List ℕ) → has_plain_fraction bs ≡ true → IsLow bs
fraction_low bs h =
    either (next_fits (is_ascii_in Digit) bs)
    (λ d. class_low Digit bs d)
    (λ d. is_not (next_fits (nat_lt 127) bs) (sym (cond-false (next_fits (is_ascii_in Digit) bs) _ _ d) ∙ h))

fraction_utf8 : (bs : List ℕ) → IsUtf8 bs → has_plain_fraction bs ≡ true → IsUtf8 (after_plain_fraction bs)
fraction_utf8 bs u h =
    either (next_fits (is_ascii_in Digit) bs)
    (λ d. rw d (end_utf8 (after_run (is_ascii_in DigitOrUnderscore) bs) (run_utf8 DigitOrUnderscore bs u) (sym (cond-true (next_fits (is_ascii_in Digit) bs) _ _ d) ∙ h)))
    (λ d. rw d u)

fraction : (bs : List ℕ) → IsUtf8 bs → next_in IdentStart (chars bs) ≡ false → has_plain_fraction bs ≡ true → IsFraction (chars bs) (plain FLOAT_NUMBER) (chars (after_plain_fraction bs))
fraction bs u w h =
    let past : List ℕ = after_run (is_ascii_in DigitOrUnderscore) bs in
    let same : next_in Digit (chars bs) ≡ next_fits (is_ascii_in Digit) bs = next_class Digit bs u (fraction_low bs h) in
    either (next_fits (is_ascii_in Digit) bs)
    (λ d.
    let some : has_plain_end past ≡ true = sym (cond-true (next_fits (is_ascii_in Digit) bs) _ _ d) ∙ h in
    let digit : next_in Digit (chars bs) ≡ true = same ∙ d in
    let left : after_run (is_in DigitOrUnderscore) (chars bs) ≡ chars past = sym (run_chars DigitOrUnderscore bs u (end_low past some)) in
    let end : IsEnd FLOAT_NUMBER (chars past) (plain FLOAT_NUMBER) (chars (after_plain_end past)) = subst (λ k. IsEnd FLOAT_NUMBER (chars past) (plain k) (chars (after_plain_end past))) (number_suffix past) (number_end FLOAT_NUMBER past (run_utf8 DigitOrUnderscore bs u) some) in
    rw (digit, left, d) end)
    (λ d.
    let none : next_in Digit (chars bs) ≡ false = same ∙ d in
    rw (none, d) (refl, rw w refl))

-- ---- Past the first digits

dot_no_word : is_in IdentStart 46 ≡ false
dot_no_word = without IdentStart 46 (omega arith) (sym (starts 46))

dots : (cs : List ℕ) → (next_is (byte ".") cs || next_in IdentStart cs) ≡ true → IsPastDigits (46 ∷ cs) (plain INT_NUMBER) (46 ∷ cs)
dots cs h =
    either (next_is (byte ".") cs)
    (λ d. rw d (refl, rw dot_no_word refl))
    (λ d.
    let word : next_in IdentStart cs ≡ true = sym (ap (λ x. x || next_in IdentStart cs) d) ∙ h in
    rw (d, word) (refl, rw dot_no_word refl))

dotted : (cs rest : List ℕ) → next_is (byte ".") cs ≡ false → next_in IdentStart cs ≡ false → IsFraction cs (plain FLOAT_NUMBER) rest → IsPastDigits (46 ∷ cs) (plain FLOAT_NUMBER) rest
dotted cs rest d w h = rw (d, w) h

dotless : (bs rest : List ℕ) → next_is (byte ".") bs ≡ false → (token : Lexeme) → IsEnd INT_NUMBER bs token rest → IsPastDigits bs token rest
dotless bs rest d token h = rw d h

past_low : (bs : List ℕ) → is_plain_past_digits bs ≡ true → IsLow bs
past_low bs h =
    either (next_is (byte ".") bs)
    (λ d. sign_low (byte ".") bs (omega arith) d)
    (λ d. end_low bs (sym (cond-false (next_is (byte ".") bs) _ _ d) ∙ h))

past_utf8 : (bs : List ℕ) → IsUtf8 bs → is_plain_past_digits bs ≡ true → IsUtf8 (after_past_digits bs)
past_utf8 bs u h =
    let l = past_low bs h in
    either (next_is (byte ".") bs)
    (λ d.
    let some : (ends_before_dot (tail bs) || has_plain_fraction (tail bs)) ≡ true = sym (cond-true (next_is (byte ".") bs) _ _ d) ∙ h in
    either (ends_before_dot (tail bs))
    (λ e. rw (d, e) u)
    (λ e. rw (d, e) (fraction_utf8 (tail bs) (tail_utf8 bs u l) (sym (ap (λ x. x || has_plain_fraction (tail bs)) e) ∙ some))))
    (λ d. rw d (end_utf8 bs u (sym (cond-false (next_is (byte ".") bs) _ _ d) ∙ h)))

dot_low : (t : List ℕ) → ends_before_dot t ≡ true → IsLow t
dot_low t h =
    either (next_is (byte ".") t)
    (λ d. sign_low (byte ".") t (omega arith) d)
    (λ d. class_low IdentStart t (sym (ap (λ x. x || next_fits (is_ascii_in IdentStart) t) d) ∙ h))

dot_chars : (t : List ℕ) → IsUtf8 t → IsLow t → (next_is (byte ".") (chars t) || next_in IdentStart (chars t)) ≡ ends_before_dot t
dot_chars t v l = rw (next_char t (byte ".") v l, next_class IdentStart t v l) refl

past_dot : (t : List ℕ) → IsUtf8 (46 ∷ t) → is_plain_past_digits (46 ∷ t) ≡ true → IsPastDigits (chars (46 ∷ t)) (plain (kind_past_digits (46 ∷ t))) (chars (after_past_digits (46 ∷ t)))
past_dot t u h =
    let head : chars (46 ∷ t) ≡ 46 ∷ chars t = chars_head 46 t u (omega arith) in
    let v : IsUtf8 t = tail_utf8 (46 ∷ t) u refl in
    either (ends_before_dot t)
    (λ e. rw e (rw head (dots (chars t) (dot_chars t v (dot_low t e) ∙ e))))
    (λ e.
    let some : has_plain_fraction t ≡ true = sym (ap (λ x. x || has_plain_fraction t) e) ∙ h in
    let l = fraction_low t some in
    let other = or_parts (next_is (byte ".") (chars t)) (next_in IdentStart (chars t)) (dot_chars t v l ∙ e) in
    rw e (rw head (dotted (chars t) (chars (after_plain_fraction t)) other.0 other.1 (fraction t v other.1 some))))

past_digits : (bs : List ℕ) → IsUtf8 bs → is_plain_past_digits bs ≡ true → IsPastDigits (chars bs) (plain (kind_past_digits bs)) (chars (after_past_digits bs))
past_digits [] u h = rw chars-nil (refl, refl)
past_digits (b ∷ t) u h =
    let bs : List ℕ = b ∷ t in
    elim (eqb_tells b 46) [
      | inl e ↦ let same : b ∷ t ≡ 46 ∷ t = ap (λ x. x ∷ t) e.1 in subst (λ x. IsPastDigits (chars x) (plain (kind_past_digits x)) (chars (after_past_digits x))) (sym same) (past_dot t (subst IsUtf8 same u) (subst (λ x. is_plain_past_digits x ≡ true) same h))
      | inr e ↦
          let some : has_plain_end bs ≡ true = sym (cond-false (next_is (byte ".") bs) _ _ e.0) ∙ h in
          let other : next_is (byte ".") (chars bs) ≡ false = next_char bs (byte ".") u (past_low bs h) ∙ e.0 in
          rw (e.0) (dotless (chars bs) (chars (after_plain_end bs)) other (plain (kind_with_end INT_NUMBER bs)) (number_end INT_NUMBER bs u some))
    ]

-- ---- Numbers

-- past the letter of a base
based : (class : Class) (bs : List ℕ) → IsUtf8 bs → next_fits (is_digit_of class) bs ≡ true → is_plain_past_digits (after_run (is_ascii_in class) bs) ≡ true
    → IsBased class (chars bs) (plain (kind_past_digits (after_run (is_ascii_in class) bs))) (chars (after_past_digits (after_run (is_ascii_in class) bs)))
based class bs u d h =
    let past : List ℕ = after_run (is_ascii_in class) bs in
    let left : after_run (is_in class) (chars bs) ≡ chars past = sym (run_chars class bs u (past_low past h)) in
    rw (digit_first class bs u d, left) (past_digits past (run_utf8 class bs u) h)

number_based : (letter : ℕ) (class : Class) (bs : List ℕ) → ((cs : List ℕ) → base_of 48 (letter ∷ cs) ≡ Some class) → letter < 128 → IsUtf8 (48 ∷ letter ∷ bs) → next_fits (is_digit_of class) bs ≡ true → is_plain_past_digits (after_run (is_ascii_in class) bs) ≡ true
    → IsNumber 48 (chars (letter ∷ bs)) (plain (kind_past_digits (after_run (is_ascii_in class) bs))) (chars (after_past_digits (after_run (is_ascii_in class) bs)))
number_based letter class bs known l u d h =
    let v : IsUtf8 (letter ∷ bs) = tail_utf8 (48 ∷ letter ∷ bs) u refl in
    rw (chars_head letter bs v l) (rw (known (chars bs)) (based class bs (tail_utf8 (letter ∷ bs) v (below letter l)) d h))

no_base : (c : ℕ) (t cs : List ℕ) → ((a : ℕ) → a < 128 → next_is a cs ≡ next_is a t) → is_based (byte "x") (c ∷ t) ≡ false → is_based (byte "b") (c ∷ t) ≡ false → is_based (byte "o") (c ∷ t) ≡ false → base_of c cs ≡ None
no_base c t cs same x b o =
    either (c == 48)
    (λ z.
    let other : (a : ℕ) → a < 128 → ((c == 48) && next_is a t) ≡ false → next_is a cs ≡ false = λ a l h. same a l ∙ (sym (ap (λ k. k && next_is a t) z) ∙ h) in
    rw (other (byte "x") (omega arith) x, other (byte "b") (omega arith) b, other (byte "o") (omega arith) o, z) refl)
    (λ z. rw z refl)

number_plain : (c : ℕ) (t : List ℕ) → IsUtf8 (c ∷ t) → is_ascii_in Digit c ≡ true → is_based (byte "x") (c ∷ t) ≡ false → is_based (byte "b") (c ∷ t) ≡ false → is_based (byte "o") (c ∷ t) ≡ false
    → is_plain_past_digits (after_run (is_ascii_in DigitOrUnderscore) (c ∷ t)) ≡ true
    → IsNumber c (chars t) (plain (kind_past_digits (after_run (is_ascii_in DigitOrUnderscore) (c ∷ t)))) (chars (after_past_digits (after_run (is_ascii_in DigitOrUnderscore) (c ∷ t))))
number_plain c t u d x b o h =
    let past : List ℕ = after_run (is_ascii_in DigitOrUnderscore) t in
    let l = low Digit c d in
    let more = digit_goes_on c (omega (arith, l)) d in
    let same : after_run (is_ascii_in DigitOrUnderscore) (c ∷ t) ≡ past = cond-true (is_ascii_in DigitOrUnderscore c) _ _ more in
    let v : IsUtf8 t = tail_utf8 (c ∷ t) u (below c l) in
    let some : is_plain_past_digits past ≡ true = sym (ap is_plain_past_digits same) ∙ h in
    let end : IsLow past = past_low past some in
    let left : after_run (is_in DigitOrUnderscore) (chars t) ≡ chars past = sym (run_chars DigitOrUnderscore t v end) in
    let none : base_of c (chars t) ≡ None = no_base c t (chars t) (λ a k. next_char t a v (run_low DigitOrUnderscore t end)) x b o in
    rw (same, none, left) (past_digits past (run_utf8 DigitOrUnderscore t v) some)

-- the number, in characters, if the bytes begin with a plain one
abbrev IsItsNumber : ℕ → List ℕ → List ℕ → Type 0
IsItsNumber c t past = IsNumber c (chars t) (plain (kind_past_digits past)) (chars (after_past_digits past))

with_base : (letter : ℕ) (class : Class) (c : ℕ) (t : List ℕ) → ((cs : List ℕ) → base_of 48 (letter ∷ cs) ≡ Some class) → letter < 128 → is_based letter (c ∷ t) ≡ true → IsUtf8 (c ∷ t) → next_fits (is_digit_of class) (drop 1 t) ≡ true → is_plain_past_digits (after_run (is_ascii_in class) (drop 1 t)) ≡ true
    → IsItsNumber c t (after_run (is_ascii_in class) (drop 1 t))
with_base letter class c [] known l e u d h = absurd (true≢false (sym (and_parts (c == 48) false e).1))
with_base letter class c (b ∷ t) known l e u d h =
    let parts = and_parts (c == 48) (b == letter) e in
    let zero : c ≡ 48 = eqb-true c 48 parts.0 in
    let same : b ≡ letter = eqb-true b letter parts.1 in
    rw (zero, same) (number_based letter class t known l (rw (zero, same) at u) d h)

number : (c : ℕ) (t : List ℕ) → IsUtf8 (c ∷ t) → is_ascii_in Digit c ≡ true → has_plain_digits (c ∷ t) ≡ true → is_plain_past_digits (after_plain_digits (c ∷ t)) ≡ true → IsItsNumber c t (after_plain_digits (c ∷ t))
number c t u d f h =
    either (is_based (byte "x") (c ∷ t))
    (λ x. rw x (with_base (byte "x") HexOrUnderscore c t (λ cs. refl) (omega arith) x u (rw x at f) (rw x at h)))
    (λ x.
    either (is_based (byte "b") (c ∷ t))
    (λ b. rw (x, b) (with_base (byte "b") DigitOrUnderscore c t (λ cs. refl) (omega arith) b u (rw (x, b) at f) (rw (x, b) at h)))
    (λ b.
    either (is_based (byte "o") (c ∷ t))
    (λ o. rw (x, b, o) (with_base (byte "o") DigitOrUnderscore c t (λ cs. refl) (omega arith) o u (rw (x, b, o) at f) (rw (x, b, o) at h)))
    (λ o. rw (x, b, o) (number_plain c t u d x b o (rw (x, b, o) at h)))))

base_utf8 : (letter : ℕ) (text : List ℕ) → letter < 128 → is_based letter text ≡ true → IsUtf8 text → IsUtf8 (drop 2 text)
base_utf8 letter [] l e u = cc
base_utf8 letter (c ∷ []) l e u = absurd (true≢false (sym (and_parts (c == 48) false e).1))
base_utf8 letter (c ∷ b ∷ t) l e u =
    let parts = and_parts (c == 48) (b == letter) e in
    let v : IsUtf8 (b ∷ t) = tail_utf8 (c ∷ b ∷ t) u (below c (omega (arith, eqb-true c 48 parts.0))) in
    tail_utf8 (b ∷ t) v (below b (omega (arith, l, eqb-true b letter parts.1)))

digits_utf8 : (text : List ℕ) → IsUtf8 text → IsUtf8 (after_plain_digits text)
digits_utf8 text u =
    either (is_based (byte "x") text)
    (λ x. rw x (run_utf8 HexOrUnderscore (drop 2 text) (base_utf8 (byte "x") text (omega arith) x u)))
    (λ x.
    either (is_based (byte "b") text)
    (λ b. rw (x, b) (run_utf8 DigitOrUnderscore (drop 2 text) (base_utf8 (byte "b") text (omega arith) b u)))
    (λ b.
    either (is_based (byte "o") text)
    (λ o. rw (x, b, o) (run_utf8 DigitOrUnderscore (drop 2 text) (base_utf8 (byte "o") text (omega arith) o u)))
    (λ o. rw (x, b, o) (run_utf8 DigitOrUnderscore text u))))

first_number : (edition : Edition) (b : ℕ) (cs rest : List ℕ) (token : Lexeme) → is_in White b ≡ false → is_in IdentStart b ≡ false → is_in Digit b ≡ true → IsNumber b cs token rest → First edition (b ∷ cs) token rest
first_number edition b cs rest token w s d h = rw (w, s, d) h

-- the number is an integer or a float
kind_is : (P : ℕ → Type 0) → P INT_NUMBER → P FLOAT_NUMBER → (bs : List ℕ) → P (kind_past_digits bs)
kind_is P int float bs =
    elim (next_is (byte ".") bs) as (λ z. P (if z then (if ends_before_dot (tail bs) then INT_NUMBER else FLOAT_NUMBER) else kind_with_end INT_NUMBER bs)) [
      | true ↦ elim (ends_before_dot (tail bs)) as (λ z. P (if z then INT_NUMBER else FLOAT_NUMBER)) [
        | true ↦ int
        | false ↦ float
      ]
      | false ↦ elim (starts_exponent bs) as (λ z. P (if z then FLOAT_NUMBER else INT_NUMBER)) [
        | true ↦ float
        | false ↦ int
      ]
    ]

no_string : (bs : List ℕ) → kind_past_digits bs ≢ STRING
no_string = kind_is (λ k. k ≢ STRING) (λ e. true≢false (sym (ap (λ k. k == STRING) e))) (λ e. true≢false (sym (ap (λ k. k == STRING) e)))

pub no_word : (word bs : List ℕ) → false ≡ is_contextual (kind_past_digits bs) word
no_word word = kind_is (λ k. false ≡ is_contextual k word) refl refl

pub plain_number : (text : List ℕ) (n m : ℕ) → IsUtf8 text → next_fits (is_ascii_in Digit) text ≡ true → has_plain_digits text ≡ true → 0 < n → Leaves text n (after_plain_digits text) → is_plain_past_digits (after_plain_digits text) ≡ true → Leaves (after_plain_digits text) m (after_past_digits (after_plain_digits text)) → IsPlainNumber text (kind_past_digits (after_plain_digits text)) (n + m)
plain_number [] n m u d f o a h b = cc
plain_number (c ∷ t) n m u d f o a h b =
    let text : List ℕ = c ∷ t in
    let past : List ℕ = after_plain_digits text in
    let l = low Digit c d in
    let w : c < 256 = omega (arith, l) in
    let all = leaves_more text past (after_past_digits past) n m a b in
    let out : IsUtf8 (after_past_digits past) = past_utf8 past (digits_utf8 text u) h in
    let is = number c t u d f h in
    let first : (edition : Edition) → First edition (chars text) (plain (kind_past_digits past)) (chars (drop (n + m) text)) = λ edition. rw (all.left, chars_head c t u l) (first_number edition c (chars t) (chars (after_past_digits past)) (plain (kind_past_digits past)) (without White c l (digit_no_white c w d)) (without IdentStart c l (digit_no_word c w d)) (within Digit c d) is) in
    record {
      token = first;
      number = token_kind Edition2024 (chars text) (plain (kind_past_digits past)) (chars (drop (n + m) text)) (first Edition2024);
      no_string = no_string past;
      positive = omega (arith, o);
      border = IsCharBoundary-from_drop text (n + m) all.within (subst IsUtf8 (sym all.left) out);
      plain = rw (d, f, h) refl;
    }
