-- The rules of the first token of a text allow one token, and one rest of the text.
use Rattle.std.proofs.Common.{◌≡◌, ℕ, ◌-◌, Bool, true, false, List, [], ◌∷◌, length, drop, chars, encode_utf8_all, IsUtf8, IsCharBoundary, MatchBool, MatchOption, Option, Some, None, ◌==◌, ◌&&◌, if◌then◌else◌, refl, ap, sym, ◌∙◌, arith, length-drop}
use Rattle.std.specs.Str.{byte}
use Rattle.std.proofs.lemmas.Str.{IsUtf8-drop, encodes-chars}
use Rattle.rap_lexer.specs.Class.{is_in}
use Rattle.rap_lexer.specs.Comment.{IsBlockComment, Ends, block_kind}
use Rattle.rap_lexer.specs.First.{First, IsSlash, IsHash, IsSign, is_reserved_hash}
use Rattle.rap_lexer.specs.Lexeme.{plain, with_remark, literal}
use Rattle.rap_lexer.specs.Number.{IsExponent, IsFraction, IsPastDigits, IsBased, IsNumber, base_of, takes_dot, starts_exponent, has_digit}
use Rattle.rap_lexer.specs.OneToken.{IsOnlyToken}
use Rattle.rap_lexer.specs.Quoted.{StringRun, CharacterEnds, RawRun, IsLiteral, IsLifetime, IsCommonLifetime, IsTick, IsRawString, is_raw_lifetime, starts_lifetime, is_well_formed}
use Rattle.rap_lexer.specs.Run.{next_is, next_in, tail, run_of, after_run, after_suffix}
use Rattle.rap_lexer.specs.Word.{IsInvalidWord, IsWord, IsPastR, IsPastB, IsPastC, IsWordLike, ends_prefix, starts_raw_ident, starts_raw, starts_prefixed_raw}
use Rattle.rap_base.specs.TokenKind.{LIFETIME_IDENT}
use Rattle.rap_base.specs.declared.edition.Edition.{Edition}
use Rattle.rap_lexer.specs.declared.escape.Mode.{Mode}
use Rattle.rap_lexer.specs.declared.lexer.lexeme.Lexeme.{Lexeme}
use Rattle.rap_lexer.specs.declared.lexer.lexeme.Remark.TheVariants.{Nothing, OpenComment, InvalidRawString, UnknownLifetimePrefix, LifetimeStartsWithNumber}
use Rattle.rap_lexer.specs.declared.lexer.run.Class.{Class}
use Rattle.rap_lexer.specs.declared.lexer.run.Class.TheVariants.{White, IdentStart, IdentContinue, Emoji, Digit, DigitOrUnderscore, Hash}
use Rattle.rap_lexer.proofs.OneBody.{one_body}
use Rattle.rap_lexer.proofs.OneRun.{EndsOnce, one_string, one_character, one_raw}

-- a rule that allows one token and one rest
abbrev One : (Lexeme → List ℕ → Type 0) → Type 0
One R = (t t' : Lexeme) (r r' : List ℕ) → R t r → R t' r' → (t ≡ t') × (r ≡ r')

by_test : (b : Bool) (R S : Lexeme → List ℕ → Type 0) → One R → One S → One (λ t r. MatchBool b (R t r) (S t r))
by_test true R S f g = f
by_test false R S f g = g

-- a rule that names both
named : (token : Lexeme) (rest : List ℕ) → One (λ t r. (t ≡ token) × (r ≡ rest))
named token rest t t' r r' h h' = (h.0 ∙ sym h'.0, h.1 ∙ sym h'.1)

block_comment : (cs : List ℕ) → One (IsBlockComment cs)
block_comment cs t t' r r' h h' = by_ends h.0 h'.0 h.1 h'.1 h.2 h'.2
  where
    by_ends : (b b' : Bool) → t ≡ (if b then plain (block_kind cs) else with_remark (block_kind cs) OpenComment) → t' ≡ (if b' then plain (block_kind cs) else with_remark (block_kind cs) OpenComment) → MatchBool b (Ends cs r) ((r ≡ []) × ((end : List ℕ) → ¬ Ends cs end)) → MatchBool b' (Ends cs r') ((r' ≡ []) × ((end : List ℕ) → ¬ Ends cs end)) → (t ≡ t') × (r ≡ r')
    by_ends true true e e' h h' = (e ∙ sym e', one_body cs r r' h h')
    by_ends true false e e' h h' = absurd (h'.1 r h)
    by_ends false true e e' h h' = absurd (h.1 r' h')
    by_ends false false e e' h h' = (e ∙ sym e', h.0 ∙ sym h'.0)

exponent : (cs : List ℕ) → One (IsExponent cs)
exponent cs = named _ _

fraction : (cs : List ℕ) → One (IsFraction cs)
fraction cs = by_test (next_in Digit cs && starts_exponent (after_run (is_in DigitOrUnderscore) cs)) _ _ (exponent (tail (after_run (is_in DigitOrUnderscore) cs))) (named _ _)

past_digits : (cs : List ℕ) → One (IsPastDigits cs)
past_digits cs = by_test (takes_dot cs) _ _ (fraction (tail cs)) (by_test (starts_exponent cs) _ _ (exponent (tail cs)) (named _ _))

based : (class : Class) (cs : List ℕ) → One (IsBased class cs)
based class cs = by_test (has_digit class cs) _ _ (past_digits (after_run (is_in class) cs)) (named _ _)

by_option : (o : Option Class) (R : Lexeme → List ℕ → Type 0) (S : Class → Lexeme → List ℕ → Type 0) → One R → ((class : Class) → One (S class)) → One (λ t r. MatchOption o (R t r) (λ class. S class t r))
by_option None R S f g = f
by_option (Some class) R S f g = g class

number : (c : ℕ) (cs : List ℕ) → One (IsNumber c cs)
number c cs = by_option (base_of c cs) (IsPastDigits (after_run (is_in DigitOrUnderscore) cs)) (λ class. IsBased class (tail cs)) (past_digits (after_run (is_in DigitOrUnderscore) cs)) (λ class. based class (tail cs))

literal_of : (Run : List ℕ → Bool → List ℕ → Type 0) → EndsOnce Run → (kind : ℕ) (mode : Mode) (cs : List ℕ) → One (IsLiteral Run kind mode cs)
literal_of Run once kind mode cs t t' r r' h h' =
    let s = once cs h.0 h'.0 h.1 h'.1 h.2 h'.2 in
    let a : literal kind mode h.0 ≡ literal kind mode h'.0 = ap (λ b. literal kind mode b) s.closed in
    let b : (if h.0 then after_suffix h.1 else h.1) ≡ (if h'.0 then after_suffix h'.1 else h'.1) = rw (s.closed, s.rest) refl in
    (h.3 ∙ (a ∙ sym h'.3), h.4 ∙ (b ∙ sym h'.4))

common_lifetime : (cs : List ℕ) → One (IsCommonLifetime cs)
common_lifetime cs = by_test (next_is (byte "'") (after_run (is_in IdentContinue) (tail cs))) _ _ (named _ _) lasting
  where
    lasting : One (λ t r. (r ≡ after_run (is_in IdentContinue) (tail cs)) × (t ≡ with_remark LIFETIME_IDENT (if next_in Digit cs then LifetimeStartsWithNumber else (if next_is (byte "#") r then UnknownLifetimePrefix else Nothing))))
    lasting t t' r r' h h' =
        let e : r ≡ r' = h.0 ∙ sym h'.0 in
        (h.1 ∙ (ap (λ x. with_remark LIFETIME_IDENT (if next_in Digit cs then LifetimeStartsWithNumber else (if next_is (byte "#") x then UnknownLifetimePrefix else Nothing))) e ∙ sym h'.1), e)

lifetime : (cs : List ℕ) → One (IsLifetime cs)
lifetime cs = by_test (is_raw_lifetime cs) _ _ (named _ _) (common_lifetime cs)

tick : (cs : List ℕ) → One (IsTick cs)
tick cs = by_test (starts_lifetime cs) _ _ (lifetime cs) (literal_of CharacterEnds one_character _ _ cs)

closed_raw : (kind n : ℕ) (cs : List ℕ) → One (λ t r. (closed : Bool) × (after : List ℕ) × RawRun n cs closed after × (t ≡ with_remark kind (if is_well_formed closed n then Nothing else InvalidRawString)) × (r ≡ (if is_well_formed closed n then after_suffix after else after)))
closed_raw kind n cs t t' r r' h h' =
    let s = one_raw n cs h.0 h'.0 h.1 h'.1 h.2 h'.2 in
    let a : with_remark kind (if is_well_formed h.0 n then Nothing else InvalidRawString) ≡ with_remark kind (if is_well_formed h'.0 n then Nothing else InvalidRawString) = rw s.closed refl in
    let b : (if is_well_formed h.0 n then after_suffix h.1 else h.1) ≡ (if is_well_formed h'.0 n then after_suffix h'.1 else h'.1) = rw (s.closed, s.rest) refl in
    (h.3 ∙ (a ∙ sym h'.3), h.4 ∙ (b ∙ sym h'.4))

raw_string : (kind : ℕ) (cs : List ℕ) → One (IsRawString kind cs)
raw_string kind cs = by_test (next_is (byte "\"") (after_run (is_in Hash) cs)) _ _ (closed_raw kind (length (run_of (is_in Hash) cs)) (tail (after_run (is_in Hash) cs))) (named _ _)

invalid_word : (cs : List ℕ) → One (IsInvalidWord cs)
invalid_word cs = named _ _

word : (edition : Edition) (c : ℕ) (cs : List ℕ) → One (IsWord edition c cs)
word edition c cs = by_test (ends_prefix (after_run (is_in IdentContinue) cs)) _ _ (named _ _)
    (by_test (next_in Emoji (after_run (is_in IdentContinue) cs)) _ _ (invalid_word (after_run (is_in IdentContinue) cs)) (named _ _))

past_r : (edition : Edition) (cs : List ℕ) → One (IsPastR edition cs)
past_r edition cs = by_test (starts_raw_ident cs) _ _ (named _ _) (by_test (starts_raw cs) _ _ (raw_string _ cs) (word edition (byte "r") cs))

past_b : (edition : Edition) (cs : List ℕ) → One (IsPastB edition cs)
past_b edition cs = by_test (next_is (byte "'") cs) _ _ (literal_of CharacterEnds one_character _ _ (tail cs))
    (by_test (next_is (byte "\"") cs) _ _ (literal_of StringRun one_string _ _ (tail cs))
    (by_test (starts_prefixed_raw cs) _ _ (raw_string _ (tail cs)) (word edition (byte "b") cs)))

past_c : (edition : Edition) (cs : List ℕ) → One (IsPastC edition cs)
past_c edition cs = by_test (next_is (byte "\"") cs) _ _ (literal_of StringRun one_string _ _ (tail cs))
    (by_test (starts_prefixed_raw cs) _ _ (raw_string _ (tail cs)) (word edition (byte "c") cs))

word_like : (edition : Edition) (c : ℕ) (cs : List ℕ) → One (IsWordLike edition c cs)
word_like edition c cs = by_test (c == byte "r") _ _ (past_r edition cs)
    (by_test (c == byte "b") _ _ (past_b edition cs)
    (by_test (c == byte "c") _ _ (past_c edition cs) (word edition c cs)))

slash : (cs : List ℕ) → One (IsSlash cs)
slash cs = by_test (next_is (byte "/") cs) _ _ (named _ _) (by_test (next_is (byte "*") cs) _ _ (block_comment (tail cs)) (named _ _))

hash : (edition : Edition) (cs : List ℕ) → One (IsHash edition cs)
hash edition cs = by_test (is_reserved_hash edition cs) _ _ (named _ _) (named _ _)

sign : (edition : Edition) (c : ℕ) (cs : List ℕ) → One (IsSign edition c cs)
sign edition c cs = by_test (c == byte "/") _ _ (slash cs)
    (by_test (c == byte "'") _ _ (tick cs)
    (by_test (c == byte "\"") _ _ (literal_of StringRun one_string _ _ cs)
    (by_test (c == byte "#") _ _ (hash edition cs)
    (by_test (is_in Emoji c) _ _ (invalid_word cs) (named _ _)))))

-- A text begins with one token, and one rest follows it.
pub one_token : (edition : Edition) (cs : List ℕ) → One (First edition cs)
one_token edition [] = λ t t' r r' h h'. absurd h
one_token edition (c ∷ cs) =
    by_test (is_in White c) _ _ (named _ _)
    (by_test (is_in IdentStart c) _ _ (word_like edition c cs)
    (by_test (is_in Digit c) _ _ (number c cs) (sign edition c cs)))

-- two places of a text with the same characters after them are one
one_place : (text : List ℕ) (i j : ℕ) → IsUtf8 text → IsCharBoundary text i → IsCharBoundary text j → chars (drop i text) ≡ chars (drop j text) → i ≡ j
one_place text i j u b b' e =
    let same : drop i text ≡ drop j text = sym (encodes-chars (drop i text) (IsUtf8-drop text i u b)) ∙ (ap encode_utf8_all e ∙ encodes-chars (drop j text) (IsUtf8-drop text j u b')) in
    let lengths : length text - i ≡ length text - j = sym (length-drop i text) ∙ (ap length same ∙ length-drop j text) in
    omega (arith, b.0, b'.0)

pub only_token : (edition : Edition) (text : List ℕ) (token : Lexeme) (len : ℕ) → IsUtf8 text → IsCharBoundary text len → First edition (chars text) token (chars (drop len text)) → IsOnlyToken edition text token len
only_token edition text token len u border first other n b h =
    let same = one_token edition (chars text) other token (chars (drop n text)) (chars (drop len text)) h first in
    (same.0, one_place text n len u b border same.1)
