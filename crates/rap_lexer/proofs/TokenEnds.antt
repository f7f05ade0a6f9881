-- What follows a token is the end of the text.
use Rattle.std.proofs.Common.{◌≡◌, ℕ, Bool, true, false, List, [], ◌∷◌, ◌++◌, ◌<◌, length, MatchBool, MatchOption, Option, Some, None, ◌==◌, ◌&&◌, ◌||◌, encode_utf8_all, ap, subst, arith}
use Rattle.std.specs.Str.{byte}
use Rattle.rap_lexer.specs.Class.{is_in}
use Rattle.rap_lexer.specs.Comment.{IsLineComment, IsBlockComment, Body}
use Rattle.rap_lexer.specs.Comment.Body.{empty, comment, text}
use Rattle.rap_lexer.specs.First.{First, IsSlash, IsHash, IsSign, is_reserved_hash}
use Rattle.rap_lexer.specs.Number.{IsExponent, IsFraction, IsPastDigits, IsBased, IsNumber, base_of, takes_dot, starts_exponent, has_digit, after_sign}
use Rattle.rap_lexer.specs.Quoted.{StringRun, CharacterEnds, IsLiteral, IsLifetime, IsTick, IsRawString, is_one_character, is_raw_lifetime, starts_lifetime, is_well_formed}
use Rattle.rap_lexer.specs.Run.{next_is, next_in, tail, run_of, after_run}
use Rattle.rap_lexer.specs.Word.{IsInvalidWord, IsWord, IsPastR, IsPastB, IsPastC, IsWordLike, ends_prefix, starts_raw_ident, starts_raw, starts_prefixed_raw}
use Rattle.rap_base.specs.declared.edition.Edition.{Edition}
use Rattle.rap_lexer.specs.declared.escape.Mode.{Mode}
use Rattle.rap_lexer.specs.declared.lexer.lexeme.Lexeme.{Lexeme}
use Rattle.rap_lexer.specs.declared.lexer.run.Class.{Class}
use Rattle.rap_lexer.specs.declared.lexer.run.Class.TheVariants.{White, InLine, IdentStart, IdentContinue, Emoji, InvalidContinue, Digit, DigitOrUnderscore, Hash}
use Rattle.rap_lexer.proofs.Ends.{IsEnd, all, then', cons, is, past, run, either, suffix, nothing}
use Rattle.rap_lexer.proofs.Strings.{string_end}
use Rattle.rap_lexer.proofs.Characters.{character_end}
use Rattle.rap_lexer.proofs.RawStrings.{raw_end}

-- `rest` ends the text, and something stands before it
pub record IsPrefix (cs rest : List ℕ) : Type 0 where
  pub prefix : List ℕ
  pub join : cs ≡ prefix ++ rest
  pub some : 0 < length prefix

match_some : (P : Type 0) (Q : Class → Type 0) (o : Option Class) (class : Class) → o ≡ Some class → Q class → MatchOption o P Q
match_some P Q None class e q = cc
match_some P Q (Some d) class e q = let f : class ≡ d = cc in subst Q f q

-- a number with a base prefix
pub number_based : (c : ℕ) (cs : List ℕ) (token : Lexeme) (rest : List ℕ) (class : Class) → base_of c cs ≡ Some class → IsBased class (tail cs) token rest → IsNumber c cs token rest
number_based c cs token rest class e h =
    match_some (IsPastDigits (after_run (is_in DigitOrUnderscore) cs) token rest) (λ class. IsBased class (tail cs) token rest) (base_of c cs) class e h

by_cases : (b : Bool) {P Q G : Type 0} → (P → G) → (Q → G) → MatchBool b P Q → G
by_cases true f g h = f h
by_cases false f g h = g h

by_option : (o : Option Class) {P : Type 0} {Q : Class → Type 0} {G : Type 0} → (P → G) → ((class : Class) → Q class → G) → MatchOption o P Q → G
by_option None f g h = f h
by_option (Some class) f g h = g class h

body_end : {cs rest : List ℕ} → Body cs rest → IsEnd cs rest
body_end (empty rest) = all rest
body_end (comment cs mid rest p q) = cons (byte "/") (cons (byte "*") (then' (body_end p) (cons (byte "*") (cons (byte "/") (body_end q)))))
body_end (text c cs rest t p) = cons c (body_end p)

line_comment_end : (cs : List ℕ) (token : Lexeme) (rest : List ℕ) → IsLineComment cs token rest → IsEnd cs rest
line_comment_end cs token rest h = is h.1 (run (is_in InLine) cs)

block_comment_end : (cs : List ℕ) (token : Lexeme) (rest : List ℕ) → IsBlockComment cs token rest → IsEnd cs rest
block_comment_end cs token rest h = by_cases h.0 (λ b. then' (body_end b) (cons (byte "*") (cons (byte "/") (all rest)))) (λ e. is e.0 (nothing cs)) h.2

exponent_end : (cs : List ℕ) (token : Lexeme) (rest : List ℕ) → IsExponent cs token rest → IsEnd cs rest
exponent_end cs token rest h = is h.1 (then' (either (next_is (byte "+") cs || next_is (byte "-") cs) (past cs) (all cs)) (then' (run (is_in DigitOrUnderscore) (after_sign cs)) (suffix _)))

fraction_end : (cs : List ℕ) (token : Lexeme) (rest : List ℕ) → IsFraction cs token rest → IsEnd cs rest
fraction_end cs token rest = by_cases (next_in Digit cs && starts_exponent (after_run (is_in DigitOrUnderscore) cs))
    (λ h. then' (run (is_in DigitOrUnderscore) cs) (then' (past _) (exponent_end _ token rest h)))
    (λ h. is h.1 (then' (either (next_in Digit cs) (run (is_in DigitOrUnderscore) cs) (all cs)) (suffix _)))

past_digits_end : (cs : List ℕ) (token : Lexeme) (rest : List ℕ) → IsPastDigits cs token rest → IsEnd cs rest
past_digits_end cs token rest = by_cases (takes_dot cs)
    (λ h. then' (past cs) (fraction_end (tail cs) token rest h))
    (by_cases (starts_exponent cs) (λ h. then' (past cs) (exponent_end (tail cs) token rest h)) (λ h. is h.1 (suffix cs)))

based_end : (class : Class) (cs : List ℕ) (token : Lexeme) (rest : List ℕ) → IsBased class cs token rest → IsEnd cs rest
based_end class cs token rest = by_cases (has_digit class cs)
    (λ h. then' (run (is_in class) cs) (past_digits_end _ token rest h))
    (λ h. is h.1 (then' (run (is_in class) cs) (suffix _)))

number_end : (c : ℕ) (cs : List ℕ) (token : Lexeme) (rest : List ℕ) → IsNumber c cs token rest → IsEnd cs rest
number_end c cs token rest = by_option (base_of c cs)
    (λ h. then' (run (is_in DigitOrUnderscore) cs) (past_digits_end _ token rest h))
    (λ class h. then' (past cs) (based_end class (tail cs) token rest h))

literal_end : (Run : List ℕ → Bool → List ℕ → Type 0) → ((cs : List ℕ) (closed : Bool) (rest : List ℕ) → Run cs closed rest → IsEnd cs rest) → (kind : ℕ) (mode : Mode) (cs : List ℕ) (token : Lexeme) (rest : List ℕ) → IsLiteral Run kind mode cs token rest → IsEnd cs rest
literal_end Run ends kind mode cs token rest h = is h.4 (then' (ends cs h.0 h.1 h.2) (either h.0 (suffix h.1) (all h.1)))

pub string_literal_end : (kind : ℕ) (mode : Mode) (cs : List ℕ) (token : Lexeme) (rest : List ℕ) → IsLiteral StringRun kind mode cs token rest → IsEnd cs rest
string_literal_end = literal_end StringRun (λ cs closed rest r. string_end r)

character_ends_end : (cs : List ℕ) (closed : Bool) (rest : List ℕ) → CharacterEnds cs closed rest → IsEnd cs rest
character_ends_end cs closed rest = by_cases (is_one_character cs) (λ h. is h.1 (then' (past cs) (past (tail cs)))) (λ r. character_end r)

character_literal_end : (kind : ℕ) (mode : Mode) (cs : List ℕ) (token : Lexeme) (rest : List ℕ) → IsLiteral CharacterEnds kind mode cs token rest → IsEnd cs rest
character_literal_end = literal_end CharacterEnds character_ends_end

lifetime_end : (cs : List ℕ) (token : Lexeme) (rest : List ℕ) → IsLifetime cs token rest → IsEnd cs rest
lifetime_end cs token rest = by_cases (is_raw_lifetime cs)
    (λ h. is h.1 (then' (past cs) (then' (past _) (then' (past _) (run (is_in IdentContinue) _)))))
    (by_cases (next_is (byte "'") (after_run (is_in IdentContinue) (tail cs)))
    (λ h. is h.1 (then' (past cs) (then' (run (is_in IdentContinue) _) (past _))))
    (λ h. is h.0 (then' (past cs) (run (is_in IdentContinue) _))))

tick_end : (cs : List ℕ) (token : Lexeme) (rest : List ℕ) → IsTick cs token rest → IsEnd cs rest
tick_end cs token rest = by_cases (starts_lifetime cs) (lifetime_end cs token rest) (character_literal_end _ _ cs token rest)

raw_string_end : (kind : ℕ) (cs : List ℕ) (token : Lexeme) (rest : List ℕ) → IsRawString kind cs token rest → IsEnd cs rest
raw_string_end kind cs token rest = by_cases (next_is (byte "\"") (after_run (is_in Hash) cs))
    (λ h. is h.4 (then' (run (is_in Hash) cs) (then' (past _) (then' (raw_end h.2) (either (is_well_formed h.0 (length (run_of (is_in Hash) cs))) (suffix h.1) (all h.1))))))
    (λ h. is h.1 (then' (run (is_in Hash) cs) (past _)))

invalid_word_end : (cs : List ℕ) (token : Lexeme) (rest : List ℕ) → IsInvalidWord cs token rest → IsEnd cs rest
invalid_word_end cs token rest h = is h.1 (run (is_in InvalidContinue) cs)

word_end : (edition : Edition) (c : ℕ) (cs : List ℕ) (token : Lexeme) (rest : List ℕ) → IsWord edition c cs token rest → IsEnd cs rest
word_end edition c cs token rest = by_cases (ends_prefix (after_run (is_in IdentContinue) cs))
    (λ h. is h.1 (run (is_in IdentContinue) cs))
    (by_cases (next_in Emoji (after_run (is_in IdentContinue) cs))
    (λ h. then' (run (is_in IdentContinue) cs) (invalid_word_end _ token rest h))
    (λ h. is h.1 (run (is_in IdentContinue) cs)))

past_r_end : (edition : Edition) (cs : List ℕ) (token : Lexeme) (rest : List ℕ) → IsPastR edition cs token rest → IsEnd cs rest
past_r_end edition cs token rest = by_cases (starts_raw_ident cs)
    (λ h. is h.1 (then' (past cs) (then' (past _) (run (is_in IdentContinue) _))))
    (by_cases (starts_raw cs) (raw_string_end _ cs token rest) (word_end edition (byte "r") cs token rest))

past_b_end : (edition : Edition) (cs : List ℕ) (token : Lexeme) (rest : List ℕ) → IsPastB edition cs token rest → IsEnd cs rest
past_b_end edition cs token rest = by_cases (next_is (byte "'") cs)
    (λ h. then' (past cs) (character_literal_end _ _ (tail cs) token rest h))
    (by_cases (next_is (byte "\"") cs)
    (λ h. then' (past cs) (string_literal_end _ _ (tail cs) token rest h))
    (by_cases (starts_prefixed_raw cs)
    (λ h. then' (past cs) (raw_string_end _ (tail cs) token rest h))
    (word_end edition (byte "b") cs token rest)))

past_c_end : (edition : Edition) (cs : List ℕ) (token : Lexeme) (rest : List ℕ) → IsPastC edition cs token rest → IsEnd cs rest
past_c_end edition cs token rest = by_cases (next_is (byte "\"") cs)
    (λ h. then' (past cs) (string_literal_end _ _ (tail cs) token rest h))
    (by_cases (starts_prefixed_raw cs)
    (λ h. then' (past cs) (raw_string_end _ (tail cs) token rest h))
    (word_end edition (byte "c") cs token rest))

word_like_end : (edition : Edition) (c : ℕ) (cs : List ℕ) (token : Lexeme) (rest : List ℕ) → IsWordLike edition c cs token rest → IsEnd cs rest
word_like_end edition c cs token rest = by_cases (c == byte "r") (past_r_end edition cs token rest)
    (by_cases (c == byte "b") (past_b_end edition cs token rest)
    (by_cases (c == byte "c") (past_c_end edition cs token rest) (word_end edition c cs token rest)))

slash_end : (cs : List ℕ) (token : Lexeme) (rest : List ℕ) → IsSlash cs token rest → IsEnd cs rest
slash_end cs token rest = by_cases (next_is (byte "/") cs)
    (λ h. then' (past cs) (line_comment_end (tail cs) token rest h))
    (by_cases (next_is (byte "*") cs) (λ h. then' (past cs) (block_comment_end (tail cs) token rest h)) (λ h. is h.1 (all cs)))

hash_end : (edition : Edition) (cs : List ℕ) (token : Lexeme) (rest : List ℕ) → IsHash edition cs token rest → IsEnd cs rest
hash_end edition cs token rest = by_cases (is_reserved_hash edition cs) (λ h. is h.1 (past cs)) (λ h. is h.1 (all cs))

sign_end : (edition : Edition) (c : ℕ) (cs : List ℕ) (token : Lexeme) (rest : List ℕ) → IsSign edition c cs token rest → IsEnd cs rest
sign_end edition c cs token rest = by_cases (c == byte "/") (slash_end cs token rest)
    (by_cases (c == byte "'") (tick_end cs token rest)
    (by_cases (c == byte "\"") (string_literal_end _ _ cs token rest)
    (by_cases (c == byte "#") (hash_end edition cs token rest)
    (by_cases (is_in Emoji c) (invalid_word_end cs token rest) (λ h. is h.1 (all cs))))))

pub prefix_of : (edition : Edition) (cs : List ℕ) (token : Lexeme) (rest : List ℕ) → First edition cs token rest → IsPrefix cs rest
prefix_of edition [] token rest h = absurd h
prefix_of edition (c ∷ cs) token rest h =
    let e : IsEnd cs rest =
    by_cases (is_in White c) (λ w. is w.1 (run (is_in White) cs))
    (by_cases (is_in IdentStart c) (word_like_end edition c cs token rest)
    (by_cases (is_in Digit c) (number_end c cs token rest) (sign_end edition c cs token rest))) h in
    record { prefix = c ∷ e.prefix; join = ap (λ x. c ∷ x) e.join; some = omega arith }

-- a text with a byte has a character
pub has_character : (bytes cs : List ℕ) → encode_utf8_all cs ≡ bytes → 0 < length bytes → 0 < length cs
has_character bytes [] e h = absurd (omega (arith, ap length e))
has_character bytes (c ∷ cs) e h = omega arith
