-- The first token of a text has a token's kind, and not the end's.
use Rattle.std.proofs.Common.{inl, inr, ◌≡◌, ◌≢◌, ℕ, Bool, true, false, List, [], ◌∷◌, MatchBool, MatchOption, Option, Some, None, ◌==◌, ◌&&◌, if◌then◌else◌, ap, sym, ◌∙◌, refl, subst}
use Rattle.std.specs.Prelude.{nat_lt, not, unwrap_or, bytes_eq, codes, encode_utf8_all}
use Rattle.std.specs.List.{list_all}
use Rattle.std.specs.Str.{byte}
use Rattle.std.proofs.lemmas.Bool.{and_parts, cases_Bool, cond-true, cond-false}
use Rattle.rap_lexer.specs.Class.{is_in}
use Rattle.rap_lexer.specs.Comment.{line_kind, block_kind}
use Rattle.rap_lexer.specs.First.{First, IsSlash, IsHash, IsSign, is_reserved_hash, single_kind}
use Rattle.rap_base.specs.Keyword.{from_keyword, kind_of_word, reserved}
use Rattle.rap_lexer.specs.Lexeme.{plain, with_remark}
use Rattle.rap_lexer.specs.Number.{IsExponent, IsFraction, IsPastDigits, IsBased, IsNumber, base_of, takes_dot, starts_exponent, has_digit}
use Rattle.rap_lexer.specs.Quoted.{StringRun, CharacterEnds, IsLiteral, IsLifetime, IsCommonLifetime, IsTick, IsRawString, is_raw_lifetime, starts_lifetime}
use Rattle.rap_lexer.specs.Run.{next_is, next_in, tail, run_of, after_run}
use Rattle.rap_base.specs.TokenKind.{EOF, IDENT, STRING, UNDERSCORE}
use Rattle.rap_base.specs.TokenTests.{IsTokenKind, is_token}
use Rattle.rap_lexer.specs.Word.{IsWord, IsPastR, IsPastB, IsPastC, IsWordLike, ends_prefix, starts_raw_ident, starts_raw, starts_prefixed_raw, word_kind}
use Rattle.rap_base.specs.declared.edition.Edition.{Edition}
use Rattle.rap_base.specs.declared.edition.Edition.TheVariants.{Edition2015, Edition2018, Edition2021, Edition2024}
use Rattle.rap_lexer.specs.declared.escape.Mode.{Mode}
use Rattle.rap_lexer.specs.declared.lexer.lexeme.Lexeme.{Lexeme}
use Rattle.rap_lexer.specs.declared.lexer.lexeme.Remark.TheVariants.{OpenComment}
use Rattle.rap_lexer.specs.declared.lexer.run.Class.{Class}
use Rattle.rap_lexer.specs.declared.lexer.run.Class.TheVariants.{White, IdentStart, IdentContinue, Emoji, Digit, DigitOrUnderscore, Hash}

-- a number past that of the end, up to that of the last token's kind
abbrev is_low : ℕ → Bool
is_low kind = nat_lt 0 kind && is_token kind

choose : (b : Bool) (x y : ℕ) → is_low x ≡ true → is_low y ≡ true → is_low (if b then x else y) ≡ true
choose true x y p q = p
choose false x y p q = q

by_cases : (b : Bool) {P Q G : Type 0} → (P → G) → (Q → G) → MatchBool b P Q → G
by_cases true f g h = f h
by_cases false f g h = g h

by_option : (o : Option Class) {P : Type 0} {Q : Class → Type 0} {G : Type 0} → (P → G) → ((class : Class) → Q class → G) → MatchOption o P Q → G
by_option None f g h = f h
by_option (Some class) f g h = g class h

-- a token's kind is such a number
abbrev Low : Lexeme → Type 0
Low token = is_low token.kind ≡ true

is : {token this : Lexeme} → token ≡ this → Low this → Low token
is e h = subst Low (sym e) h

line_low : (cs : List ℕ) → is_low (line_kind cs) ≡ true
line_low cs = choose (next_is (byte "!") cs) _ _ refl (choose (next_is (byte "/") cs && not (next_is (byte "/") (tail cs))) _ _ refl refl)

block_low : (cs : List ℕ) → is_low (block_kind cs) ≡ true
block_low cs = choose (next_is (byte "!") cs) _ _ refl (choose (next_is (byte "*") cs && not (next_is (byte "*") (tail cs)) && not (next_is (byte "/") (tail cs))) _ _ refl refl)

single_low : (c : ℕ) → is_low (single_kind c) ≡ true
single_low c = choose (c == byte ";") _ _ refl (choose (c == byte ",") _ _ refl (choose (c == byte "(") _ _ refl (choose (c == byte ")") _ _ refl (choose (c == byte "{") _ _ refl (choose (c == byte "}") _ _ refl (choose (c == byte "[") _ _ refl (choose (c == byte "]") _ _ refl (choose (c == byte "<") _ _ refl (choose (c == byte ">") _ _ refl (choose (c == byte "@") _ _ refl (choose (c == byte "#") _ _ refl (choose (c == byte "~") _ _ refl (choose (c == byte "?") _ _ refl (choose (c == byte "$") _ _ refl (choose (c == byte "&") _ _ refl (choose (c == byte "|") _ _ refl (choose (c == byte "+") _ _ refl (choose (c == byte "*") _ _ refl (choose (c == byte "/") _ _ refl (choose (c == byte "^") _ _ refl (choose (c == byte "%") _ _ refl (choose (c == byte ".") _ _ refl (choose (c == byte ":") _ _ refl (choose (c == byte "=") _ _ refl (choose (c == byte "!") _ _ refl (choose (c == byte "-") _ _ refl (refl)))))))))))))))))))))))))))

rows_low : (rows : List (List ℕ × ℕ)) (text : List ℕ) → list_all (λ row. is_low row.1) rows ≡ true → is_low (unwrap_or (kind_of_word rows text) IDENT) ≡ true
rows_low [] text h = refl
rows_low (row ∷ rows) text h =
    let all = and_parts (is_low row.1) (list_all (λ row. is_low row.1) rows) h in
    elim (cases_Bool (bytes_eq text row.0)) as (λ _. is_low (unwrap_or (kind_of_word (row ∷ rows) text) IDENT) ≡ true) [
      | inl e ↦ ap (λ k. is_low (unwrap_or k IDENT)) (cond-true (bytes_eq text row.0) (Some row.1) (kind_of_word rows text) e) ∙ all.0
      | inr e ↦ ap (λ k. is_low (unwrap_or k IDENT)) (cond-false (bytes_eq text row.0) (Some row.1) (kind_of_word rows text) e) ∙ rows_low rows text all.1
    ]

keyword_low : (text : List ℕ) (edition : Edition) → is_low (unwrap_or (from_keyword text edition) IDENT) ≡ true
keyword_low text Edition2015 = rows_low (reserved Edition2015) text refl
keyword_low text Edition2018 = rows_low (reserved Edition2018) text refl
keyword_low text Edition2021 = rows_low (reserved Edition2021) text refl
keyword_low text Edition2024 = rows_low (reserved Edition2024) text refl

word_low : (edition : Edition) (text : List ℕ) → is_low (word_kind edition text) ≡ true
word_low edition text = choose (bytes_eq text (codes "_")) _ _ refl (keyword_low text edition)

-- no word is a string
rows_no_string : (rows : List (List ℕ × ℕ)) (text : List ℕ) → list_all (λ row. not (row.1 == STRING)) rows ≡ true → (unwrap_or (kind_of_word rows text) IDENT == STRING) ≡ false
rows_no_string [] text h = refl
rows_no_string (row ∷ rows) text h =
    let all = and_parts (not (row.1 == STRING)) (list_all (λ row. not (row.1 == STRING)) rows) h in
    elim (cases_Bool (bytes_eq text row.0)) as (λ _. (unwrap_or (kind_of_word (row ∷ rows) text) IDENT == STRING) ≡ false) [
      | inl e ↦ ap (λ k. unwrap_or k IDENT == STRING) (cond-true (bytes_eq text row.0) (Some row.1) (kind_of_word rows text) e) ∙ is_no (row.1 == STRING) all.0
      | inr e ↦ ap (λ k. unwrap_or k IDENT == STRING) (cond-false (bytes_eq text row.0) (Some row.1) (kind_of_word rows text) e) ∙ rows_no_string rows text all.1
    ]
  where
    is_no : (b : Bool) → not b ≡ true → b ≡ false
    is_no true e = cc
    is_no false e = refl

keyword_no_string : (text : List ℕ) (edition : Edition) → (unwrap_or (from_keyword text edition) IDENT == STRING) ≡ false
keyword_no_string text Edition2015 = rows_no_string (reserved Edition2015) text refl
keyword_no_string text Edition2018 = rows_no_string (reserved Edition2018) text refl
keyword_no_string text Edition2021 = rows_no_string (reserved Edition2021) text refl
keyword_no_string text Edition2024 = rows_no_string (reserved Edition2024) text refl

pub word_no_string : (edition : Edition) (text : List ℕ) → word_kind edition text ≢ STRING
word_no_string edition text e = by_test (bytes_eq text (codes "_")) (ap (λ k. k == STRING) e)
  where
    by_test : (b : Bool) → ((if b then UNDERSCORE else unwrap_or (from_keyword text edition) IDENT) == STRING) ≡ true → ⊥
    by_test true h = cc
    by_test false h = let f = keyword_no_string text edition in cc

exponent : (cs : List ℕ) (token : Lexeme) (rest : List ℕ) → IsExponent cs token rest → Low token
exponent cs token rest h = is h.0 refl

fraction : (cs : List ℕ) (token : Lexeme) (rest : List ℕ) → IsFraction cs token rest → Low token
fraction cs token rest = by_cases (next_in Digit cs && starts_exponent (after_run (is_in DigitOrUnderscore) cs)) (exponent (tail (after_run (is_in DigitOrUnderscore) cs)) token rest) (λ h. is h.0 refl)

past_digits : (cs : List ℕ) (token : Lexeme) (rest : List ℕ) → IsPastDigits cs token rest → Low token
past_digits cs token rest = by_cases (takes_dot cs) (fraction (tail cs) token rest) (by_cases (starts_exponent cs) (exponent (tail cs) token rest) (λ h. is h.0 refl))

based : (class : Class) (cs : List ℕ) (token : Lexeme) (rest : List ℕ) → IsBased class cs token rest → Low token
based class cs token rest = by_cases (has_digit class cs) (past_digits (after_run (is_in class) cs) token rest) (λ h. is h.0 refl)

number : (c : ℕ) (cs : List ℕ) (token : Lexeme) (rest : List ℕ) → IsNumber c cs token rest → Low token
number c cs token rest = by_option (base_of c cs) (past_digits (after_run (is_in DigitOrUnderscore) cs) token rest) (λ class. based class (tail cs) token rest)

literal_of : (Run : List ℕ → Bool → List ℕ → Type 0) (kind : ℕ) (mode : Mode) (cs : List ℕ) (token : Lexeme) (rest : List ℕ) → is_low kind ≡ true → IsLiteral Run kind mode cs token rest → Low token
literal_of Run kind mode cs token rest low h = is h.3 low

common_lifetime : (cs : List ℕ) (token : Lexeme) (rest : List ℕ) → IsCommonLifetime cs token rest → Low token
common_lifetime cs token rest = by_cases (next_is (byte "'") (after_run (is_in IdentContinue) (tail cs))) (λ h. is h.0 refl) (λ h. is h.1 refl)

lifetime : (cs : List ℕ) (token : Lexeme) (rest : List ℕ) → IsLifetime cs token rest → Low token
lifetime cs token rest = by_cases (is_raw_lifetime cs) (λ h. is h.0 refl) (common_lifetime cs token rest)

tick : (cs : List ℕ) (token : Lexeme) (rest : List ℕ) → IsTick cs token rest → Low token
tick cs token rest = by_cases (starts_lifetime cs) (lifetime cs token rest) (literal_of CharacterEnds _ _ cs token rest refl)

raw_string : (kind : ℕ) (cs : List ℕ) (token : Lexeme) (rest : List ℕ) → is_low kind ≡ true → IsRawString kind cs token rest → Low token
raw_string kind cs token rest low = by_cases (next_is (byte "\"") (after_run (is_in Hash) cs)) (λ h. is h.3 low) (λ h. is h.0 low)

word : (edition : Edition) (c : ℕ) (cs : List ℕ) (token : Lexeme) (rest : List ℕ) → IsWord edition c cs token rest → Low token
word edition c cs token rest = by_cases (ends_prefix (after_run (is_in IdentContinue) cs))
    (λ h. is h.0 refl)
    (by_cases (next_in Emoji (after_run (is_in IdentContinue) cs)) (λ h. is h.0 refl) (λ h. is h.0 (word_low edition (encode_utf8_all (c ∷ run_of (is_in IdentContinue) cs)))))

past_r : (edition : Edition) (cs : List ℕ) (token : Lexeme) (rest : List ℕ) → IsPastR edition cs token rest → Low token
past_r edition cs token rest = by_cases (starts_raw_ident cs) (λ h. is h.0 refl)
    (by_cases (starts_raw cs) (raw_string _ cs token rest refl) (word edition (byte "r") cs token rest))

past_b : (edition : Edition) (cs : List ℕ) (token : Lexeme) (rest : List ℕ) → IsPastB edition cs token rest → Low token
past_b edition cs token rest = by_cases (next_is (byte "'") cs) (literal_of CharacterEnds _ _ (tail cs) token rest refl)
    (by_cases (next_is (byte "\"") cs) (literal_of StringRun _ _ (tail cs) token rest refl)
    (by_cases (starts_prefixed_raw cs) (raw_string _ (tail cs) token rest refl) (word edition (byte "b") cs token rest)))

past_c : (edition : Edition) (cs : List ℕ) (token : Lexeme) (rest : List ℕ) → IsPastC edition cs token rest → Low token
past_c edition cs token rest = by_cases (next_is (byte "\"") cs) (literal_of StringRun _ _ (tail cs) token rest refl)
    (by_cases (starts_prefixed_raw cs) (raw_string _ (tail cs) token rest refl) (word edition (byte "c") cs token rest))

word_like : (edition : Edition) (c : ℕ) (cs : List ℕ) (token : Lexeme) (rest : List ℕ) → IsWordLike edition c cs token rest → Low token
word_like edition c cs token rest = by_cases (c == byte "r") (past_r edition cs token rest)
    (by_cases (c == byte "b") (past_b edition cs token rest)
    (by_cases (c == byte "c") (past_c edition cs token rest) (word edition c cs token rest)))

block_comment : (cs : List ℕ) (token : Lexeme) (rest : List ℕ) (closed : Bool) → token ≡ (if closed then plain (block_kind cs) else with_remark (block_kind cs) OpenComment) → Low token
block_comment cs token rest true e = is e (block_low cs)
block_comment cs token rest false e = is e (block_low cs)

slash : (cs : List ℕ) (token : Lexeme) (rest : List ℕ) → IsSlash cs token rest → Low token
slash cs token rest = by_cases (next_is (byte "/") cs) (λ h. is h.0 (line_low (tail cs)))
    (by_cases (next_is (byte "*") cs) (λ h. block_comment (tail cs) token rest h.0 h.1) (λ h. is h.0 refl))

hash : (edition : Edition) (cs : List ℕ) (token : Lexeme) (rest : List ℕ) → IsHash edition cs token rest → Low token
hash edition cs token rest = by_cases (is_reserved_hash edition cs) (λ h. is h.0 refl) (λ h. is h.0 refl)

sign : (edition : Edition) (c : ℕ) (cs : List ℕ) (token : Lexeme) (rest : List ℕ) → IsSign edition c cs token rest → Low token
sign edition c cs token rest = by_cases (c == byte "/") (slash cs token rest)
    (by_cases (c == byte "'") (tick cs token rest)
    (by_cases (c == byte "\"") (literal_of StringRun _ _ cs token rest refl)
    (by_cases (c == byte "#") (hash edition cs token rest)
    (by_cases (is_in Emoji c) (λ h. is h.0 refl) (λ h. is h.0 (single_low c))))))

low : (edition : Edition) (cs : List ℕ) (token : Lexeme) (rest : List ℕ) → First edition cs token rest → Low token
low edition [] token rest h = absurd h
low edition (c ∷ cs) token rest h =
    by_cases (is_in White c) (λ w. is w.0 refl)
    (by_cases (is_in IdentStart c) (word_like edition c cs token rest)
    (by_cases (is_in Digit c) (number c cs token rest) (sign edition c cs token rest))) h

no_end : (kind : ℕ) → nat_lt 0 kind ≡ true → kind ≢ EOF
no_end kind h e = let z : nat_lt 0 0 ≡ true = subst (λ (k : ℕ). nat_lt 0 k ≡ true) e h in cc

pub token_kind : (edition : Edition) (cs : List ℕ) (token : Lexeme) (rest : List ℕ) → First edition cs token rest → IsTokenKind token.kind
token_kind edition cs token rest h =
    let parts = and_parts (nat_lt 0 token.kind) (is_token token.kind) (low edition cs token rest h) in
    record { token = parts.1; some = no_end token.kind parts.0 }
