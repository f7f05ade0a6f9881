-- The table of the classes of bytes, row by row.
use Rattle.std.proofs.Common.{◌≡◌, ◌<◌, ℕ, zero, suc, Bool, true, false, ◌&&◌, ◌||◌, ◌==◌, not, nat_lt, if◌then◌else◌, get_or, refl, sym, ◌∙◌, subst, inl, inr, arith}
use Rattle.std.proofs.lemmas.Bool.{and_parts, eqb-true, lt-ltb, ltb-true}
use Rattle.std.proofs.lemmas.Bool.Decides.{eqb_tells}
use Rattle.std.specs.Char.{is_ascii_alphabetic, is_ascii_alphanumeric}
use Rattle.std.specs.Str.{byte}
use Rattle.rap_base.specs.TokenKind.{STRING}
use Rattle.rap_lexer.specs.Class.{is_ascii_in}
use Rattle.rap_lexer.specs.Common.{is_lone, begins_white, ends_no_word}
use Rattle.rap_lexer.specs.First.{single_kind}
use Rattle.rap_lexer.specs.declared.lexer.common.TheConstants.{CLASSES, LAST_ALONE, WHITE, WORD, OTHER, PAST_ASCII}
use Rattle.rap_lexer.specs.declared.lexer.run.TheConstants.{HEXADECIMAL}
use Rattle.rap_lexer.specs.declared.lexer.run.Class.TheVariants.{White, IdentStart, IdentContinue, Digit, DigitOrUnderscore, HexOrUnderscore}
use Rattle.rap_lexer.proofs.AsciiClasses.{starts, continues}

-- the test holds of the numbers below n
abbrev below : (ℕ → Bool) → ℕ → Bool
below p zero = true
below p (suc n) = p n && below p n

each : (p : ℕ → Bool) (n : ℕ) → below p n ≡ true → (k : ℕ) → k < n → p k ≡ true
each p zero h k l = absurd (omega (arith, l))
each p (suc n) h k l =
    let parts = and_parts (p n) (below p n) h in
    elim (eqb_tells k n) [
      | inl e ↦ subst (λ i. p i ≡ true) (sym e.1) parts.0
      | inr e ↦ each p n parts.1 k (omega (arith, l, e.1))
    ]

abbrev same : Bool → Bool → Bool
same true b = b
same false b = not b

are_same : (a b : Bool) → same a b ≡ true → a ≡ b
are_same true b h = sym h
are_same false true h = cc
are_same false false h = refl

follows : (a b : Bool) → (not a || b) ≡ true → a ≡ true → b ≡ true
follows true b h e = h
follows false b h e = cc

-- the entry of a byte
abbrev pub entry : ℕ → ℕ
entry b = get_or CLASSES b 0

abbrev is_start : ℕ → Bool
is_start b = (b == 95) || is_ascii_alphabetic b

pub lone_row : (b : ℕ) → b < 256 → nat_lt (entry b) WHITE ≡ is_lone b
lone_row b l = are_same _ _ (each (λ b. same (nat_lt (entry b) WHITE) (is_lone b)) 256 refl b l)

pub kind_row : (b : ℕ) → b < 256 → entry b < WHITE → entry b ≡ single_kind b
kind_row b l h = eqb-true (entry b) (single_kind b) (follows _ _ (each (λ b. not (nat_lt (entry b) WHITE) || (entry b == single_kind b)) 256 refl b l) (lt-ltb (entry b) WHITE h))

pub white_row : (b : ℕ) → b < 256 → (entry b == WHITE) ≡ is_ascii_in White b
white_row b l = are_same _ _ (each (λ b. same (entry b == WHITE) (is_ascii_in White b)) 256 refl b l)

pub word_row : (b : ℕ) → b < 256 → (entry b == WORD) ≡ is_ascii_in IdentStart b
word_row b l = are_same _ _ (each (λ b. same (entry b == WORD) (is_start b)) 256 refl b l) ∙ starts b

pub end_row : (b : ℕ) → b < 256 → nat_lt OTHER (entry b) ≡ ends_no_word b
end_row b l = are_same _ _ (each (λ b. same (nat_lt OTHER (entry b)) (ends_no_word b)) 256 refl b l)

pub past_row : (b : ℕ) → b < 256 → (entry b == PAST_ASCII) ≡ nat_lt 127 b
past_row b l = are_same _ _ (each (λ b. same (entry b == PAST_ASCII) (nat_lt 127 b)) 256 refl b l)

pub few_row : (b : ℕ) → b < 256 → entry b < WHITE → entry b < 29
few_row b l h = ltb-true (entry b) 29 (follows _ _ (each (λ b. not (nat_lt (entry b) WHITE) || nat_lt (entry b) 29) 256 refl b l) (lt-ltb (entry b) WHITE h))

pub alone_row : (b : ℕ) → b < 256 → get_or LAST_ALONE b 0 ≡ (if is_ascii_in White b || begins_white b then 150 else WHITE)
alone_row b l = eqb-true _ _ (each (λ b. get_or LAST_ALONE b 0 == (if is_ascii_in White b || begins_white b then 150 else WHITE)) 256 refl b l)

-- no white space begins a word
pub no_white : (b : ℕ) → b < 256 → is_ascii_in IdentStart b ≡ true → is_ascii_in White b ≡ false
no_white b l h = are_same _ _ (follows _ _ (each (λ b. not (is_start b) || same (is_ascii_in White b) false) 256 refl b l) (starts b ∙ h))

-- what begins a word goes on with it
pub goes_on : (b : ℕ) → b < 256 → is_ascii_in IdentStart b ≡ true → is_ascii_in IdentContinue b ≡ true
goes_on b l h = sym (continues b) ∙ follows _ _ (each (λ b. not (is_start b) || ((b == 95) || is_ascii_alphanumeric b)) 256 refl b l) (starts b ∙ h)

-- the other rules of first characters name no character that is a token of its own
abbrev is_other : ℕ → Bool
is_other b = not (is_ascii_in Digit b) && (not (b == byte "/") && (not (b == byte "'") && (not (b == byte "\"") && not (b == byte "#"))))

pub no_rule : (b : ℕ) → b < 256 → is_lone b ≡ true → is_other b ≡ true
no_rule b l = follows _ _ (each (λ b. not (is_lone b) || is_other b) 256 refl b l)

pub lone_no_white : (b : ℕ) → b < 256 → is_lone b ≡ true → is_ascii_in White b ≡ false
lone_no_white b l h = are_same _ _ (follows _ _ (each (λ b. not (is_lone b) || same (is_ascii_in White b) false) 256 refl b l) h)

pub lone_no_word : (b : ℕ) → b < 256 → is_lone b ≡ true → is_ascii_in IdentStart b ≡ false
lone_no_word b l h = sym (starts b) ∙ are_same _ _ (follows _ _ (each (λ b. not (is_lone b) || same (is_start b) false) 256 refl b l) h)

pub lone_no_string : (b : ℕ) → b < 256 → is_lone b ≡ true → (single_kind b == STRING) ≡ false
lone_no_string b l h = are_same _ _ (follows _ _ (each (λ b. not (is_lone b) || same (single_kind b == STRING) false) 256 refl b l) h)

-- no digit is white space or begins a word, and what begins a run of digits goes on with it
pub digit_no_white : (b : ℕ) → b < 256 → is_ascii_in Digit b ≡ true → is_ascii_in White b ≡ false
digit_no_white b l h = are_same _ _ (follows _ _ (each (λ b. not (is_ascii_in Digit b) || same (is_ascii_in White b) false) 256 refl b l) h)

pub digit_no_word : (b : ℕ) → b < 256 → is_ascii_in Digit b ≡ true → is_ascii_in IdentStart b ≡ false
digit_no_word b l h = sym (starts b) ∙ are_same _ _ (follows _ _ (each (λ b. not (is_ascii_in Digit b) || same (is_start b) false) 256 refl b l) h)

pub digit_goes_on : (b : ℕ) → b < 256 → is_ascii_in Digit b ≡ true → is_ascii_in DigitOrUnderscore b ≡ true
digit_goes_on b l h = follows _ _ (each (λ b. not (is_ascii_in Digit b) || is_ascii_in DigitOrUnderscore b) 256 refl b l) h

-- the table of hexadecimal digits and `_`
pub hexadecimal_row : (b : ℕ) → b < 256 → (get_or HEXADECIMAL b 0 == 1) ≡ is_ascii_in HexOrUnderscore b
hexadecimal_row b l = are_same _ _ (each (λ b. same (get_or HEXADECIMAL b 0 == 1) (is_ascii_in HexOrUnderscore b)) 256 refl b l)
