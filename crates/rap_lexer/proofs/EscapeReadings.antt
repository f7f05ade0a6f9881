-- Whatever follows a backslash is read in some way.
use Rattle.std.proofs.Common.{◌≡◌, ◌≢◌, ℕ, ◌≤◌, Bool, true, false, List, [], ◌∷◌, ◌++◌, ◌⊎◌, inl, inr, length, Result, nat_eq, nat_lt, refl, sym, subst, arith, append_assoc, length-append}
use Rattle.std.proofs.lemmas.Bool.{ltb-true, ltb-false}
use Rattle.std.proofs.lemmas.Bool.Decides.{eqb_tells}
use Rattle.std.proofs.lemmas.List.{append-nil}
use Rattle.std.specs.Char.{digit_value}
use Rattle.rap_lexer.specs.declared.escape.Mode.{Mode}
use Rattle.rap_lexer.specs.declared.escape.Fault.{Fault}
use Rattle.rap_lexer.specs.Escape.{Escape, IsHexDigit, IsDigitOrUnderscore, AreDigits, simple_escape, unicode_escape, without_underscores}
use Rattle.rap_lexer.specs.Escape.Escape.{alone, hex_short_first, hex_short_second, hex_wrong_first, hex_wrong_second, hex, no_brace_at_end, no_brace, leading_underscore, empty, unclosed, foreign, closed}
use Rattle.rap_lexer.proofs.EscapeRules.{one_character}
use Rattle.rap_lexer.proofs.EscapeDigits.{allowed_push}

-- a reading
pub record Read (mode : Mode) (cs : List ℕ) : Type 0 where
  pub outcome : Result ℕ Fault
  pub rest : List ℕ
  pub escape : Escape mode cs outcome rest
  pub no_longer : length rest ≤ length cs

hex_or_not : (c : ℕ) → IsHexDigit c ⊎ (16 ≤ digit_value c)
hex_or_not c = by_test (nat_lt (digit_value c) 16) refl
  where
    by_test : (b : Bool) → nat_lt (digit_value c) 16 ≡ b → IsHexDigit c ⊎ (16 ≤ digit_value c)
    by_test true e = inl (ltb-true (digit_value c) 16 e)
    by_test false e = inr (ltb-false (digit_value c) 16 e)

read : {mode : Mode} {cs rest : List ℕ} {outcome : Result ℕ Fault} → Escape mode cs outcome rest → length rest ≤ length cs → Read mode cs
read {mode} {cs} {rest} {outcome} e h = record { outcome = outcome; rest = rest; escape = e; no_longer = h }

some_hex : (mode : Mode) (cs : List ℕ) → Read mode (120 ∷ cs)
some_hex mode [] = read hex_short_first (omega arith)
some_hex mode (a ∷ cs) = elim (hex_or_not a) [ inl h ↦ second cs h | inr h ↦ read (hex_wrong_first a cs h) (omega arith) ]
  where
    second : (ds : List ℕ) → IsHexDigit a → Read mode (120 ∷ a ∷ ds)
    second [] h = read (hex_short_second a h) (omega arith)
    second (b ∷ ds) h = elim (hex_or_not b) [ inl k ↦ read (hex a b ds h k) (omega arith) | inr k ↦ read (hex_wrong_second a b ds h k) (omega arith) ]

-- the text after a `\u{` and a digit
abbrev after_digit : ℕ → List ℕ → List ℕ
after_digit c cs = 117 ∷ 123 ∷ c ∷ cs

one_digit : (mode : Mode) (c : ℕ) (prefix : List ℕ) (d : ℕ) (cs : List ℕ) → AreDigits (c ∷ prefix) → (IsDigitOrUnderscore d → Read mode (after_digit c (prefix ++ d ∷ cs))) → Read mode (after_digit c (prefix ++ d ∷ cs))
one_digit mode c prefix d cs a more = by_character (eqb_tells d 125) (hex_or_not d) (eqb_tells d 95)
  where
    shorter : length cs ≤ length (after_digit c (prefix ++ d ∷ cs))
    shorter = omega (arith, length-append prefix (d ∷ cs))

    by_character : ((nat_eq d 125 ≡ true) × (d ≡ 125)) ⊎ ((nat_eq d 125 ≡ false) × (d ≢ 125)) → IsHexDigit d ⊎ (16 ≤ digit_value d) → ((nat_eq d 95 ≡ true) × (d ≡ 95)) ⊎ ((nat_eq d 95 ≡ false) × (d ≢ 95)) → Read mode (after_digit c (prefix ++ d ∷ cs))
    by_character (inl e) h f = read (subst (λ x. Escape mode (after_digit c (prefix ++ x ∷ cs)) (unicode_escape mode (without_underscores (c ∷ prefix))) cs) (sym e.1) (closed (c ∷ prefix) cs a)) shorter
    by_character (inr e) (inl h) f = more (inl h)
    by_character (inr e) (inr h) (inl f) = more (inr f.1)
    by_character (inr e) (inr h) (inr f) = read (foreign (c ∷ prefix) d cs a (h, f.1, e.1)) shorter

some_digits : (mode : Mode) (c : ℕ) (prefix cs : List ℕ) → AreDigits (c ∷ prefix) → Read mode (after_digit c (prefix ++ cs))
some_digits mode c prefix [] a = subst (λ l. Read mode (after_digit c l)) (sym (append-nil prefix)) (read (unclosed (c ∷ prefix) a) (omega arith))
some_digits mode c prefix (d ∷ cs) a = one_digit mode c prefix d cs a (λ h. subst (λ l. Read mode (after_digit c l)) (append_assoc prefix (d ∷ []) cs) (some_digits mode c (prefix ++ d ∷ []) cs (a.0, allowed_push prefix d a.1 h)))

some_braced : (mode : Mode) (cs : List ℕ) → Read mode (117 ∷ 123 ∷ cs)
some_braced mode [] = read (unclosed [] tt) (omega arith)
some_braced mode (c ∷ cs) = elim (hex_or_not c) [ inl h ↦ some_digits mode c [] cs (h, tt) | inr h ↦ other h (eqb_tells c 95) (eqb_tells c 125) ]
  where
    other : 16 ≤ digit_value c → ((nat_eq c 95 ≡ true) × (c ≡ 95)) ⊎ ((nat_eq c 95 ≡ false) × (c ≢ 95)) → ((nat_eq c 125 ≡ true) × (c ≡ 125)) ⊎ ((nat_eq c 125 ≡ false) × (c ≢ 125)) → Read mode (117 ∷ 123 ∷ c ∷ cs)
    other h (inl e) f = rw e.1 (read (leading_underscore cs) (omega arith))
    other h (inr e) (inl f) = rw f.1 (read (empty cs) (omega arith))
    other h (inr e) (inr f) = read (foreign [] c cs tt (h, e.1, f.1)) (omega arith)

some_unicode : (mode : Mode) (cs : List ℕ) → Read mode (117 ∷ cs)
some_unicode mode [] = read no_brace_at_end (omega arith)
some_unicode mode (c ∷ cs) = elim (eqb_tells c 123) [ inl e ↦ rw e.1 (some_braced mode cs) | inr e ↦ read (no_brace c cs e.1) (omega arith) ]

pub some_reading : (mode : Mode) (cs : List ℕ) → Read mode cs
some_reading mode [] = read alone (omega arith)
some_reading mode (c ∷ cs) = first (eqb_tells c 120) (eqb_tells c 117)
  where
    first : ((nat_eq c 120 ≡ true) × (c ≡ 120)) ⊎ ((nat_eq c 120 ≡ false) × (c ≢ 120)) → ((nat_eq c 117 ≡ true) × (c ≡ 117)) ⊎ ((nat_eq c 117 ≡ false) × (c ≢ 117)) → Read mode (c ∷ cs)
    first (inl e) f = rw e.1 (some_hex mode cs)
    first (inr e) (inl f) = rw f.1 (some_unicode mode cs)
    first (inr e) (inr f) = read (one_character mode c cs (simple_escape c) refl e.1 f.1) (omega arith)
