-- What the digits of a `\u{..}` come to as they are read.
use Rattle.std.proofs.Common.{◌≡◌, ◌≢◌, ℕ, ◌+◌, ◌*◌, ◌<◌, Bool, true, false, not, List, [], ◌∷◌, ◌++◌, inl, inr, length, min, refl, sym, ◌∙◌, ap, arith, nat_eq, append_assoc, subst, Option, Some, None, MatchOption, Result, Err}
use Rattle.std.proofs.lemmas.List.{append-nil, length_push}
use Rattle.std.proofs.lemmas.List.Elements.{filter-append}
use Rattle.std.proofs.lemmas.Bool.{ne_eqb, eqb-true, eqb-false}
use Rattle.std.specs.Option.{option_eq}
use Rattle.std.specs.List.{AllByRecursion}
use Rattle.std.specs.Char.{digit_value}
use Rattle.std.specs.Str.Parse.{digits_value, digits_value_after}
use Rattle.rap_lexer.specs.declared.escape.Mode.{Mode}
use Rattle.rap_lexer.specs.declared.escape.Fault.{Fault}
use Rattle.rap_lexer.specs.declared.escape.Fault.TheVariants.{NoBraceInUnicodeEscape, UnclosedUnicodeEscape, InvalidCharInUnicodeEscape}
use Rattle.rap_lexer.specs.Escape.{IsHexDigit, IsDigitOrUnderscore, IsForeign, without_underscores, unicode_escape, Escape}
use Rattle.rap_lexer.specs.Escape.Escape.{no_brace_at_end, no_brace, unclosed, foreign, closed}
use Rattle.rap_lexer.proofs.EscapeRules.{at}

-- after a digit of the value `first`, the characters `prefix` were read
pub record Read (first : ℕ) (start left : List ℕ) (digits value : ℕ) : Type 0 where
  pub prefix : List ℕ
  pub join : start ≡ prefix ++ left
  pub allowed : AllByRecursion IsDigitOrUnderscore prefix
  pub counted : digits ≡ min 7 (1 + length (without_underscores prefix))
  pub valued : value ≡ min 0x110000 (digits_value_after 16 first (without_underscores prefix))

pub allowed_push : (prefix : List ℕ) (c : ℕ) → AllByRecursion IsDigitOrUnderscore prefix → IsDigitOrUnderscore c → AllByRecursion IsDigitOrUnderscore (prefix ++ c ∷ [])
allowed_push [] c a h = (h, tt)
allowed_push (d ∷ ds) c a h = (a.0, allowed_push ds c a.1 h)

pub value_push : (n : ℕ) (cs : List ℕ) (c : ℕ) → digits_value_after 16 n (cs ++ c ∷ []) ≡ digits_value_after 16 n cs * 16 + digit_value c
value_push n [] c = refl
value_push n (d ∷ ds) c = value_push (n * 16 + digit_value d) ds c

counted_push : (digits : ℕ) (cs : List ℕ) (c more : ℕ) → digits ≡ min 7 (1 + length cs) → more ≡ min (digits + 1) 7 → more ≡ min 7 (1 + length (cs ++ c ∷ []))
counted_push digits cs c more e f = rw length_push (omega (arith, e, f))

-- a digit is no underscore
pub digit_stays : (c : ℕ) → IsHexDigit c → without_underscores (c ∷ []) ≡ c ∷ []
digit_stays c h =
    let other : c ≢ 95 = λ e. let f : digit_value 95 < 16 = subst (λ x. digit_value x < 16) e h in absurd (omega arith) in
    rw (ne_eqb c 95 other) refl

joined : (start prefix left rest : List ℕ) (c : ℕ) → start ≡ prefix ++ left → left ≡ c ∷ rest → start ≡ (prefix ++ c ∷ []) ++ rest
joined start prefix left rest c e f = e ∙ (ap (λ l. prefix ++ l) f ∙ sym (append_assoc prefix (c ∷ []) rest))

module _ (first : ℕ) (start left : List ℕ) (digits value : ℕ) (r : Read first start left digits value) where
  pub past_underscore : (rest : List ℕ) → left ≡ 95 ∷ rest → Read first start rest digits value
  past_underscore rest e =
      let f : without_underscores (r.prefix ++ 95 ∷ []) ≡ without_underscores r.prefix = filter-append _ r.prefix (95 ∷ []) ∙ append-nil _ in
      record {
        prefix = r.prefix ++ 95 ∷ [];
        join = joined start r.prefix left rest 95 r.join e;
        allowed = allowed_push r.prefix 95 r.allowed (inr refl);
        counted = rw f r.counted;
        valued = rw f r.valued;
      }

  pub past_digit : (c digit : ℕ) (rest : List ℕ) (more sum : ℕ) → left ≡ c ∷ rest → IsHexDigit c → digit_value c ≡ digit → more ≡ min (digits + 1) 7 → sum ≡ min (value * 16 + digit) 0x110000 → Read first start rest more sum
  past_digit c digit rest more sum e h d m s =
      let f : without_underscores (r.prefix ++ c ∷ []) ≡ without_underscores r.prefix ++ c ∷ [] = filter-append _ r.prefix (c ∷ []) ∙ ap (λ l. without_underscores r.prefix ++ l) (digit_stays c h) in
      record {
        prefix = r.prefix ++ c ∷ [];
        join = joined start r.prefix left rest c r.join e;
        allowed = allowed_push r.prefix c r.allowed (inl h);
        counted = rw f (counted_push digits (without_underscores r.prefix) c more r.counted m);
        valued = rw (f, value_push first (without_underscores r.prefix) c) (omega (arith, r.valued, s, d));
      }

  module _ (mode : Mode) (c : ℕ) (h : IsHexDigit c) where
    pub ends : left ≡ [] → Escape mode (117 ∷ 123 ∷ c ∷ start) (Err UnclosedUnicodeEscape) []
    ends e = at (unclosed (c ∷ r.prefix) (h, r.allowed)) (ap (λ l. 117 ∷ 123 ∷ c ∷ l) (r.join ∙ (ap (λ l. r.prefix ++ l) e ∙ append-nil r.prefix))) refl refl

    pub stops : (d : ℕ) (rest : List ℕ) → left ≡ d ∷ rest → IsForeign d → Escape mode (117 ∷ 123 ∷ c ∷ start) (Err InvalidCharInUnicodeEscape) rest
    stops d rest e f = at (foreign (c ∷ r.prefix) d rest (h, r.allowed) f) (ap (λ l. 117 ∷ 123 ∷ c ∷ l) (r.join ∙ ap (λ l. r.prefix ++ l) e)) refl refl

    pub closes : (rest : List ℕ) (outcome : Result ℕ Fault) → left ≡ 125 ∷ rest → digit_value c ≡ first → ((cs : List ℕ) → digits ≡ min 7 (length cs) → value ≡ min 0x110000 (digits_value 16 cs) → outcome ≡ unicode_escape mode cs) → Escape mode (117 ∷ 123 ∷ c ∷ start) outcome rest
    closes rest outcome e f k =
        let later = without_underscores r.prefix in
        let w : without_underscores (c ∷ r.prefix) ≡ c ∷ later = filter-append (λ d. not (nat_eq d 95)) (c ∷ []) r.prefix ∙ ap (λ l. l ++ later) (digit_stays c h) in
        let n : 0 * 16 + digit_value c ≡ first = omega arith in
        let v : digits_value 16 (c ∷ later) ≡ digits_value_after 16 first later = ap (λ x. digits_value_after 16 x later) n in
        at (closed (c ∷ r.prefix) rest (h, r.allowed)) (ap (λ l. 117 ∷ 123 ∷ c ∷ l) (r.join ∙ ap (λ l. r.prefix ++ l) e)) (k (c ∷ later) (omega (arith, r.counted)) (rw v r.valued) ∙ ap (unicode_escape mode) (sym w)) refl

-- the character after `\u`
pub at_brace : (old new : List ℕ) (r : Option ℕ) → MatchOption r ((old ≡ []) × (new ≡ [])) (λ c. old ≡ c ∷ new) → option_eq nat_eq r (Some 123) ≡ true → old ≡ 123 ∷ new
at_brace old new None e f = cc
at_brace old new (Some c) e f = e ∙ ap (λ x. x ∷ new) (eqb-true c 123 f)

pub at_no_brace : (mode : Mode) (old new : List ℕ) (r : Option ℕ) → MatchOption r ((old ≡ []) × (new ≡ [])) (λ c. old ≡ c ∷ new) → option_eq nat_eq r (Some 123) ≡ false → Escape mode (117 ∷ old) (Err NoBraceInUnicodeEscape) new
at_no_brace mode old new None e f = at no_brace_at_end (ap (λ l. 117 ∷ l) e.0) refl e.1
at_no_brace mode old new (Some c) e f = at (no_brace c new (eqb-false c 123 f)) (ap (λ l. 117 ∷ l) e) refl refl

pub not_true : (b c : Bool) → b ≡ not c → b ≡ true → c ≡ false
not_true b false e f = refl
not_true b true e f = cc

pub not_false : (b c : Bool) → b ≡ not c → b ≡ false → c ≡ true
not_false b false e f = cc
not_false b true e f = refl
