-- The walk over a body reports what the rules report.
use Rattle.std.proofs.Common.{◌≡◌, ◌≢◌, ℕ, ◌≤◌, true, false, not, ◌&&◌, if◌then◌else◌, List, [], ◌∷◌, ◌++◌, inl, inr, Some, None, Result, Ok, Err, nat_eq, nat_lt, refl, sym, ap, ◌∙◌, arith, append_assoc}
use Rattle.std.proofs.lemmas.Bool.{ne_eqb, lt-ltb, le-ltb}
use Rattle.std.proofs.lemmas.Bool.Decides.{eqb_tells}
use Rattle.std.proofs.lemmas.List.{append-nil}
use Rattle.std.specs.List.{AllByRecursion}
use Rattle.std.specs.Char.{digit_value}
use Rattle.rap_lexer.specs.declared.escape.Mode.{Mode}
use Rattle.rap_lexer.specs.declared.escape.Mode.TheVariants.{Char, Byte, Str, ByteStr, CStr}
use Rattle.rap_lexer.specs.declared.escape.Fault.{Fault}
use Rattle.rap_lexer.specs.declared.escape.Fault.TheVariants.{InvalidCharInUnicodeEscape}
use Rattle.rap_lexer.specs.Run.{after_run}
use Rattle.rap_lexer.specs.Escape.{Escape, Character, CharacterReports, StringReports, Reports, IsHexDigit, IsDigitOrUnderscore, IsForeign, AreDigits, is_single, is_gap, simple_escape, without_underscores, reported}
use Rattle.rap_lexer.specs.Escape.Escape.{alone, simple, unknown, hex_short_first, hex_short_second, hex_wrong_first, hex_wrong_second, hex, no_brace_at_end, no_brace, leading_underscore, empty, unclosed, foreign, closed}
use Rattle.rap_lexer.specs.Escape.Character.{plain, escaped}
use Rattle.rap_lexer.specs.Escape.CharacterReports.{empty as no_character, bare_return, faulty, more, one}
use Rattle.rap_lexer.specs.Escape.StringReports.{end, gap, next}
use Rattle.rap_lexer.specs.EscapeWalk.{faults_from, faults, reported_then, only_fault}
use Rattle.rap_lexer.specs.EscapeWalk.Place.{before_character, after_backslash, in_gap, in_digits}

-- no letter that begins a longer escape stands for one character
other_than : (c d value : ℕ) → simple_escape c ≡ Some value → simple_escape d ≡ None → c ≢ d
other_than c d value e f g = let h : simple_escape c ≡ None = rw g f in cc

below : (c : ℕ) → IsHexDigit c → nat_lt (digit_value c) 16 ≡ true
below c h = lt-ltb (digit_value c) 16 h

not_below : (c : ℕ) → 16 ≤ digit_value c → nat_lt (digit_value c) 16 ≡ false
not_below c h = le-ltb (digit_value c) 16 h

-- a digit is no `_`
no_underscore : (c : ℕ) → IsHexDigit c → nat_eq c 95 ≡ false
no_underscore c h = ne_eqb c 95 (λ e. let f : digit_value c ≡ digit_value 95 = ap digit_value e in absurd (omega arith))

fault_at_end : (mode : Mode) (fault : Fault) → fault ∷ [] ≡ reported_then mode (Err fault) [] []
fault_at_end Char fault = refl
fault_at_end Byte fault = refl
fault_at_end Str fault = refl
fault_at_end ByteStr fault = refl
fault_at_end CStr fault = refl

alone_at_end : (mode : Mode) → [] ≡ reported_then mode (Ok 92) [] []
alone_at_end Char = refl
alone_at_end Byte = refl
alone_at_end Str = refl
alone_at_end ByteStr = refl
alone_at_end CStr = refl

module _ (mode : Mode) where
  -- a character with this outcome, which these characters follow
  abbrev Reported : Result ℕ Fault → List ℕ → List Fault
  Reported outcome rest = reported_then mode outcome rest (faults_from mode before_character rest)

  -- the digits are passed over
  passes : (prefix cs rest : List ℕ) → AllByRecursion IsDigitOrUnderscore cs → faults_from mode (in_digits prefix) (cs ++ rest) ≡ faults_from mode (in_digits (prefix ++ without_underscores cs)) rest
  unfolding faults_from
  passes prefix [] rest a = rw append-nil refl
  passes prefix (c ∷ cs) rest (inl h, a) = rw (below c h, no_underscore c h) (passes (prefix ++ c ∷ []) cs rest a ∙ ap (λ l. faults_from mode (in_digits l) rest) (append_assoc prefix (c ∷ []) (without_underscores cs)))
  passes prefix (c ∷ cs) rest (inr e, a) = rw e (passes prefix cs rest a)

  -- after the first digit
  enters : (c : ℕ) (cs rest : List ℕ) → AreDigits (c ∷ cs) → faults_from mode after_backslash (117 ∷ 123 ∷ c ∷ (cs ++ rest)) ≡ faults_from mode (in_digits (without_underscores (c ∷ cs))) rest
  unfolding faults_from
  enters c cs rest a = rw (below c a.0, no_underscore c a.0) (passes (c ∷ []) cs rest a.1)

  foreign_first : (c : ℕ) (rest : List ℕ) → IsForeign c → faults_from mode after_backslash (117 ∷ 123 ∷ c ∷ rest) ≡ Reported (Err InvalidCharInUnicodeEscape) rest
  unfolding faults_from
  foreign_first c rest f = rw (not_below c f.0, ne_eqb c 95 f.1, ne_eqb c 125 f.2) refl

  foreign_later : (prefix : List ℕ) (c : ℕ) (rest : List ℕ) → IsForeign c → faults_from mode (in_digits prefix) (c ∷ rest) ≡ Reported (Err InvalidCharInUnicodeEscape) rest
  unfolding faults_from
  foreign_later prefix c rest f = rw (not_below c f.0, ne_eqb c 95 f.1, ne_eqb c 125 f.2) refl

  -- no gap begins here
  abbrev NoGap : List ℕ → Type 0
  NoGap cs = (rest : List ℕ) → cs ≡ 10 ∷ rest → is_single mode ≡ true

  no_line : (c : ℕ) (rest : List ℕ) → NoGap (c ∷ rest) → (nat_eq c 10 && not (is_single mode)) ≡ false
  no_line c rest n = elim (eqb_tells c 10) [ inl e ↦ rw (e.0, n rest (ap (λ x. x ∷ rest) e.1)) refl | inr e ↦ rw e.0 refl ]

  by_escape : {cs rest : List ℕ} {outcome : Result ℕ Fault} → NoGap cs → Escape mode cs outcome rest → faults_from mode after_backslash cs ≡ Reported outcome rest
  unfolding faults_from
  by_escape n alone = alone_at_end mode
  by_escape n (simple c value rest e) = rw (ne_eqb c 10 (other_than c 10 value e refl), ne_eqb c 120 (other_than c 120 value e refl), ne_eqb c 117 (other_than c 117 value e refl), e) refl
  by_escape n (unknown c rest e no_x no_u) = rw (no_line c rest n, ne_eqb c 120 no_x, ne_eqb c 117 no_u, e) refl
  by_escape n hex_short_first = fault_at_end mode _
  by_escape n (hex_short_second a h) = rw (below a h) (fault_at_end mode _)
  by_escape n (hex_wrong_first a rest h) = rw (not_below a h) refl
  by_escape n (hex_wrong_second a b rest h k) = rw (below a h, not_below b k) refl
  by_escape n (hex a b rest h k) = rw (below a h, below b k) refl
  by_escape n no_brace_at_end = fault_at_end mode _
  by_escape n (no_brace c rest e) = rw (ne_eqb c 123 e) refl
  by_escape n (leading_underscore rest) = refl
  by_escape n (empty rest) = refl
  by_escape n (unclosed [] a) = fault_at_end mode _
  by_escape n (unclosed (c ∷ cs) a) = ap (λ l. faults_from mode after_backslash (117 ∷ 123 ∷ c ∷ l)) (sym (append-nil cs)) ∙ (enters c cs [] a ∙ fault_at_end mode _)
  by_escape n (foreign [] c rest a f) = foreign_first c rest f
  by_escape n (foreign (d ∷ ds) c rest a f) = enters d ds (c ∷ rest) a ∙ foreign_later _ c rest f
  by_escape n (closed [] rest a) = absurd a
  by_escape n (closed (c ∷ cs) rest a) = enters c cs (125 ∷ rest) a

  by_character : {body rest : List ℕ} {outcome : Result ℕ Fault} → ((cs : List ℕ) → body ≡ 92 ∷ 10 ∷ cs → is_single mode ≡ true) → Character mode body outcome rest → faults_from mode before_character body ≡ Reported outcome rest
  unfolding faults_from
  by_character n (plain c rest e) = rw (ne_eqb c 92 e) refl
  by_character n (escaped cs outcome rest e) = by_escape (λ ds f. n ds (ap (λ l. 92 ∷ l) f)) e

  not_empty : {body rest : List ℕ} {outcome : Result ℕ Fault} → body ≡ [] → Character mode body outcome rest → ⊥
  not_empty e (plain c rest n) = cc
  not_empty e (escaped cs outcome rest r) = cc

  past_gap : (cs : List ℕ) → faults_from mode in_gap cs ≡ faults_from mode before_character (after_run is_gap cs)
  unfolding faults_from
  past_gap [] = refl
  past_gap (c ∷ cs) =
      let later = faults_from mode before_character (c ∷ cs) in
      elim (is_gap c) as (λ b. (if b then faults_from mode in_gap cs else later) ≡ faults_from mode before_character (if b then after_run is_gap cs else (c ∷ cs))) [ true ↦ past_gap cs | false ↦ refl ]

  module _ (string : is_single mode ≡ false) where
    pub by_string : {body : List ℕ} {reported_faults : List Fault} → StringReports mode body reported_faults → reported_faults ≡ faults_from mode before_character body
    unfolding faults_from
    by_string end = refl
    by_string (gap cs reported_faults t) = rw string (by_string t ∙ sym (past_gap cs))
    by_string (next body outcome rest later n r t) =
        let several : reported_then mode outcome rest (faults_from mode before_character rest) ≡ reported mode outcome ++ faults_from mode before_character rest = rw string refl in
        ap (λ l. reported mode outcome ++ l) (by_string t) ∙ (sym several ∙ sym (by_character (λ cs e. absurd (n cs e)) r))

    in_string : (body : List ℕ) → faults_from mode before_character body ≡ faults mode body
    unfolding faults faults_from
    in_string [] = rw string refl
    in_string (c ∷ cs) = rw string refl

  module _ (single : is_single mode ≡ true) where
    first : (body rest : List ℕ) (outcome : Result ℕ Fault) → ((cs : List ℕ) → body ≢ 13 ∷ cs) → Character mode body outcome rest → only_fault outcome rest ≡ faults mode body
    unfolding faults
    first [] rest outcome n r = absurd (not_empty refl r)
    first (c ∷ cs) rest outcome n r =
        let here : reported_then mode outcome rest (faults_from mode before_character rest) ≡ only_fault outcome rest = rw single refl in
        rw (single, ne_eqb c 13 (λ e. n cs (ap (λ x. x ∷ cs) e))) (sym here ∙ sym (by_character (λ ds e. single) r))

    by_single : {body : List ℕ} {reported_faults : List Fault} → CharacterReports mode body reported_faults → reported_faults ≡ faults mode body
    unfolding faults
    by_single no_character = rw single refl
    by_single (bare_return rest) = rw single refl
    by_single (faulty body fault rest n r) = first body rest (Err fault) n r
    by_single (more body value c rest n r) = first body (c ∷ rest) (Ok value) n r
    by_single (one body value n r) = first body [] (Ok value) n r

-- the rules report the list of the walk
pub reported_is : (mode : Mode) (body : List ℕ) (reported_faults : List Fault) → Reports mode body reported_faults → reported_faults ≡ faults mode body
reported_is Char body l t = by_single Char refl t
reported_is Byte body l t = by_single Byte refl t
reported_is Str body l t = by_string Str refl t ∙ in_string Str refl body
reported_is ByteStr body l t = by_string ByteStr refl t ∙ in_string ByteStr refl body
reported_is CStr body l t = by_string CStr refl t ∙ in_string CStr refl body
