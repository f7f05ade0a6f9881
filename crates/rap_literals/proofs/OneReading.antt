-- A literal is read in one way.
use Rattle.std.proofs.Common.{◌≡◌, ℕ, Bool, true, false, not, if◌then◌else◌, List, [], ◌∷◌, ◌++◌, length, Some, None, Result, Ok, Err, nat_eq, chars, inl, inr, refl, sym, ap, ◌∙◌, subst, arith}
use Rattle.std.proofs.lemmas.Bool.{ne_eqb}
use Rattle.std.specs.Char.{digit_value}
use Rattle.std.specs.List.{AllByRecursion}
use Rattle.std.specs.Option.{ok_or}
use Rattle.std.specs.Str.Parse.{digits_value}
use Rattle.rap_lexer.specs.Escape.{Escape, Character, IsDigitOrUnderscore, AreDigits, is_gap, simple_escape, hex_escape, unicode_escape, plain_character, without_underscores}
use Rattle.rap_lexer.specs.Escape.Escape.{alone, simple, unknown, hex_short_first, hex_short_second, hex_wrong_first, hex_wrong_second, hex, no_brace_at_end, no_brace, leading_underscore, empty, unclosed, foreign, closed}
use Rattle.rap_lexer.specs.Escape.Character.{plain, escaped}
use Rattle.rap_lexer.specs.Run.{tail, run_of, after_run}
use Rattle.rap_lexer.specs.declared.escape.Fault.{Fault}
use Rattle.rap_lexer.specs.declared.escape.Fault.TheVariants.{InvalidEscape}
use Rattle.rap_lexer.specs.declared.escape.Mode.{Mode}
use Rattle.rap_literals.proofs.Cuts.{quoted_once}
use Rattle.rap_literals.proofs.Pieces.{takes_one}
use Rattle.rap_literals.specs.Literal.{StringLiteral, CharacterLiteral}
use Rattle.rap_literals.specs.Literal.StringLiteral.{escaped as with_escapes, raw}
use Rattle.rap_literals.specs.Value.{StringValue}
use Rattle.rap_literals.specs.Value.StringValue.{end, gap, next}
use Rattle.rap_literals.specs.declared.cut.Form.TheVariants.{Escaped, Raw}

-- ---- an escape without a fault, as a function

abbrev is_inside : ℕ → Bool
is_inside c = not (nat_eq c 125)

abbrev after_x_digit : Mode → ℕ → List ℕ → Result ℕ Fault × List ℕ
after_x_digit mode a [] = (Err InvalidEscape, [])
after_x_digit mode a (b ∷ rest) = (hex_escape mode (digits_value 16 (a ∷ b ∷ [])), rest)

abbrev after_x : Mode → List ℕ → Result ℕ Fault × List ℕ
after_x mode [] = (Err InvalidEscape, [])
after_x mode (a ∷ cs) = after_x_digit mode a cs

abbrev after_brace : Mode → List ℕ → Result ℕ Fault × List ℕ
after_brace mode cs = (unicode_escape mode (without_underscores (run_of is_inside cs)), tail (after_run is_inside cs))

abbrev after_backslash : Mode → List ℕ → Result ℕ Fault × List ℕ
after_backslash mode [] = (Ok 92, [])
after_backslash mode (c ∷ cs) =
    if nat_eq c 120 then after_x mode cs
    else (if nat_eq c 117 then after_brace mode (tail cs)
    else (ok_or (simple_escape c) InvalidEscape, cs))

abbrev from_start : Mode → List ℕ → Result ℕ Fault × List ℕ
from_start mode [] = (Err InvalidEscape, [])
from_start mode (c ∷ cs) = if nat_eq c 92 then after_backslash mode cs else (plain_character mode c, cs)

other_than : (c d value : ℕ) → simple_escape c ≡ Some value → simple_escape d ≡ None → nat_eq c d ≡ false
other_than c d value e f = ne_eqb c d (λ g. let h : simple_escape c ≡ None = rw g f in let wrong : ⊥ = cc in wrong)

inside : (c : ℕ) → IsDigitOrUnderscore c → is_inside c ≡ true
inside c (inl h) = rw (ne_eqb c 125 (λ e. let f : digit_value c ≡ digit_value 125 = ap digit_value e in absurd (omega arith))) refl
inside c (inr e) = rw e refl

runs : (cs rest : List ℕ) → AllByRecursion IsDigitOrUnderscore cs → (run_of is_inside (cs ++ 125 ∷ rest) ≡ cs) × (after_run is_inside (cs ++ 125 ∷ rest) ≡ 125 ∷ rest)
runs [] rest a = (refl, refl)
runs (c ∷ cs) rest a = let later = runs cs rest a.1 in (rw (inside c a.0) (ap (λ l. c ∷ l) later.0), rw (inside c a.0) later.1)

digits_allowed : (cs : List ℕ) → AreDigits cs → AllByRecursion IsDigitOrUnderscore cs
digits_allowed [] a = absurd a
digits_allowed (c ∷ cs) a = (inl a.0, a.1)

module _ (mode : Mode) where
  by_escape : {cs rest : List ℕ} {outcome : Result ℕ Fault} → Escape mode cs outcome rest → (v : ℕ) → outcome ≡ Ok v → after_backslash mode cs ≡ (outcome, rest)
  by_escape alone v e = refl
  by_escape (simple c value rest q) v e = rw (other_than c 120 value q refl, other_than c 117 value q refl, q) refl
  by_escape (unknown c rest q no_x no_u) v e = let wrong : ⊥ = cc in absurd wrong
  by_escape hex_short_first v e = let wrong : ⊥ = cc in absurd wrong
  by_escape (hex_wrong_first a rest h) v e = let wrong : ⊥ = cc in absurd wrong
  by_escape (hex_short_second a h) v e = let wrong : ⊥ = cc in absurd wrong
  by_escape (hex_wrong_second a b rest h k) v e = let wrong : ⊥ = cc in absurd wrong
  by_escape (hex a b rest h k) v e = refl
  by_escape no_brace_at_end v e = let wrong : ⊥ = cc in absurd wrong
  by_escape (no_brace c rest q) v e = let wrong : ⊥ = cc in absurd wrong
  by_escape (leading_underscore rest) v e = let wrong : ⊥ = cc in absurd wrong
  by_escape (empty rest) v e = let wrong : ⊥ = cc in absurd wrong
  by_escape (unclosed cs a) v e = let wrong : ⊥ = cc in absurd wrong
  by_escape (foreign cs c rest a q) v e = let wrong : ⊥ = cc in absurd wrong
  by_escape (closed cs rest a) v e = let r = runs cs rest (digits_allowed cs a) in rw (r.0, r.1) refl

  by_character : {body rest : List ℕ} {outcome : Result ℕ Fault} → Character mode body outcome rest → (v : ℕ) → outcome ≡ Ok v → from_start mode body ≡ (outcome, rest)
  by_character (plain c rest n) v e = rw (ne_eqb c 92 n) refl
  by_character (escaped cs outcome rest r) v e = by_escape r v e

  value_of : (v w : ℕ) (a b : Result ℕ Fault) → a ≡ b → a ≡ Ok v → b ≡ Ok w → v ≡ w
  value_of v w a b e f g = cc

  character_once : (body rest later : List ℕ) (v w : ℕ) → Character mode body (Ok v) rest → Character mode body (Ok w) later → (v ≡ w) × (rest ≡ later)
  character_once body rest later v w r s =
      let e : (Ok v, rest) ≡ (Ok w, later) = sym (by_character r v refl) ∙ by_character s w refl in
      let f : Ok v ≡ Ok w = ap (λ (p : Result ℕ Fault × List ℕ). p.0) e in
      let g : rest ≡ later = ap (λ (p : Result ℕ Fault × List ℕ). p.1) e in
      (value_of v w (Ok v) (Ok w) f refl refl, g)

  not_empty : (body rest : List ℕ) (v : ℕ) → Character mode body (Ok v) rest → [] ≡ body → ⊥
  not_empty body rest v r e = let f : 0 ≡ length body = ap length e in absurd (omega (arith, takes_one mode r))

  value_once : {body bytes : List ℕ} → StringValue mode body bytes → (other more : List ℕ) → StringValue mode other more → body ≡ other → bytes ≡ more
  value_once end _ _ end e = refl
  value_once end _ _ (gap cs more t) e = let wrong : ⊥ = cc in absurd wrong
  value_once end _ _ (next other w later more n r q t) e = absurd (not_empty other later w r e)
  value_once (gap cs bytes t) _ _ end e = let wrong : ⊥ = cc in absurd wrong
  value_once (gap cs bytes t) _ _ (gap ds more u) e = let f : cs ≡ ds = cc in value_once t (after_run is_gap ds) more u (ap (after_run is_gap) f)
  value_once (gap cs bytes t) _ _ (next other w later more n r q u) e = absurd (n cs (sym e))
  value_once (next body v rest bytes n r q t) _ _ end e = absurd (not_empty body rest v r (sym e))
  value_once (next body v rest bytes n r q t) _ _ (gap ds more u) e = absurd (n ds e)
  value_once (next body v rest bytes n r q t) _ _ (next other w later more m s p u) e =
      let o = character_once other rest later v w (subst (λ l. Character mode l (Ok v) rest) e r) s in
      let f : bytes ≡ more = value_once t later more u o.1 in
      let g : v ≡ w = o.0 in
      rw (e, g, f) refl

  -- ---- whole literals

  pub string_once : (text bytes more : List ℕ) → StringLiteral mode text bytes → StringLiteral mode text more → bytes ≡ more
  string_once text bytes more (with_escapes body after _ q t) (with_escapes other later _ r u) =
      let o = quoted_once mode text Escaped Escaped body other after later q r in
      value_once t (chars other) more u (ap chars o.1)
  string_once text bytes more (with_escapes body after _ q t) (raw other later r) =
      let o = quoted_once mode text Escaped Raw body other after later q r in
      let f = o.0 in let wrong : ⊥ = cc in absurd wrong
  string_once text bytes more (raw body after q) (with_escapes other later _ r u) =
      let o = quoted_once mode text Raw Escaped body other after later q r in
      let f = o.0 in let wrong : ⊥ = cc in absurd wrong
  string_once text bytes more (raw body after q) (raw other later r) = (quoted_once mode text Raw Raw body other after later q r).1

  pub literal_once : (text : List ℕ) (value other : ℕ) → CharacterLiteral mode text value → CharacterLiteral mode text other → value ≡ other
  literal_once text value other h k =
      let o = quoted_once mode text Escaped Escaped h.body k.body h.after k.after h.quoted k.quoted in
      (character_once (chars k.body) [] [] value other (subst (λ (l : List ℕ). Character mode (chars l) (Ok value) []) o.1 h.stands.whole) k.stands.whole).0
