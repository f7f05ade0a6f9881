-- Plain characters by their bytes.
use Rattle.std.proofs.Common.{◌≡◌, ◌≢◌, ◌≤◌, ℕ, Bool, true, false, ◌==◌, not, List, [], ◌∷◌, ◌++◌, Option, Some, None, MatchOption, Ok, length, drop, get_or, chars, IsUtf8, IsAscii, refl, ap, sym, ◌∙◌, subst, arith, ◌&&◌}
use Rattle.std.proofs.lemmas.Bool.{and_parts, eqb-false, leb-true}
use Rattle.std.proofs.lemmas.Str.{chars-append, chars-IsAscii, IsUtf8-from_ascii, IsCharBoundary-at_seam}
use Rattle.std.proofs.lemmas.Str.Ascii.{IsAscii-nil, IsAscii-cons}
use Rattle.std.specs.Prelude.{nat_le}
use Rattle.std.specs.Str.{byte}
use Rattle.rap_base.specs.TokenKind.{CHAR}
use Rattle.rap_base.specs.declared.edition.Edition.{Edition}
use Rattle.rap_lexer.specs.Class.{is_in}
use Rattle.rap_lexer.specs.Common.{next_fits}
use Rattle.rap_lexer.specs.Escape.{plain_character, simple_escape, Character}
use Rattle.rap_lexer.specs.Escape.Character.{plain, escaped}
use Rattle.rap_lexer.specs.Escape.Escape.{simple}
use Rattle.rap_lexer.specs.Escape.CharacterReports.{one}
use Rattle.rap_lexer.specs.First.{First}
use Rattle.rap_lexer.specs.Lexeme.{literal}
use Rattle.rap_lexer.specs.Plain.{begins_suffix}
use Rattle.rap_lexer.specs.PlainLiteral.{is_bare, is_bare_character, is_escaped_character, is_simple, IsPlainLiteral}
use Rattle.rap_lexer.specs.Quoted.{CharacterEnds, IsTick, starts_lifetime}
use Rattle.rap_lexer.specs.Run.{next_in, after_suffix}
use Rattle.rap_lexer.specs.declared.escape.Mode.TheVariants.{Char}
use Rattle.rap_lexer.specs.declared.lexer.run.Class.TheVariants.{White, IdentStart, Digit}
use Rattle.rap_lexer.proofs.AsciiClasses.{starts}
use Rattle.rap_lexer.proofs.AsciiRuns.{utf8_rest}
use Rattle.rap_lexer.proofs.Characters.{escape_ends}
use Rattle.rap_lexer.proofs.CommonTokens.{without}
use Rattle.rap_lexer.proofs.PlainNumbers.{no_suffix}
use Rattle.rap_lexer.proofs.PlainStrings.{simple_low, some_of}

first_tick : (edition : Edition) (c : ℕ) (cs rest : List ℕ) → is_in White c ≡ false → is_in IdentStart c ≡ false → is_in Digit c ≡ false → (c == byte "/") ≡ false → (c == byte "'") ≡ true
    → IsTick cs (literal CHAR Char true) rest → First edition (c ∷ cs) (literal CHAR Char true) rest
first_tick edition c cs rest w s d k t h = rw (w, s, d, k, t) h

first_character : (edition : Edition) (c : ℕ) (rest : List ℕ) → (c == 92) ≡ false → next_in IdentStart rest ≡ false → First edition (39 ∷ c ∷ 39 ∷ rest) (literal CHAR Char true) rest
first_character edition c rest n s =
    let suffix : rest ≡ after_suffix rest = rw s refl in
    let ends : CharacterEnds (c ∷ 39 ∷ rest) true rest = rw n (refl, refl) in
    first_tick edition 39 (c ∷ 39 ∷ rest) rest (without White 39 (omega arith) refl) (without IdentStart 39 (omega arith) (sym (starts 39))) refl refl refl
    (true, rest, ends, refl, suffix)

bare_literal : (c : ℕ) (t : List ℕ) → IsUtf8 (39 ∷ c ∷ 39 ∷ t) → is_bare c ≡ true → next_fits begins_suffix t ≡ false → IsPlainLiteral (39 ∷ c ∷ 39 ∷ t) CHAR Char 3
bare_literal c t u b h =
    let printing = and_parts (nat_le 32 c) _ b in
    let small = and_parts (nat_le c 126) _ printing.1 in
    let parts = and_parts (not (c == 39)) (not (c == 92)) small.1 in
    let low : 32 ≤ c = leb-true 32 c printing.0 in
    let high : c ≤ 126 = leb-true c 126 small.0 in
    let quote : (c == 39) ≡ false = is_not (c == 39) parts.0 in
    let backslash : (c == 92) ≡ false = is_not (c == 92) parts.1 in
    let feed : (c == 10) ≡ false = grind (arith, low) in
    let tab : (c == 9) ≡ false = grind (arith, low) in
    let return : (c == 13) ≡ false = grind (arith, low) in
    let xs : List ℕ = 39 ∷ c ∷ 39 ∷ [] in
    let ascii : IsAscii xs = IsAscii-cons 39 (c ∷ 39 ∷ []) (omega arith) (IsAscii-cons c (39 ∷ []) (omega (arith, high)) (IsAscii-cons 39 [] (omega arith) IsAscii-nil)) in
    let alone : IsAscii (c ∷ []) = IsAscii-cons c [] (omega (arith, high)) IsAscii-nil in
    let ut : IsUtf8 t = utf8_rest xs t ascii u in
    let spelt : chars (39 ∷ c ∷ 39 ∷ t) ≡ 39 ∷ c ∷ 39 ∷ chars t = chars-append xs t (IsUtf8-from_ascii xs ascii) ∙ ap (λ l. l ++ chars t) (chars-IsAscii xs ascii) in
    let okay : plain_character Char c ≡ Ok c = rw (feed, tab, quote) refl in
    let read : Character Char (c ∷ []) (Ok c) [] = subst (λ o. Character Char (c ∷ []) o []) okay (plain c [] (eqb-false c 92 backslash)) in
    record {
      token = λ edition. rw spelt (first_character edition c (chars t) backslash (no_suffix t ut h));
      border = IsCharBoundary-at_seam (39 ∷ c ∷ 39 ∷ t) xs t refl ut;
      body = c ∷ [];
      rest = t;
      split = refl;
      size = omega arith;
      nothing = rw (chars-IsAscii (c ∷ []) alone) (one (c ∷ []) c (λ rest k. let l : c ≡ 13 = cc in (eqb-false c 13 return) l) read);
    }
  where
    is_not : (x : Bool) → not x ≡ true → x ≡ false
    is_not true e = cc
    is_not false e = refl

pub quoted : (text : List ℕ) (o : Option ℕ) → IsUtf8 text → 3 ≤ length text → get_or text 0 0 ≡ 39 → is_bare (get_or text 1 0) ≡ true → get_or text 2 0 ≡ 39 → MatchOption o (next_fits begins_suffix (drop 3 text) ≡ true) (λ n. (n ≡ 3) × (next_fits begins_suffix (drop 3 text) ≡ false))
    → MatchOption o (is_bare_character text ≡ false) (λ n. IsPlainLiteral text CHAR Char n)
quoted [] o u l a b d h = absurd (omega (arith, l))
quoted (x ∷ []) o u l a b d h = absurd (omega (arith, l))
quoted (x ∷ y ∷ []) o u l a b d h = absurd (omega (arith, l))
quoted (x ∷ y ∷ z ∷ t) None u l a b d h = rw (a, d, b, h) refl
quoted (x ∷ y ∷ z ∷ t) (Some n) u l a b d h =
    let e : x ∷ y ∷ z ∷ t ≡ 39 ∷ y ∷ 39 ∷ t = ap (λ k. k ∷ y ∷ z ∷ t) a ∙ ap (λ k. 39 ∷ y ∷ k ∷ t) d in
    rw (e, h.0) (bare_literal y t (rw e at u) b h.1)

-- ---- An escape of one character

tick_escape : (b c : ℕ) (rest : List ℕ) → is_in IdentStart b ≡ false → is_in Digit b ≡ false → CharacterEnds (b ∷ c ∷ 39 ∷ rest) true rest → next_in IdentStart rest ≡ false → IsTick (b ∷ c ∷ 39 ∷ rest) (literal CHAR Char true) rest
tick_escape b c rest s d ends n =
    let life : starts_lifetime (b ∷ c ∷ 39 ∷ rest) ≡ false = rw (s, d) (elim (c == 39) as (λ z. (not z && false) ≡ false) [
      | true ↦ refl
      | false ↦ refl
    ]) in
    let suffix : rest ≡ after_suffix rest = rw n refl in
    rw life (true, rest, ends, refl, suffix)

no_return : (cs rest : List ℕ) → 92 ∷ cs ≢ 13 ∷ rest
no_return cs rest e = let same : get_or (92 ∷ cs) 0 0 ≡ get_or (13 ∷ rest) 0 0 = ap (λ l. get_or l 0 0) e in absurd (omega (arith, same))

escape_literal : (c : ℕ) (t : List ℕ) → IsUtf8 (39 ∷ 92 ∷ c ∷ 39 ∷ t) → is_simple c ≡ true → next_fits begins_suffix t ≡ false → IsPlainLiteral (39 ∷ 92 ∷ c ∷ 39 ∷ t) CHAR Char 4
escape_literal c t u b h =
    let high = simple_low c b in
    let v = some_of (simple_escape c) b in
    let xs : List ℕ = 39 ∷ 92 ∷ c ∷ 39 ∷ [] in
    let pair : List ℕ = 92 ∷ c ∷ [] in
    let ascii : IsAscii xs = IsAscii-cons 39 (92 ∷ c ∷ 39 ∷ []) (omega arith) (IsAscii-cons 92 (c ∷ 39 ∷ []) (omega arith) (IsAscii-cons c (39 ∷ []) high (IsAscii-cons 39 [] (omega arith) IsAscii-nil))) in
    let both : IsAscii pair = IsAscii-cons 92 (c ∷ []) (omega arith) (IsAscii-cons c [] high IsAscii-nil) in
    let ut : IsUtf8 t = utf8_rest xs t ascii u in
    let spelt : chars (39 ∷ 92 ∷ c ∷ 39 ∷ t) ≡ 39 ∷ 92 ∷ c ∷ 39 ∷ chars t = chars-append xs t (IsUtf8-from_ascii xs ascii) ∙ ap (λ l. l ++ chars t) (chars-IsAscii xs ascii) in
    let tick = tick_escape 92 c (chars t) (without IdentStart 92 (omega arith) (sym (starts 92))) refl (escape_ends c (chars t)) (no_suffix t ut h) in
    record {
      token = λ edition. rw spelt (first_tick edition 39 (92 ∷ c ∷ 39 ∷ chars t) (chars t) (without White 39 (omega arith) refl) (without IdentStart 39 (omega arith) (sym (starts 39))) refl refl refl tick);
      border = IsCharBoundary-at_seam (39 ∷ 92 ∷ c ∷ 39 ∷ t) xs t refl ut;
      body = pair;
      rest = t;
      split = refl;
      size = omega arith;
      nothing = rw (chars-IsAscii pair both) (one pair v.0 (λ rest k. no_return (c ∷ []) rest k) (escaped (c ∷ []) (Ok v.0) [] (simple c v.0 [] v.1)));
    }

pub quoted_escape : (text : List ℕ) (o : Option ℕ) → IsUtf8 text → 4 ≤ length text → get_or text 0 0 ≡ 39 → get_or text 1 0 ≡ 92 → is_simple (get_or text 2 0) ≡ true → get_or text 3 0 ≡ 39 → MatchOption o (next_fits begins_suffix (drop 4 text) ≡ true) (λ n. (n ≡ 4) × (next_fits begins_suffix (drop 4 text) ≡ false))
    → MatchOption o (is_escaped_character text ≡ false) (λ n. IsPlainLiteral text CHAR Char n)
quoted_escape [] o u l a s b d h = absurd (omega (arith, l))
quoted_escape (w ∷ []) o u l a s b d h = absurd (omega (arith, l))
quoted_escape (w ∷ x ∷ []) o u l a s b d h = absurd (omega (arith, l))
quoted_escape (w ∷ x ∷ y ∷ []) o u l a s b d h = absurd (omega (arith, l))
quoted_escape (w ∷ x ∷ y ∷ z ∷ t) None u l a s b d h = rw (a, s, b, d, h) refl
quoted_escape (w ∷ x ∷ y ∷ z ∷ t) (Some n) u l a s b d h =
    let e : w ∷ x ∷ y ∷ z ∷ t ≡ 39 ∷ 92 ∷ y ∷ 39 ∷ t = ap (λ k. k ∷ x ∷ y ∷ z ∷ t) a ∙ (ap (λ k. 39 ∷ k ∷ y ∷ z ∷ t) s ∙ ap (λ k. 39 ∷ 92 ∷ y ∷ k ∷ t) d) in
    rw (e, h.0) (escape_literal y t (rw e at u) b h.1)
