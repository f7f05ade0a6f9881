-- First tokens that their first character tells.
use Rattle.std.proofs.Common.{◌≡◌, ◌<◌, ℕ, true, false, List, ◌∷◌, refl, ap, sym, ◌∙◌, arith, ◌&&◌}
use Rattle.std.proofs.lemmas.Bool.{and_parts, leb-true, lt-ltb}
use Rattle.std.specs.Prelude.{nat_le}
use Rattle.rap_base.specs.declared.edition.Edition.{Edition}
use Rattle.rap_lexer.specs.Class.{is_in, is_ascii_in}
use Rattle.rap_lexer.specs.First.{First, IsSign, IsSlash, IsHash}
use Rattle.rap_lexer.specs.Number.{IsNumber}
use Rattle.rap_lexer.specs.Quoted.{IsTick}
use Rattle.rap_lexer.specs.declared.lexer.lexeme.Lexeme.{Lexeme}
use Rattle.rap_lexer.specs.declared.lexer.run.Class.TheVariants.{White, IdentStart, Digit}
use Rattle.rap_lexer.proofs.AsciiClasses.{starts}
use Rattle.rap_lexer.proofs.CommonClasses.{digit_no_white, digit_no_word}
use Rattle.rap_lexer.proofs.CommonTokens.{without}

module _ (edition : Edition) (cs : List ℕ) (token : Lexeme) (rest : List ℕ) where
  by_sign : (c : ℕ) → is_in White c ≡ false → is_in IdentStart c ≡ false → is_in Digit c ≡ false → IsSign edition c cs token rest → First edition (c ∷ cs) token rest
  by_sign c w s d h = rw (w, s, d) h

  by_digit : (c : ℕ) → is_in White c ≡ false → is_in IdentStart c ≡ false → is_in Digit c ≡ true → IsNumber c cs token rest → First edition (c ∷ cs) token rest
  by_digit c w s d h = rw (w, s, d) h

  pub slash_first : (c : ℕ) (text : List ℕ) → text ≡ c ∷ cs → c ≡ 47 → IsSlash cs token rest → First edition text token rest
  slash_first c text e q h = rw (e, q) (by_sign 47 (without White 47 (omega arith) refl) (without IdentStart 47 (omega arith) (sym (starts 47))) refl h)

  pub tick_first : (c : ℕ) (text : List ℕ) → text ≡ c ∷ cs → c ≡ 39 → IsTick cs token rest → First edition text token rest
  tick_first c text e q h = rw (e, q) (by_sign 39 (without White 39 (omega arith) refl) (without IdentStart 39 (omega arith) (sym (starts 39))) refl h)

  pub hash_first : (c : ℕ) (text : List ℕ) → text ≡ c ∷ cs → c ≡ 35 → IsHash edition cs token rest → First edition text token rest
  hash_first c text e q h = rw (e, q) (by_sign 35 (without White 35 (omega arith) refl) (without IdentStart 35 (omega arith) (sym (starts 35))) refl h)

  pub digit_first : (c : ℕ) (text : List ℕ) → text ≡ c ∷ cs → is_in Digit c ≡ true → IsNumber c cs token rest → First edition text token rest
  digit_first c text e d h =
      let low : c < 128 = omega (arith, leb-true c 57 (and_parts (nat_le 48 c) (nat_le c 57) d).1) in
      let digit : is_ascii_in Digit c ≡ true = ap (λ x. x && is_in Digit c) (lt-ltb c 128 low) ∙ d in
      rw e (by_digit c (without White c low (digit_no_white c (omega (arith, low)) digit)) (without IdentStart c low (digit_no_word c (omega (arith, low)) digit)) d h)
