use Rattle.std.proofs.Common.{◌∷◌, refl, ap, ◌∙◌, arith, sym}
use Rattle.rap_lexer.specs.Escape.Escape.{hex_short_first, hex_short_second, hex_wrong_first, hex_wrong_second, hex}
use Rattle.rap_lexer.proofs.EscapeRules.{at, two_within, two_over}
use Rattle.rap_literals.proofs.escape.hex_escape.Goals as goal

pub returns-in_default : goal.returns-in_default
returns-in_default c =
    let e = c.in_default.ensures in
    at hex_short_first (ap (λ l. 120 ∷ l) e.0) refl e.1

pub returns-in_default-to_digit : goal.returns-in_default-to_digit
returns-in_default-to_digit c =
    at (hex_wrong_first c.in-Some.high c.bump.new.self (omega (arith, c.in_default-to_digit.ensures.value))) (ap (λ l. 120 ∷ l) c.in-Some.ensures) refl refl

pub returns-in_default-bump : goal.returns-in_default-bump
returns-in_default-bump c =
    let e = c.in_default-bump.ensures in
    at (hex_short_second c.in-Some.high c.in-Some-to_digit.ensures.value.0) (ap (λ l. 120 ∷ l) (c.in-Some.ensures ∙ ap (λ l. c.in-Some.high ∷ l) e.0)) refl e.1

pub returns-in_default-to_digit-2 : goal.returns-in_default-to_digit-2
returns-in_default-to_digit-2 c =
    at (hex_wrong_second c.in-Some.high c.in-Some-bump.low c.bump-2.new.self c.in-Some-to_digit.ensures.value.0 (omega (arith, c.in_default-to_digit-2.ensures.value)))
    (ap (λ l. 120 ∷ l) (c.in-Some.ensures ∙ ap (λ l. c.in-Some.high ∷ l) c.in-Some-bump.ensures)) refl refl

pub returns-then-value-hex_limit : goal.returns-then-value-hex_limit
returns-then-value-hex_limit c =
    let a = c.in-Some-to_digit.ensures.value in
    let b = c.in-Some-to_digit-2.ensures.value in
    at (hex c.in-Some.high c.in-Some-bump.low c.bump-2.new.self a.0 b.0)
    (ap (λ l. 120 ∷ l) (c.in-Some.ensures ∙ ap (λ l. c.in-Some.high ∷ l) c.in-Some-bump.ensures))
    (two_within c.args.mode c.in-Some.high c.in-Some-bump.low c.in-Some-to_digit.high c.in-Some-to_digit-2.low (sym a.1) (sym b.1) (omega (arith, c.hex_limit.ensures))) refl

pub returns-else-value-hex_limit : goal.returns-else-value-hex_limit
returns-else-value-hex_limit c =
    let a = c.in-Some-to_digit.ensures.value in
    let b = c.in-Some-to_digit-2.ensures.value in
    at (hex c.in-Some.high c.in-Some-bump.low c.bump-2.new.self a.0 b.0)
    (ap (λ l. 120 ∷ l) (c.in-Some.ensures ∙ ap (λ l. c.in-Some.high ∷ l) c.in-Some-bump.ensures))
    (two_over c.args.mode c.in-Some.high c.in-Some-bump.low c.in-Some-to_digit.high c.in-Some-to_digit-2.low (sym a.1) (sym b.1) (omega (arith, c.hex_limit.ensures))) refl
