use Rattle.std.proofs.Common.{◌∷◌, refl, ap, ◌∙◌, arith, sym, ◌≤◌}
use Rattle.std.specs.Char.{digit_value}
use Rattle.rap_lexer.proofs.EscapeRules.{at}
use Rattle.rap_lexer.proofs.EscapeDigits.{ends, stops, closes, past_underscore, past_digit}
use Rattle.rap_literals.proofs.escape.unicode_digits.Goals as goal

pub returns-in-None : goal.returns-in-None
returns-in-None c = λ d e. at (ends _ _ _ _ _ c.digits.invariant c.args.mode d (omega (arith, e, c.requires)) c.in-None.ensures.0) refl refl c.in-None.ensures.1

pub returns-in-Some-eq125 : goal.returns-in-Some-eq125
returns-in-Some-eq125 c = λ d e.
    let a = c.in-Some-eq125 in
    closes _ _ _ _ _ c.digits.invariant c.args.mode d (omega (arith, e, c.requires)) c.bump.new.self c.close_unicode.result (a.ensures ∙ ap (λ x. x ∷ c.bump.new.self) a.field-0-test) e c.close_unicode.ensures

pub digits-preserved-in-Some-eq95 : goal.digits-preserved-in-Some-eq95
digits-preserved-in-Some-eq95 c =
    let a = c.in-Some-eq95 in
    past_underscore _ _ _ _ _ c.digits.invariant c.bump.new.self (a.ensures ∙ ap (λ x. x ∷ c.bump.new.self) a.field-0-test)

pub returns-in_default : goal.returns-in_default
returns-in_default c = λ d e.
    let f : 16 ≤ digit_value c.in-Some.c = omega (arith, c.in_default.ensures.value) in
    stops _ _ _ _ _ c.digits.invariant c.args.mode d (omega (arith, e, c.requires)) c.in-Some.c c.bump.new.self c.in-Some.ensures (f, c.in-Some.c-test.1, c.in-Some.c-test.0.1)

pub digits-preserved : goal.digits-preserved
digits-preserved c =
    let a = c.in-Some-to_digit.ensures.value in
    past_digit _ _ _ _ _ c.digits.invariant c.in-Some.c c.in-Some-to_digit.digit c.bump.new.self _ _ c.in-Some.ensures a.0 (sym a.1) c.min-digits.ensures c.min-value.ensures
