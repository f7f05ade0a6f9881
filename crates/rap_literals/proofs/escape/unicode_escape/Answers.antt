use Rattle.std.proofs.Common.{◌≡◌, ◌∷◌, [], refl, ap, ◌∙◌, arith, ◌≤◌}
use Rattle.std.specs.Char.{digit_value}
use Rattle.rap_lexer.specs.Escape.Escape.{leading_underscore, empty, unclosed, foreign}
use Rattle.rap_lexer.proofs.EscapeRules.{at}
use Rattle.rap_lexer.proofs.EscapeDigits.{at_brace, at_no_brace, not_true, not_false}
use Rattle.rap_literals.proofs.escape.unicode_escape.Goals as goal
use Rattle.rap_literals.proofs.escape.unicode_escape.Goals.{Else-ne}

pub returns-then-ne : goal.returns-then-ne
returns-then-ne c = at_no_brace c.args.mode c.args.rest.now c.bump.new.self c.bump.result c.bump.ensures (not_true _ _ c.ne.ensures c.if-ne.true)

braced : (c : Else-ne) → c.args.rest.now ≡ 123 ∷ c.bump.new.self
braced c = at_brace c.args.rest.now c.bump.new.self c.bump.result c.bump.ensures (not_false _ _ c.ne.ensures c.if-ne.false)

pub returns-in-None : goal.returns-in-None
returns-in-None c =
    let e = c.in-None.ensures in
    at (unclosed [] tt) (ap (λ l. 117 ∷ l) (braced (goal.at.returns-in-None c).Else-ne ∙ ap (λ l. 123 ∷ l) e.0)) refl e.1

pub returns-in-Some-eq95 : goal.returns-in-Some-eq95
returns-in-Some-eq95 c =
    let a = c.in-Some-eq95 in
    at (leading_underscore c.bump-2.new.self) (ap (λ l. 117 ∷ l) (braced (goal.at.returns-in-Some-eq95 c).Else-ne ∙ ap (λ l. 123 ∷ l) (a.ensures ∙ ap (λ x. x ∷ c.bump-2.new.self) a.field-0-test))) refl refl

pub returns-in-Some-eq125 : goal.returns-in-Some-eq125
returns-in-Some-eq125 c =
    let a = c.in-Some-eq125 in
    at (empty c.bump-2.new.self) (ap (λ l. 117 ∷ l) (braced (goal.at.returns-in-Some-eq125 c).Else-ne ∙ ap (λ l. 123 ∷ l) (a.ensures ∙ ap (λ x. x ∷ c.bump-2.new.self) a.field-0-test))) refl refl

pub returns-in-None-to_digit : goal.returns-in-None-to_digit
returns-in-None-to_digit c =
    let f : 16 ≤ digit_value c.in-Some.c = omega (arith, c.in-None-to_digit.ensures.value) in
    at (foreign [] c.in-Some.c c.bump-2.new.self tt (f, c.in-Some.c-test.0.1, c.in-Some.c-test.1)) (ap (λ l. 117 ∷ l) (braced (goal.at.returns-in-None-to_digit c).Else-ne ∙ ap (λ l. 123 ∷ l) c.in-Some.ensures)) refl refl
