use Rattle.std.proofs.Common.{◌≡◌, false, sym, ◌∙◌}
use Rattle.rap_lexer.specs.Escape.{is_gap}
use Rattle.rap_lexer.proofs.Runs.{stops, ends}
use Rattle.rap_literals.proofs.body.skip_gap.Goals as goal

pub returns-then-not-is_gap : goal.returns-then-not-is_gap
returns-then-not-is_gap c =
    let outside : is_gap c.in-Some.c ≡ false = cc in
    sym (stops is_gap c.gap.rest c.in-Some.c (sym c.first.ensures ∙ c.in-Some.is) outside) ∙ c.gap.invariant

pub returns-in_default : goal.returns-in_default
returns-in_default c = sym (ends is_gap c.gap.rest (sym c.first.ensures ∙ c.in_default.is)) ∙ c.gap.invariant
