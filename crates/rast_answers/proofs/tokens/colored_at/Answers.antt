use Rattle.std.proofs.Common.{◌∙◌, sym}
use Rattle.rast_answers.proofs.TokenLaws.{colored, uncolored}
use Rattle.rast_answers.proofs.tokens.colored_at.Goals as goal

pub returns-then-not-is_asked : goal.returns-then-not-is_asked
returns-then-not-is_asked c =
    uncolored c.args.from c.args.to c.args.index c.args.elements.now c.in_ok-element.element.now (sym c.in_ok-element.ensures)
    (sym c.is_asked.ensures ∙ c.if-not-is_asked.true)

pub returns : goal.returns
returns c =
    rw (c.start.ensures, c.end.ensures) (
    colored c.args.from c.args.to c.args.index c.args.elements.now c.in_ok-element.element.now c.in_ok-class.class (sym c.in_ok-element.ensures)
    (sym c.is_asked.ensures ∙ c.if-not-is_asked.false) (sym c.in_ok-class.ensures)
    )
