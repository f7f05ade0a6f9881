use Rattle.rap_grammar_rows.proofs.Joins.{skipped}
use Rattle.rap_grammar_rows.proofs.check.turn_place.Goals as goal

pub skips-preserved : goal.skips-preserved
skips-preserved c js a m w =
    c.skips.invariant js a m
    (skipped c.skips.place c.in-Some-Turn.next c.in-Some-Turn.field-0-0 c.in-Some-Turn.field-0-1 m js a
    c.in-Some-Turn.field-0 c.in-Some-Turn.ensures c.in-Some-Turn.field-0-is w)

pub skips-init : goal.skips-init
skips-init c js a m w = w
