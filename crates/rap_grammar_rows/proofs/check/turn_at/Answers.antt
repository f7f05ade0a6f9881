use Rattle.rap_grammar_rows.proofs.Joins.{found}
use Rattle.rap_grammar_rows.specs.Code.{sets, turns}
use Rattle.rap_grammar_rows.specs.Decode.{set_in, turn_in}
use Rattle.rap_grammar_rows.specs.Meaning.{at_place}
use Rattle.rap_grammar_rows.proofs.check.turn_at.Goals as goal

pub returns : goal.returns
returns c =
    c.in_ok-place.ensures (set_in (turn_in c.in-Some-Turn.number turns).0 sets) (at_place c.in-Some-Turn.row)
    (turn_in c.in-Some-Turn.number turns).1
    (found c.in_ok-place.place c.in-Some-Turn.field-0-2 c.in-Some-Turn.number c.in-Some-Turn.row c.in-Some-Turn.field-0
    c.in-Some-Turn.ensures c.in-Some-Turn.field-0-is)
