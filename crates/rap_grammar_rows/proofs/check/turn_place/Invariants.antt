use Rattle.std.proofs.Common.{ℕ, List}
use Rattle.rap_grammar_rows.specs.Meaning.{at_place}
use Rattle.rap_grammar_table.specs.Table.{Items, HasWay}
use Rattle.rap_grammar_rows.proofs.check.turn_place.Given as goal

abbrev pub invariant-skips : goal.invariant-skips
invariant-skips l =
    (js : List ℕ) (a : Items) (m : ℕ) → HasWay (at_place l.place) js a m → HasWay (at_place l.first) js a m
