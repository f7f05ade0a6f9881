use Rattle.std.proofs.Common.{◌≡◌, arith}
use Rattle.rap_grammar_rows.proofs.Joins.{row_there}
use Rattle.rap_grammar_rows.specs.Code.{row_places}
use Rattle.rap_grammar_rows.specs.Decode.{set_in}
use Rattle.rap_grammar_rows.proofs.check.row_place.Goals as goal

pub returns : goal.returns
returns c =
    let n : c.row_starts-places.result.now ≡ set_in c.args.category row_places = grind arith in
    row_there c.args.category c.args.row c.from-2.result c.row_starts-places.result.now n (omega arith) c.from-2.ensures
