use Rattle.std.proofs.Common.{rules}
use Rattle.rap_grammar_rows.proofs.Joins.{category_fact}
use Rattle.rap_grammar_rows.specs.Claims.{From, row_point}
use Rattle.rap_grammar_rows.proofs.check.category.Goals as goal

pub returns : goal.returns
returns c =
    let f : From c.args.input.now c.args.tokens.1 c.in-Some-2.field-0.shape (row_point c.in-Some.place c.args.tokens.0) =
    search rules in
    category_fact c.args.input.now c.args.numbers.0 c.args.numbers.1 c.in-Some.place c.args.tokens.0 c.args.tokens.1
    c.in-Some-2.field-0.shape c.in-Some.ensures f
