use Rattle.rap_grammar_rows.proofs.Joins.{no_fold_fact}
use Rattle.rap_grammar_rows.proofs.check.no_fold.Goals as goal

pub returns : goal.returns
returns c = no_fold_fact c.args.input.now c.args.place c.args.number c.args.at
