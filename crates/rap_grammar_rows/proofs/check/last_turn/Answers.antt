use Rattle.std.proofs.Common.{refl}
use Rattle.rap_grammar_rows.proofs.FactLeads.{said}
use Rattle.rap_grammar_rows.proofs.Joins.{last_fact}
use Rattle.rap_grammar_rows.specs.declared.fact.Goal.TheVariants as kind
use Rattle.rap_grammar_rows.proofs.check.last_turn.Goals as goal

pub returns : goal.returns
returns c =
    last_fact c.args.input.now c.args.turn c.in-Row.place c.args.last.start c.args.last.end c.in-Row.field-1
    (said c.args.input.now c.args.last (kind.Row c.in-Row.place c.in-Row.field-1) c.args.last.start c.requires c.in-Row.is refl)
